-- Epistemic models and event models as they are usually defined, at any type of worlds and of events.
-- Models are finite: their worlds are those of a list. Assumes nothing.
use Rattle.std.specs.Prelude.{ℕ, Bool, true, not, ◌&&◌, ◌||◌, T, List, filter}
use Rattle.epistemic.specs.Lists.{◌∈◌, every, some, implies, pairs}
use Rattle.sheets.specs.Formulas.{Formula, top, letter, neg, and, or, K, M}

-- worlds, which of them the agent cannot tell apart, and which letters hold at each
pub record Model (W : Type 0) : Type 0 where
  pub worlds : List W
  pub alike : W → W → Bool
  pub holds : ℕ → W → Bool

-- events, which of them the agent cannot tell apart, when each can happen, and the value that it gives each letter
-- as a formula about the world before; `letter i` where it leaves letter i
pub record EventModel (E : Type 0) : Type 0 where
  pub events : List E
  pub alike : E → E → Bool
  pub pre : E → Formula
  pub post : E → ℕ → Formula

-- the law of both: alike is an equivalence on what is listed
pub record Equivalence {W : Type 0} (ws : List W) (alike : W → W → Bool) : Type 0 where
  pub reflexive : (u : W) → u ∈ ws → T (alike u u)
  pub symmetric : (u v : W) → u ∈ ws → v ∈ ws → T (alike u v) → T (alike v u)
  pub transitive : (u v w : W) → u ∈ ws → v ∈ ws → w ∈ ws → T (alike u v) → T (alike v w) → T (alike u w)

module _ {W : Type 0} (m : Model W) where
  -- the formula holds at a world
  abbrev pub sat : W → Formula → Bool
  sat w top = true
  sat w (letter i) = m.holds i w
  sat w (neg f) = not (sat w f)
  sat w (and f g) = sat w f && sat w g
  sat w (or f g) = sat w f || sat w g
  sat w (K f) = every (λ v. implies (m.alike w v) (sat v f)) m.worlds
  sat w (M f) = some (λ v. m.alike w v && sat v f) m.worlds

  -- the formula is true in the model: it holds at all worlds
  abbrev pub valid : Formula → Bool
  valid f = every (λ w. sat w f) m.worlds

  -- the information cell of a world: the model of all that is alike to it
  abbrev pub information : W → Model W
  information w = record { worlds = filter (m.alike w) m.worlds; alike = m.alike; holds = m.holds }

module _ {W E : Type 0} (m : Model W) (e : EventModel E) where
  -- the product update: a world for each world and each event that can happen there
  abbrev pub product : Model (W × E)
  product =
      record {
        worlds = filter (λ x. sat m x.0 (e.pre x.1)) (pairs m.worlds e.events);
        alike = λ x y. m.alike x.0 y.0 && e.alike x.1 y.1;
        holds = λ i x. sat m x.0 (e.post x.1 i);
      }

  -- [e, x] f: after event x, if it can happen, f holds
  abbrev pub after_event : E → Formula → W → Bool
  after_event x f w = implies (sat m w (e.pre x)) (sat product (w, x) f)

  -- [e] f: after each event f holds
  abbrev pub after : Formula → W → Bool
  after f w = every (λ x. after_event x f w) e.events

  -- ⟨e⟩ f: not after each event does f fail
  abbrev pub may_after : Formula → W → Bool
  may_after f w = not (after (neg f) w)

  -- ⟨e⟩ ⊤ is true in the model
  abbrev pub applicable : Bool
  applicable = every (may_after top) m.worlds
