-- What a bench does, and what start and step do to a session: relations between what was before, the answer, and what is
-- after. Assumes nothing.
use Rattle.std.specs.Prelude.{◌≡◌, ℕ, zero, suc, ◌+◌, Bool, cond, T, Some, None, Ok, Err, Option, Result}
use mathlib.Core.List.{Memᴰ}
use Rattle.std.specs.List.{slice_get}
use Rattle.planning.specs.Meaning.{Meaning}
use Rattle.planning.specs.Finding.{place_of}
use Rattle.planning.specs.Ranks.{some_of, Ranked}
use Rattle.session.specs.declared.plain.Row.{Row}
use Rattle.session.specs.declared.plain.Walk.{Walk}
use Rattle.session.specs.declared.stops.AskStop.{AskStop}
use Rattle.session.specs.declared.stops.StartStop.{StartStop}
use Rattle.session.specs.declared.stops.StepStop.{StepStop}
use Rattle.session.specs.declared.calls.Step.{Step}
use Rattle.session.specs.declared.calls.Step.TheVariants.{Goal, Acted}
use Rattle.session.specs.ClosedForm.{progress, known, known_rows}
use Rattle.session.specs.Views.{View, places, act_in}
use Rattle.session.specs.Stops.{step_number}
use Rattle.session.specs.Calls.{Stands, row_of, ask_answer}

-- a bench by its meaning: the state that it stands in, and whether it is ready
pub record Post (S : Type 0) : Type 0 where
  pub state : S
  pub ready : Bool

-- what a bench means, by the functions that tell its state and whether it is ready
abbrev pub post_of : {K S : Type 0} → (K → S) → (K → Bool) → K → Post S
post_of stands fit k = record { state = stands k; ready = fit k }

-- what an act adds to the acts done: each counts as one
abbrev pub cost : ℕ → ℕ
cost a = 1

-- what start answers to a state's rank
abbrev pub ranked_answer : Option ℕ → Result ℕ StartStop
ranked_answer None = Err StartStop.Blank
ranked_answer (Some k) = Ok k

-- what start answers where ask would answer so of the bench's state
abbrev pub start_answer : Result Row AskStop → Result ℕ StartStop
start_answer (Err AskStop.Working) = Err StartStop.Working
start_answer (Err AskStop.Full) = Err StartStop.Full
start_answer (Err AskStop.Unlisted) = Err StartStop.Unlisted
start_answer (Ok r) = ranked_answer r.rank

-- all of a session but its walk is as it was
pub record OnlyWalk {S : Type 0} (v v' : View S) : Type 0 where
  pub states : v'.states ≡ v.states
  pub rows : v'.rows ≡ v.rows
  pub listed : v'.plain.listed ≡ v.plain.listed
  pub progress : v'.plain.progress ≡ v.plain.progress

module _ {S : Type 0} (m : Meaning S) where
  -- the bench, ready before, has come by the act to a state that is the same as one of the outcomes
  abbrev pub Carries : Post S → ℕ → Post S → Type 0
  Carries b a b' = T b.ready × ((o : S) × (Memᴰ o (m.outcomes b.state a) × T (m.same o b'.state)))

  -- the number that carrying an act owes: 15 where the bench is not ready, then 16 where the act is not applicable
  abbrev pub carry_owes : Post S → ℕ → ℕ
  carry_owes b a = cond b.ready (cond (some_of (m.outcomes b.state a)) 0 16) 15

  -- what carrying an act leaves, by its number: the bench has moved, or is as it was
  abbrev pub CarryLeaves : Post S → ℕ → ℕ → Post S → Type 0
  CarryLeaves b a zero b' = Carries b a b'
  CarryLeaves b a (suc k) b' = b' ≡ b

  -- carrying an act, with the number of its answer
  pub record Carried (b : Post S) (a number : ℕ) (b' : Post S) : Type 0 where
    pub number_is : number ≡ carry_owes b a
    pub leaves : CarryLeaves b a number b'

  -- the walk after a start: at the place of the bench's state with no act done, or as it was
  abbrev pub WalkBegun : ℕ → View S → S → Result ℕ StartStop → Option Walk → Type 0
  WalkBegun u v s (Err e) w = w ≡ v.plain.walk
  WalkBegun u v s (Ok k) None = ⊥
  WalkBegun u v s (Ok k) (Some w) = (Some w.place ≡ place_of m (known m (places v) u) s) × (w.acts ≡ 0)

  -- start at a bench that stands as b
  pub record Started (b : Post S) (v : View S) (r : Result ℕ StartStop) (v' : View S) : Type 0 where
    pub answer : (u : ℕ) → Stands m u v → r ≡ start_answer (ask_answer (progress m (places v) u).standing (row_of m (places v) u b.state))
    pub walk : (u : ℕ) → Stands m u v → WalkBegun u v b.state r v'.plain.walk
    pub rest : OnlyWalk v v'

  -- which answer a step gives at the state where its walk stands: 0 the goal, 1 an act, else the stop of that number
  abbrev pub step_at : Option S → Post S → ℕ
  step_at None b = 13
  step_at (Some s) b = cond (m.same s b.state) (cond (m.goal s) 0 (cond b.ready 1 15)) 14

  -- which answer a step gives, by its walk
  abbrev pub step_case : ℕ → ℕ → Option Walk → Post S → ℕ
  step_case n u None b = 13
  step_case n u (Some w) b = step_at (slice_get (known m n u) w.place) b

  -- a step that is not refused and finds no goal: the act of the walk's row is carried out, and the walk moves along
  pub record Moved (u : ℕ) (v : View S) (b : Post S) (a k : ℕ) (b' : Post S) (w w' : Walk) : Type 0 where
    pub act_is : act_in (slice_get (known_rows m (places v) u) w.place) ≡ Some a
    pub carried : Carries b a b'
    pub rank_is : Ranked m b'.state (Some k)
    pub place_is : Some w'.place ≡ place_of m (known m (places v) u) b'.state
    pub acts_are : w'.acts ≡ w.acts + cost a

  -- what a step does to walk and bench, by its answer
  abbrev pub StepKept : ℕ → View S → Post S → Result Step StepStop → Post S → View S → Option Walk → Option Walk → Type 0
  StepKept u v b (Err e) b' v' w w' = (step_number {A = Step} (Err e) ≡ step_case (places v) u w b) × ((b' ≡ b) × (v' ≡ v))
  StepKept u v b (Ok Goal) b' v' w w' = (step_case (places v) u w b ≡ 0) × ((b' ≡ b) × (v' ≡ v))
  StepKept u v b (Ok (Acted a k)) b' v' (Some w) (Some w') = (step_case (places v) u (Some w) b ≡ 1) × Moved u v b a k b' w w'
  StepKept u v b (Ok (Acted a k)) b' v' None w' = ⊥
  StepKept u v b (Ok (Acted a k)) b' v' (Some w) None = ⊥

  -- step with a bench that stands as b, and then as b'
  pub record Stepped (b : Post S) (v : View S) (r : Result Step StepStop) (b' : Post S) (v' : View S) : Type 0 where
    pub answer : (u : ℕ) → Stands m u v → StepKept u v b r b' v' v.plain.walk v'.plain.walk
    pub rest : OnlyWalk v v'
