-- The finding list: the states in the order in which they are first met. Assumes nothing.
use Rattle.std.specs.Prelude.{◌≡◌, ℕ, zero, suc, Bool, false, cond, ◌||◌, List, [], ◌∷◌, ◌++◌, length, Some, None, Option}
use Rattle.std.specs.List.{slice_get}
use Rattle.planning.specs.Meaning.{Meaning}

module _ {S : Type 0} (m : Meaning S) where
  -- a state of the list is the same as s
  abbrev pub listed : List S → S → Bool
  listed [] s = false
  listed (t ∷ ts) s = m.same t s || listed ts s

  -- the first place of the list, counted from i, whose state is the same as s
  abbrev pub place_from : ℕ → List S → S → Option ℕ
  place_from i [] s = None
  place_from i (t ∷ ts) s = cond (m.same t s) (Some i) (place_from (suc i) ts s)

  -- the first place of the list whose state is the same as s
  abbrev pub place_of : List S → S → Option ℕ
  place_of ts s = place_from 0 ts s

  -- s joins the end of the list unless a same state is listed
  abbrev pub joined : List S → S → List S
  joined ts s = cond (listed ts s) ts (ts ++ s ∷ [])

  -- the states join one after another
  abbrev pub joined_all : List S → List S → List S
  joined_all ts [] = ts
  joined_all ts (s ∷ ss) = joined_all (joined ts s) ss

  -- the outcomes of s at the acts from a up, n of them, in order
  abbrev pub outcomes_from : S → ℕ → ℕ → List S
  outcomes_from s a zero = []
  outcomes_from s a (suc n) = m.outcomes s a ++ outcomes_from s (suc a) n

  -- the list once the state at a place, if there is one, has been expanded
  abbrev pub expanded : List S → Option S → List S
  expanded ts None = ts
  expanded ts (Some s) = joined_all ts (outcomes_from s 0 m.acts)

  -- the list once the first k places have been expanded
  abbrev pub found : ℕ → List S
  found zero = m.start ∷ []
  found (suc k) = expanded (found k) (slice_get (found k) k)

  -- all places are expanded: the list is final, and has r states
  abbrev pub Final : ℕ → Type 0
  Final r = length (found r) ≡ r
