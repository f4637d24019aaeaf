-- What each call on a session does: a relation between the session before, the answer, and the session after.
-- Assumes nothing.
use Rattle.std.specs.Prelude.{◌≡◌, ℕ, ◌+◌, ◌<◌, ◌≤◌, Bool, true, false, T, List, length, take, drop, Some, None, Ok, Err, Option, Result}
use Rattle.std.specs.List.{slice_get}
use Rattle.planning.specs.Meaning.{Meaning}
use Rattle.planning.specs.Finding.{place_of}
use Rattle.planning.specs.Ranks.{Ranked}
use Rattle.session.specs.declared.plain.Row.{Row}
use Rattle.session.specs.declared.plain.Walk.{Walk}
use Rattle.session.specs.declared.plain.Progress.{Progress}
use Rattle.session.specs.declared.plain.Standing.{Standing}
use Rattle.session.specs.declared.plain.Standing.TheVariants.{Working, NoPlan, Found, Full}
use Rattle.session.specs.declared.stops.AskStop.{AskStop}
use Rattle.session.specs.ClosedForm.{progress, listed_at, known, known_rows}
use Rattle.session.specs.Views.{View, places, row_at}

-- the search went to its end within the places: it is decided, and not full
abbrev pub concluded : Standing → Bool
concluded Working = false
concluded NoPlan = true
concluded (Found d) = true
concluded (Full f) = false

-- the walk stands at a listed place that has a rank, which with the acts done is below the number of listed states; there
-- is no walk before the search has gone to its end
abbrev pub WalkKept : {S : Type 0} → Meaning S → ℕ → Progress → Option Walk → Type 0
WalkKept m n p None = Unit {0}
WalkKept {S} m n p (Some w) = T (concluded p.standing) × ((s : S) × ((k : ℕ) × ((slice_get (listed_at m n p) w.place ≡ Some s) × (Ranked m s (Some k) × (w.acts + k < length (listed_at m n p))))))

-- v is what calls have made of a fresh session over the book, u units having been asked of it: lists, rows, standing and
-- units are fixed, and the walk is one that is kept
pub record Stands {S : Type 0} (m : Meaning S) (u : ℕ) (v : View S) : Type 0 where
  pub progress_is : v.plain.progress ≡ progress m (places v) u
  pub listed_is : v.plain.listed ≡ length (known m (places v) u)
  pub states_are : take (length (known m (places v) u)) v.states ≡ known m (places v) u
  pub rows_are : take (length (known m (places v) u)) v.rows ≡ known_rows m (places v) u
  pub walk_is : WalkKept m (places v) (progress m (places v) u) v.plain.walk

-- the lists are as long as they were, and nothing of them has changed from place k on
pub record RestKept {S : Type 0} (k : ℕ) (v v' : View S) : Type 0 where
  pub states_length : length v'.states ≡ length v.states
  pub rows_length : length v'.rows ≡ length v.rows
  pub unused_states : drop k v'.states ≡ drop k v.states
  pub unused_rows : drop k v'.rows ≡ drop k v.rows

module _ {S : Type 0} (m : Meaning S) where
  -- a session has just been made over these lists
  pub record Made (states : List S) (rows : List Row) (v : View S) : Type 0 where
    pub stands : Stands m 0 v
    pub no_walk : v.plain.walk ≡ None
    pub rest : RestKept v.plain.listed (record { states = states; rows = rows; plain = v.plain }) v

  -- work of q units; where the session stands over this book, what it answers and holds is what q more units make of it
  pub record Worked (q : ℕ) (v : View S) (r : Progress) (v' : View S) : Type 0 where
    pub answer : (u : ℕ) → Stands m u v → r ≡ progress m (places v) (u + q)
    pub stands : (u : ℕ) → Stands m u v → Stands m (u + q) v'
    pub told : r ≡ v'.plain.progress
    pub walk : v'.plain.walk ≡ v.plain.walk
    pub grows : v.plain.listed ≤ v'.plain.listed
    pub rest : RestKept v'.plain.listed v v'

  -- the row of the first listed state that is the same as s
  abbrev pub row_of : ℕ → ℕ → S → Option Row
  row_of n u s = row_at (known_rows m n u) (place_of m (known m n u) s)

-- what asking whether the search went to its end answers, where it stands so
abbrev pub conclusion : Standing → Result (Unit {0}) AskStop
conclusion Working = Err AskStop.Working
conclusion (Full f) = Err AskStop.Full
conclusion NoPlan = Ok tt
conclusion (Found d) = Ok tt

-- what ask answers of a row, or of none, where the search stands so
abbrev pub ask_answer : Standing → Option Row → Result Row AskStop
ask_answer Working r = Err AskStop.Working
ask_answer (Full f) r = Err AskStop.Full
ask_answer NoPlan None = Err AskStop.Unlisted
ask_answer NoPlan (Some r) = Ok r
ask_answer (Found d) None = Err AskStop.Unlisted
ask_answer (Found d) (Some r) = Ok r

-- ask of a state, which changes nothing
pub record Asked {S : Type 0} (m : Meaning S) (s : S) (v : View S) (r : Result Row AskStop) (v' : View S) : Type 0 where
  pub answer : (u : ℕ) → Stands m u v → r ≡ ask_answer (progress m (places v) u).standing (row_of m (places v) u s)
  pub session : v' ≡ v
