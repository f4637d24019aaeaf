-- What it is to join states to the list that a session holds. Assumes nothing.
use Rattle.std.specs.Prelude.{◌≡◌, ◌<◌, ◌≤◌, Bool, true, false, List, map, length, take}
use Rattle.planning.specs.Meaning.{Meaning}
use Rattle.planning.specs.Finding.{joined_all}
use Rattle.session.specs.ClosedForm.{row_by}
use Rattle.session.specs.Views.{View, places}
use Rattle.session.specs.Calls.{RestKept}

-- what no unit of work alters: the walk, the lengths and the unused places
pub record Keeps {S : Type 0} (v v' : View S) : Type 0 where
  pub walk : v'.plain.walk ≡ v.plain.walk
  pub grows : v.plain.listed ≤ v'.plain.listed
  pub rest : RestKept v'.plain.listed v v'

module _ {S : Type 0} (m : Meaning S) where
  -- the session holds the list ts, each state with the row that it joins with
  pub record Lists (ts : List S) (v : View S) : Type 0 where
    pub count : v.plain.listed ≡ length ts
    pub fits : length ts ≤ places v
    pub states_are : take (length ts) v.states ≡ ts
    pub rows_are : take (length ts) v.rows ≡ map (row_by m 0) ts

  -- it holds the list ts, or it has not the places and holds the part that fits
  abbrev pub Tried : Bool → List S → View S → Type 0
  Tried true ts v = Lists ts v
  Tried false ts v = (places v < length ts) × Lists (take (places v) ts) v

  -- the states ss have joined in order, and r says whether there was a place for each
  pub record Joins (ss : List S) (v : View S) (r : Bool) (v' : View S) : Type 0 where
    pub lists : (ts : List S) → Lists ts v → Tried r (joined_all m ts ss) v'
    pub progress : v'.plain.progress ≡ v.plain.progress
    pub keeps : Keeps v v'
