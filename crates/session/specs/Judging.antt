-- What the rows of a session tell of ranks, and what a visit does. Assumes nothing.
use Rattle.std.specs.Prelude.{ℕ, Bool, false, ◌||◌, List, [], ◌∷◌, Some, None, Option, ◌==◌, nat_lt, slice_set}
use Rattle.std.specs.List.{slice_get}
use Rattle.session.specs.declared.plain.Row.{Row}
use Rattle.session.specs.declared.plain.Standing.{Standing}
use Rattle.planning.specs.Meaning.{Meaning}
use Rattle.planning.specs.Ranks.{brings, first_act}
use Rattle.session.specs.ClosedForm.{standing_of}
use Rattle.session.specs.Views.{View, row_told}

-- the rank is there and below j
abbrev pub rank_below : ℕ → Option ℕ → Bool
rank_below j None = false
rank_below j (Some k) = nat_lt k j

-- the rank is there and is j
abbrev pub rank_is : ℕ → Option ℕ → Bool
rank_is j None = false
rank_is j (Some k) = k == j

-- the row is there and has a rank below j
abbrev pub row_below : ℕ → Option Row → Bool
row_below j None = false
row_below j (Some row) = rank_below j row.rank

-- some row has rank j
abbrev pub has_rank : ℕ → List Row → Bool
has_rank j [] = false
has_rank j (row ∷ rows) = rank_is j row.rank || has_rank j rows

-- what the row of place 0 decides
abbrev pub standing_by : Option Row → Standing
standing_by None = Standing.NoPlan
standing_by (Some row) = standing_of row.rank

-- a row of that rank once sweep j has visited it: a ranked one stays, a blank one gets rank j with the act that ranks
-- below j allow, if there is one
abbrev pub judged : Row → Option ℕ → ℕ → Option ℕ → Row
judged row (Some k) j o = row
judged row None j None = row
judged row None j (Some a) = record { rank = Some j; act = Some a }

module _ {S : Type 0} (m : Meaning S) (v : View S) where
  -- s is listed with a rank below j
  abbrev pub told : ℕ → S → Bool
  told j s = row_below j (row_told m v s)

  -- the lowest act that ranks below j allow in s
  abbrev pub choice : ℕ → S → Option ℕ
  choice j s = first_act (brings m (told j) s) 0 m.acts

  -- the rows after a visit of place i, where s and row stand, in sweep j
  abbrev pub visited_at : ℕ → ℕ → Option S → Option Row → List Row
  visited_at i j None row = v.rows
  visited_at i j (Some s) None = v.rows
  visited_at i j (Some s) (Some row) = slice_set v.rows i (judged row row.rank j (choice j s))

  -- the rows after a visit of place i in sweep j
  abbrev pub visited : ℕ → ℕ → List Row
  visited i j = visited_at i j (slice_get v.states i) (slice_get v.rows i)
