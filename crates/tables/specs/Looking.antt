-- How the rows of a spot and act are looked up: by halving, in any list of rows. Assumes nothing.
use Rattle.std.specs.Prelude.{ℕ, zero, suc, ◌+◌, ◌-◌, ◌/◌, Bool, cond, List, [], ◌∷◌, length, drop, nat_lt}
use Rattle.std.specs.List.{slice_get}
use Rattle.tables.specs.Places.{passes}
use Rattle.tables.specs.Rows.{leads, precedes}
use Rattle.tables.specs.declared.spot.Spot.{Spot}
use Rattle.tables.specs.declared.row.TableRow.{TableRow}

-- the place halfway between two
abbrev pub middle : ℕ → ℕ → ℕ
middle low high = low + (high - low) / 2

-- the rows of act a in spot s with which a list begins
abbrev pub front : Spot → ℕ → List TableRow → List TableRow
front s a [] = []
front s a (r ∷ rs) = cond (leads s a r) (r ∷ front s a rs) []

module _ (rows : List TableRow) (s : Spot) (a : ℕ) where
  -- the row at place i comes before act a in spot s
  abbrev pub early : ℕ → Bool
  early i = passes (λ r. precedes r.from r.act s a) (slice_get rows i)

  -- the place where rows stop coming before act a in spot s, looked for from low up to high by at most n halvings
  abbrev pub seek : ℕ → ℕ → ℕ → ℕ
  seek zero low high = low
  seek (suc n) low high =
      cond (nat_lt low high)
      (cond (early (middle low high)) (seek n (suc (middle low high)) high) (seek n low (middle low high)))
      low

  -- where that search ends: in rows that are in order, at the first row that does not come before act a in spot s
  abbrev pub first_row : ℕ
  first_row = seek (length rows) 0 (length rows)

  -- the rows found for act a in spot s
  abbrev pub block : List TableRow
  block = front s a (drop first_row rows)
