-- Rows of a table: which fit, which belong to a spot and an act, and their order. Assumes nothing.
use Rattle.std.specs.Prelude.{ℕ, Bool, ◌&&◌, ◌||◌, List, map, filter, ◌==◌, nat_lt}
use Rattle.tables.specs.Spots.{same_spot, within}
use Rattle.tables.specs.declared.spot.Spot.{Spot}
use Rattle.tables.specs.declared.row.TableRow.{TableRow}

-- both spots are within range, and the act is one of n
abbrev pub fits : ℕ → TableRow → Bool
fits n r = within r.from && (within r.to && nat_lt r.act n)

-- the row is one of act a in spot s
abbrev pub leads : Spot → ℕ → TableRow → Bool
leads s a r = same_spot r.from s && r.act == a

-- spot s with act a comes before spot t with act b: by zone, then by level, then by act
abbrev pub precedes : Spot → ℕ → Spot → ℕ → Bool
precedes s a t b =
    nat_lt s.zone t.zone || (s.zone == t.zone && (nat_lt s.level t.level || (s.level == t.level && nat_lt a b)))

-- row q falls below row r
abbrev pub falls : TableRow → TableRow → Bool
falls r q = precedes q.from q.act r.from r.act

-- all rows of act a in spot s, in their order
abbrev pub rows_of : List TableRow → Spot → ℕ → List TableRow
rows_of rows s a = filter (leads s a) rows

-- where rows lead
abbrev pub targets : List TableRow → List Spot
targets rows = map (λ r. r.to) rows
