-- How a row is judged by two of the rows before it. Assumes nothing.
use Rattle.std.specs.Prelude.{ℕ, Bool, not, ◌||◌, List, Option}
use Rattle.std.specs.List.{slice_get}
use Rattle.tables.specs.Places.{back, passes}
use Rattle.tables.specs.Rows.{falls, fits, leads}
use Rattle.tables.specs.declared.row.TableRow.{TableRow}

-- row r is wrong after the row p just before it and the row e eight places before it, where they are there
abbrev pub wrong_beside : ℕ → Option TableRow → Option TableRow → TableRow → Bool
wrong_beside n p e r = not (fits n r) || (passes (λ q. falls q r) p || passes (leads r.from r.act) e)

-- the row at place i is wrong after the rows one place and eight places before it
abbrev pub wrong_here : ℕ → List TableRow → ℕ → Bool
wrong_here n rows i = passes (wrong_beside n (back rows 1 i) (back rows 8 i)) (slice_get rows i)
