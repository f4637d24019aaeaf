-- Chains: tables whose one act leads from each spot to the next. Assumes nothing.
use Rattle.std.specs.Prelude.{ℕ, ◌+◌, ◌/◌, ◌%◌, List, map, replicate, slice_set}
use Rattle.std.specs.List.{range_with_len}
use Rattle.tables.specs.declared.spot.Spot.{Spot}
use Rattle.tables.specs.declared.row.TableRow.{TableRow}

-- the spot of that number, level by level through zone after zone, and then from the first one again
abbrev pub spot_numbered : ℕ → Spot
spot_numbered n = record { zone = n / 64 % 64; level = n % 64 }

-- the move of act 0 from the spot of that number to the next
abbrev pub move_from : ℕ → TableRow
move_from n = record { from = spot_numbered n; act = 0; to = spot_numbered (n + 1) }

-- so many moves, from the first spot on
abbrev pub chain_of : ℕ → List TableRow
chain_of moves = map move_from (range_with_len 0 moves)

-- the levels that make goals of a spot and those above it in its zone, and of no others
abbrev pub levels_from : Spot → List ℕ
levels_from s = slice_set (replicate 64 64) s.zone s.level
