-- The number of each refusal, 0 where nothing was refused, and its words. Assumes nothing.
use Rattle.std.specs.Prelude.{ℕ, List, Ok, Err, Result, codes}
use Rattle.worlds.specs.declared.stops.WorldStop.{WorldStop}

-- a bench that is not made: the actual valuation is outside the start cell
abbrev pub world_number : {A : Type 0} → Result A WorldStop → ℕ
world_number (Ok _) = 0
world_number (Err WorldStop.Outside) = 17

-- how a refusal is told
abbrev pub world_stop_text : WorldStop → List ℕ
world_stop_text WorldStop.Outside = codes "outside the start cell: stop 17"
