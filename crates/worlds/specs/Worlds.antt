-- World benches: what they hold, and where an act leads one. Assumes nothing.
use Rattle.std.specs.Prelude.{◌≡◌, ℕ, ◌%◌, Bool, cond, T, length, Some, None, Ok, Err, Option, Result}
use Rattle.std.specs.List.{slice_get}
use Rattle.planning.specs.Ranks.{some_of}
use Rattle.sheets.specs.Reading.{Parts}
use Rattle.epistemic.specs.Bits.{bit}
use Rattle.knowledge.specs.Books.{outcomes_at}
use Rattle.knowledge.specs.Moves.{moves_at, class_outcome, Landed}
use Rattle.knowledge.specs.declared.moves.Move.{Move}
use Rattle.worlds.specs.declared.stops.WorldStop.{WorldStop}
use Rattle.worlds.specs.declared.world.WorldBench.{WorldBench}

-- what a bench holds: the cell, the actual valuation, and the byte that chooses
pub record World : Type 0 where
  pub cell : ℕ
  pub valuation : ℕ
  pub choice : ℕ

-- a bench without its invariant
abbrev pub seen : WorldBench → World
seen b = record { cell = b.cell; valuation = b.valuation; choice = b.choice }

-- what the bench that was made holds, or why none was made
abbrev pub made : Result WorldBench WorldStop → Result World WorldStop
made (Ok b) = Ok (seen b)
made (Err e) = Err e

-- a bench may be made with a valuation of the cell, and with no other
abbrev pub world_at : ℕ → ℕ → ℕ → Result World WorldStop
world_at c v k = cond (bit c v) (Ok (record { cell = c; valuation = v; choice = k })) (Err WorldStop.Outside)

-- where a move leads a bench: to the event's new valuation, in the outcome of its class; without a move it stays
abbrev pub led : Parts → World → ℕ → Option Move → World
led p w a None = w
led p w a (Some m) = record { cell = class_outcome p w.cell a m.class; valuation = m.valuation; choice = w.choice }

module _ (p : Parts) (w : World) (a : ℕ) where
  -- the act has outcomes in the bench's cell
  abbrev pub applicable : Bool
  applicable = some_of (outcomes_at p w.cell a)

  -- of the moves at the actual valuation, in the order of the sheet from 0, the one whose number is the byte modulo
  -- their count
  abbrev pub chosen : Option Move
  chosen =
      cond applicable (slice_get (moves_at p w.cell w.valuation a) (w.choice % length (moves_at p w.cell w.valuation a))) None

  -- where the act is applicable a move is chosen, and it is a world of the product update
  abbrev pub Happens : Type 0
  Happens = T applicable → (m : Move) × ((chosen ≡ Some m) × Landed p w.cell w.valuation a m)

  -- what the bench holds after the act
  abbrev pub after : World
  after = led p w a chosen
