-- The events possible at one valuation of a cell, and where they lead. Assumes nothing.
use Rattle.std.specs.Prelude.{◌≡◌, ℕ, Bool, cond, ◌&&◌, T, List, [], map, filter, ◌≢◌, slice_index}
use Rattle.sheets.specs.Reading.{Parts}
use Rattle.epistemic.specs.Bits.{bit}
use Rattle.epistemic.specs.Lists.{◌∈◌}
use Rattle.epistemic.specs.Models.{sat}
use Rattle.epistemic.specs.Cells.{model}
use Rattle.epistemic.specs.Acts.{Event, moved}
use Rattle.epistemic.specs.Claims.{update, WorldMoved}
use Rattle.knowledge.specs.Books.{letters, askable, events_at, outcomes_at, class_masks}
use Rattle.knowledge.specs.declared.moves.Move.{Move}

module _ (n : ℕ) where
  -- the event is possible at the valuation v, which lies in the cell
  abbrev pub possible_at : ℕ → ℕ → Event → Bool
  possible_at c v e = bit c v && sat (model n c) v e.pre

  -- where the event leads from the valuation v
  abbrev pub move_of : ℕ → Event → Move
  move_of v e = record { class = e.class; valuation = moved n e v }

  -- where the possible events of an act lead, in their order
  abbrev pub moves_of : ℕ → ℕ → List Event → List Move
  moves_of c v act = map (move_of v) (filter (possible_at c v) act)

module _ (p : Parts) where
  -- the moves from a valuation of a cell by an act of the book; none of acts past the last, or if the mask has a bit
  -- from 2 ^ n up
  abbrev pub moves_at : ℕ → ℕ → ℕ → List Move
  moves_at c v a = cond (askable p c a) (moves_of (letters p) c v (events_at p a)) []

  -- the outcome of a class; empty if it has none
  abbrev pub class_outcome : ℕ → ℕ → ℕ → ℕ
  class_outcome c a k = slice_index (class_masks p c a) k

  -- what a move from the valuation v of the cell c is in epistemic models
  pub record Landed (c v a : ℕ) (m : Move) : Type 0 where
    -- it is made by an event that is possible there: a world of the product update
    pub world : ℕ × Event
    pub at : world.0 ≡ v
    pub member : world ∈ (update (letters p) c (events_at p a)).worlds
    pub of_class : m.class ≡ world.1.class
    pub leads : m.valuation ≡ moved (letters p) world.1 v
    -- the new valuation has the letters of that world
    pub explained : WorldMoved (letters p) c (events_at p a) world
    -- where the act has outcomes, the outcome of the event's class is one of them, and the new valuation lies in it
    pub lands : (outcomes_at p c a ≢ []) → T (bit (class_outcome c a m.class) m.valuation) × (class_outcome c a m.class ∈ outcomes_at p c a)
