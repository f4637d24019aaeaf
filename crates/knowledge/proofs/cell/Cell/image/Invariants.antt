use Rattle.std.proofs.Common.{◌≡◌}
use Rattle.epistemic.specs.Acts.{with_features}
use Rattle.epistemic.specs.Bits.{image}
use Rattle.sheets.specs.Events.{entry}
use Rattle.knowledge.specs.Acting.{event_of}
use Rattle.knowledge.proofs.cell.Cell.image.Given as goal

abbrev pub invariant-loop-i : goal.invariant-loop-i
invariant-loop-i l = l.moved ≡ image (with_features (event_of l.fn.self.letters (entry l.event)) l.i) l.fn.self.mask 64
