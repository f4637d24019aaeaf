use Rattle.knowledge.specs.Acting.{act_of}
use Rattle.knowledge.proofs.Updating.{SoFar}
use Rattle.knowledge.proofs.cell.Cell.updated.Given as goal

abbrev pub invariant-loop-event : goal.invariant-loop-event
invariant-loop-event l =
    SoFar l.self.letters l.self.mask (act_of l.self.letters l.act) (act_of l.self.letters l.event-iterator.rest.now) l.covered l.classes
