use Rattle.std.proofs.Common.{length}
use Rattle.knowledge.proofs.formula.+evaluate.Given as goal

abbrev pub decreases-evaluate : goal.decreases-evaluate
decreases-evaluate l = length l.text.now
