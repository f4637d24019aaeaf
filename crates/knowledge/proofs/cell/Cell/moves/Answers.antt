use Rattle.std.proofs.Common.{arith}
use Rattle.knowledge.proofs.Moving.{few_moves}
use Rattle.knowledge.proofs.cell.Cell.moves.Goals as goal

pub returns-clause-few : goal.returns-clause-few
returns-clause-few c =
    let cell = c.args.self in
    omega (arith, few_moves cell.letters cell.mask c.args.valuation c.args.act.now, c.new.ensures.few)
