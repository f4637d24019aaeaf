use Rattle.std.proofs.Common.{sym, ◌∙◌, arith}
use Rattle.std.proofs.lemmas.Bool.{le-ltb}
use Rattle.epistemic.proofs.Bits.{bit_past}
use Rattle.knowledge.proofs.cell.has.Goals as goal

pub returns-else-i-lt64 : goal.returns-else-i-lt64
returns-else-i-lt64 c =
    le-ltb c.args.i 64 (omega arith) ∙ sym (bit_past 64 c.args.mask c.args.i c.ranges.mask.fits (omega arith))
