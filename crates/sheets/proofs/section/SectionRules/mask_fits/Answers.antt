use Rattle.std.proofs.Common.{arith}
use Rattle.sheets.proofs.Masks.{one_shifted, mask_all, mask_some}
use Rattle.sheets.proofs.section.SectionRules.mask_fits.Goals as goal

pub overflow_shr-result : goal.overflow_shr-result
overflow_shr-result c = one_shifted c.args.self.features (omega arith)

pub returns-then-self-ge6 : goal.returns-then-self-ge6
returns-then-self-ge6 c = mask_all c.args.self.features c.args.mask (omega arith) (omega arith) (omega arith)

pub returns-else-self-ge6 : goal.returns-else-self-ge6
returns-else-self-ge6 c = mask_some c.args.self.features c.args.mask (omega arith) (omega arith)
