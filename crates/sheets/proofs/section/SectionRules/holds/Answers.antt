use Rattle.std.proofs.Common.{arith}
use Rattle.sheets.proofs.Masks.{byte_all, shr_none}
use Rattle.sheets.proofs.section.SectionRules.holds.Goals as goal

pub returns-then-self-ge8 : goal.returns-then-self-ge8
returns-then-self-ge8 c = byte_all c.args.self.features c.args.mask (omega arith) (omega arith)

pub returns-else-self-ge8 : goal.returns-else-self-ge8
returns-else-self-ge8 c = shr_none c.args.mask c.args.self.features
