use Rattle.std.proofs.Common.{sym, arith}
use Rattle.std.proofs.lemmas.List.{set_past}
use Rattle.worked.proofs.levels.wanted_from.Goals as goal

pub returns-else-zone-lt64 : goal.returns-else-zone-lt64
returns-else-zone-lt64 c = sym (set_past _ c.args.goal.zone c.args.goal.level (omega arith))
