use Rattle.std.proofs.Common.{◌-◌}
use Rattle.tables.specs.Looking.{first_row}
use Rattle.tables.proofs.Seeking.{Sought}
use Rattle.tables.proofs.looking.first_row.Given as goal

abbrev pub invariant-loop-low : goal.invariant-loop-low
invariant-loop-low l = Sought l.rows l.key.from l.key.act (first_row l.rows l.key.from l.key.act) l.low l.high

abbrev pub decreases-loop-low : goal.decreases-loop-low
decreases-loop-low l = l.high - l.low
