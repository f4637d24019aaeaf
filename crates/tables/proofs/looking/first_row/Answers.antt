use Rattle.std.proofs.Common.{rules}
use Rattle.tables.proofs.Seeking.{sought_all, sought_down, sought_none, sought_up}
use Rattle.tables.proofs.looking.first_row.Goals as goal

pub loop-low-init : goal.loop-low-init
loop-low-init c = sought_all c.args.rows.now c.args.key.from c.args.key.act

pub loop-low-preserved-then-lt : goal.loop-low-preserved-then-lt
loop-low-preserved-then-lt c =
    sought_up c.args.rows.now c.args.key.from c.args.key.act _ c.loop-low.low c.loop-low.high c.lt.result c.loop-low-test.true (search rules) c.loop-low.invariant c.if-lt.true

pub loop-low-preserved : goal.loop-low-preserved
loop-low-preserved c =
    sought_down c.args.rows.now c.args.key.from c.args.key.act _ c.loop-low.low c.loop-low.high c.lt.result c.loop-low-test.true (search rules) c.loop-low.invariant c.if-lt.false

pub returns : goal.returns
returns c = sought_none c.args.rows.now c.args.key.from c.args.key.act _ c.loop-low.low c.loop-low.high c.loop-low-test.false c.loop-low.invariant
