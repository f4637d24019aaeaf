use Rattle.std.proofs.Common.{arith}
use Rattle.session.proofs.Working.{made_empty, made_start}
use Rattle.session.proofs.work.begin.Goals as goal

pub returns-then-n-eq0 : goal.returns-then-n-eq0
returns-then-n-eq0 g c = made_empty (g.B.Book.meaning c.args.book.now) c.args.states.now c.args.rows.now c.fresh_record.result (omega arith) c.fresh_record.ensures

pub returns : goal.returns
returns g c =
    made_start (g.B.Book.meaning c.args.book.now) c.args.states.now c.args.rows.now (omega arith) c.start-s.result c.fresh_row.result c.fresh_record-2.result
    c.start-s.ensures c.fresh_row.ensures c.fresh_record-2.ensures
