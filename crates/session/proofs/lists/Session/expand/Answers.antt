use Rattle.std.proofs.Common.{◌≡◌, true, false, is_ok, arith, rules}
use Rattle.session.specs.Views.{view}
use Rattle.session.proofs.Chains.{act_joined, act_stopped}
use Rattle.session.proofs.Lending.{lists_on}
use Rattle.session.proofs.lists.Session.expand.Goals as goal

pub returns-in_err-join_outcomes-clause-joins : goal.returns-in_err-join_outcomes-clause-joins
returns-in_err-join_outcomes-clause-joins g c =
    let m = g.B.Book.meaning c.args.book.now in
    let refused : is_ok c.from_residual.result ≡ false = search rules in
    rw refused (act_stopped m c.args.s c.loop-act.act (view c.args.self.now) (view c.loop-act.self) (view c.join_outcomes.new.self) c.loop-act.invariant.1 m.acts (omega arith) c.in_err-join_outcomes.ensures.joins)

pub loop-act-preserved : goal.loop-act-preserved
loop-act-preserved g c =
    let m = g.B.Book.meaning c.args.book.now in
    (lists_on c.args.self.now c.loop-act.self c.join_outcomes.new.self c.loop-act.invariant.0 c.in_ok-join_outcomes.ensures.lent, act_joined m c.args.s c.loop-act.act (view c.args.self.now) (view c.loop-act.self) (view c.join_outcomes.new.self) c.loop-act.invariant.1 true c.in_ok-join_outcomes.ensures.joins)
