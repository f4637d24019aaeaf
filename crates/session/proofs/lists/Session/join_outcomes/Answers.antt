use Rattle.std.proofs.Common.{◌≡◌, true, false, is_ok, [], ◌∷◌, ◌++◌, ap, sym, ◌∙◌, rules}
use Rattle.planning.specs.Going.{outcomes_left}
use Rattle.session.specs.Views.{view}
use Rattle.session.proofs.Chains.{all_joined, joins_on, left_on, none_joined, outcome_stopped}
use Rattle.session.proofs.Lending.{lists_on, lists_same}
use Rattle.session.proofs.lists.Session.join_outcomes.Goals as goal

pub loop-o-init : goal.loop-o-init
loop-o-init g c =
    let left = ap (outcomes_left g.B.Book.meaning) c.into_iter-o-iterator.ensures.into_iter_gives ∙ c.new-o-items.ensures in
    record { lent = lists_same _; joins = none_joined (g.B.Book.meaning c.args.book.now) (view c.args.self.now); left = left }

pub returns-in_err-join-clause-joins : goal.returns-in_err-join-clause-joins
returns-in_err-join-clause-joins g c =
    let m = g.B.Book.meaning c.args.book.now in
    let refused : is_ok c.from_residual.result ≡ false = search rules in
    rw refused (outcome_stopped m c.loop-o.yielded c.in-Some.o _ (m.outcomes c.args.s c.args.act) (view c.args.self.now) (view c.loop-o.self) (view c.join.new.self) (ap (λ xs. c.loop-o.yielded ++ xs) (sym c.in-Some.ensures.steps) ∙ c.loop-o.invariant.left) c.loop-o.invariant.joins c.in_err-join.ensures.joins)

pub loop-o-preserved : goal.loop-o-preserved
loop-o-preserved g c =
    let m = g.B.Book.meaning c.args.book.now in
    record {
      lent = lists_on c.args.self.now c.loop-o.self c.join.new.self c.loop-o.invariant.lent c.in_ok-join.ensures.lent;
      joins = joins_on m c.loop-o.yielded (c.in-Some.o ∷ []) (view c.args.self.now) (view c.loop-o.self) (view c.join.new.self) true c.loop-o.invariant.joins c.in_ok-join.ensures.joins;
      left = left_on m c.loop-o.yielded c.in-Some.o _ _ _ c.in-Some.ensures.steps c.loop-o.invariant.left;
    }

pub returns-clause-joins : goal.returns-clause-joins
returns-clause-joins g c =
    let m = g.B.Book.meaning c.args.book.now in
    all_joined m c.loop-o.yielded _ (m.outcomes c.args.s c.args.act) (view c.args.self.now) (view c.loop-o.self) c.in-None.ensures.steps.0 c.loop-o.invariant.left c.loop-o.invariant.joins
