use Rattle.std.proofs.Common.{sym, ap, ◌∙◌, arith, rules}
use Rattle.std.specs.Option.{is_some}
use Rattle.session.specs.Views.{view}
use Rattle.session.proofs.Joining.{join_there, join_full, join_new}
use Rattle.session.proofs.lists.Session.join.Goals as goal

pub returns-then-is_some-clause-joins : goal.returns-then-is_some-clause-joins
returns-then-is_some-clause-joins g c = join_there (g.B.Book.meaning c.args.book.now) c.args.s (view c.args.self.now) (sym (ap is_some c.place.ensures) ∙ sym c.is_some.ensures ∙ c.if-is_some.true)

pub returns-then-listed-places-2-clause-joins : goal.returns-then-listed-places-2-clause-joins
returns-then-listed-places-2-clause-joins g c = join_full (g.B.Book.meaning c.args.book.now) c.args.s (view c.args.self.now) (sym (ap is_some c.place.ensures) ∙ sym c.is_some.ensures ∙ c.if-is_some.false) (omega arith)

pub returns-clause-joins : goal.returns-clause-joins
returns-clause-joins g c =
    rw c.from-listed.ensures (join_new (g.B.Book.meaning c.args.book.now) c.args.s (view c.args.self.now) c.fresh_row.result (sym (ap is_some c.place.ensures) ∙ sym c.is_some.ensures ∙ c.if-is_some.false) (search rules) c.fresh_row.ensures)
