use Rattle.std.proofs.Common.{sym, ◌∙◌, rules}
use Rattle.std.proofs.lemmas.Option.{slice_get_within}
use Rattle.session.specs.Views.{view}
use Rattle.session.proofs.Judged.{visit_ranked, visit_blank}
use Rattle.session.proofs.lists.Session.visit.Goals as goal

pub returns-then-is_some-clause-rows : goal.returns-then-is_some-clause-rows
returns-then-is_some-clause-rows g c = visit_ranked (g.B.Book.meaning c.args.book.now) (view c.args.self.now) c.args.i c.args.j c.in-Some-Some.s c.in-Some-Some.row (sym c.state.ensures ∙ c.in-Some-Some.is-0) (sym c.row.ensures ∙ c.in-Some-Some.is-1) (sym c.is_some.ensures ∙ c.if-is_some.true)

pub returns-in_default-judge-clause-rows : goal.returns-in_default-judge-clause-rows
returns-in_default-judge-clause-rows g c = visit_blank (g.B.Book.meaning c.args.book.now) (view c.args.self.now) c.args.i c.args.j c.in-Some-Some.s c.in-Some-Some.row (sym c.state.ensures ∙ c.in-Some-Some.is-0) (sym c.row.ensures ∙ c.in-Some-Some.is-1) (sym c.is_some.ensures ∙ c.if-is_some.false) (sym c.judge.ensures ∙ c.in_default-judge.is)

pub offset_bounds-self-i : goal.offset_bounds-self-i
offset_bounds-self-i g c = let h = slice_get_within c.args.self.now.rows.now c.args.i c.in-Some-Some.row (sym c.row.ensures ∙ c.in-Some-Some.is-1) in search rules

pub bounds-self-i : goal.bounds-self-i
bounds-self-i g c = slice_get_within c.args.self.now.rows.now c.args.i c.in-Some-Some.row (sym c.row.ensures ∙ c.in-Some-Some.is-1)
