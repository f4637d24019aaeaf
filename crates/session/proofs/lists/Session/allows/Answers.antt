use Rattle.std.proofs.Common.{rules, refl, sym, ◌∙◌}
use Rattle.std.proofs.lemmas.Iterator.Consumers.{YieldsList-from_first}
use Rattle.std.proofs.lemmas.Iterator.Search.{all_from_yields_List}
use borrow.Author.Tests.{tests}
use Rattle.planning.specs.Going.{outcomes_left}
use Rattle.session.specs.Views.{view}
use Rattle.session.specs.Judging.{told}
use Rattle.session.proofs.Judged.{first-brings, no-brings}
use Rattle.session.proofs.lists.Session.allows.Goals as goal

pub returns-in_default : goal.returns-in_default
returns-in_default g c =
    let m = g.B.Book.meaning c.args.book.now in
    no-brings m (told m (view c.args.self.now) c.args.j) c.args.s c.args.act (sym c.new-outcomes.ensures ∙ c.in_default.ensures.steps.0)

pub returns-then-below : goal.returns-then-below
returns-then-below g c =
    let m = g.B.Book.meaning c.args.book.now in
    let p = told m (view c.args.self.now) c.args.j in
    all_from_yields_List p c.all.new.self _ c.all.result c.all.ensures.ran (YieldsList-from_first (λ x. x) (outcomes_left g.B.Book.meaning) (outcomes_left g.B.Book.meaning c.next.new.self) refl) (λ x b q k. search (rules, tests))
    ∙ first-brings m p c.args.s c.args.act c.in-Some.first (outcomes_left g.B.Book.meaning c.next.new.self) (sym c.new-outcomes.ensures ∙ c.in-Some.ensures.steps) (sym c.below.ensures ∙ c.if-below.true)
