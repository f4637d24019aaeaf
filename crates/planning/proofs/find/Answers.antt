use Rattle.std.proofs.Common.{rules, sym, ◌∙◌}
use Rattle.std.proofs.lemmas.Iterator.{YieldsList-from_slice}
use Rattle.std.proofs.lemmas.Iterator.Search.{position_from_yields_List}
use borrow.Author.Tests.{tests}
use Rattle.planning.proofs.Seeking.{position-place}
use Rattle.planning.proofs.find.Goals as goal

pub returns-in_err-place : goal.returns-in_err-place
returns-in_err-place g c =
    let m = g.B.Book.meaning c.args.book.now in
    let states = c.args.states.now in
    c.from_residual.ensures
    ∙ sym c.in_err-place.was
    ∙ position_from_yields_List (λ t. m.same t c.args.s) _ _ c.position.result c.position.ensures.ran (YieldsList-from_slice states cc) (λ x b q k. search (rules, tests))
    ∙ position-place m c.args.s states

pub returns : goal.returns
returns g c =
    let m = g.B.Book.meaning c.args.book.now in
    let states = c.args.states.now in
    sym c.in_ok-place.was
    ∙ position_from_yields_List (λ t. m.same t c.args.s) _ _ c.position.result c.position.ensures.ran (YieldsList-from_slice states cc) (λ x b q k. search (rules, tests))
    ∙ position-place m c.args.s states
