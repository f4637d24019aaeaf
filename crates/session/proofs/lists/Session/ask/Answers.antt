use Rattle.std.proofs.Common.{sym, ap, ◌∙◌}
use Rattle.std.specs.Option.{ok_or}
use Rattle.session.specs.Views.{view, row_told}
use Rattle.session.specs.declared.stops.AskStop.{AskStop}
use Rattle.session.proofs.Asking.{asked, ask_concluded}
use Rattle.session.proofs.lists.Session.ask.Goals as goal

pub returns : goal.returns
returns g c =
    let m = g.B.Book.meaning c.args.book.now in
    let v = view c.args.self.now in
    let s = c.args.s in
    asked m s v c.ok_or.result
    (c.ok_or.ensures.value ∙ ap (λ row. ok_or row AskStop.Unlisted) c.row_of.ensures ∙ ask_concluded v.plain.progress.standing (row_told m v s) (sym c.concluded.ensures ∙ c.in_ok-concluded.was))
