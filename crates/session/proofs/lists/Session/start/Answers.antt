use Rattle.std.proofs.Common.{◌≡◌, Err, sym, ap, ◌∙◌, rules}
use Rattle.planning.specs.Finding.{place_of}
use Rattle.session.specs.Views.{row_at, view}
use Rattle.session.specs.declared.stops.StartStop.{StartStop}
use Rattle.session.proofs.Walking.{listed_states, start_blank, start_begins}
use Rattle.session.proofs.lists.Session.start.Goals as goal

pub returns-in_err-rank-clause-started : goal.returns-in_err-rank-clause-started
returns-in_err-rank-clause-started g c =
    let m = g.B.Book.meaning c.args.book.now in
    let v = view c.args.self.now in
    let at = ap (place_of m (listed_states m v)) (sym c.state.ensures) ∙ sym c.place.ensures ∙ c.in_ok-place.ensures.ok_part in
    let is : c.from_residual-in_err-rank.result ≡ Err StartStop.Blank = search rules in
    rw is (start_blank m v _ (sym c.concluded.ensures ∙ c.in_ok-concluded.was) c.in_ok-row.row (ap (row_at v.rows) at ∙ sym c.row.ensures ∙ c.in_ok-row.ensures.ok_part) c.in_err-rank.ensures.ok_part)

pub returns-clause-started : goal.returns-clause-started
returns-clause-started g c =
    let m = g.B.Book.meaning c.args.book.now in
    let v = view c.args.self.now in
    let at = ap (place_of m (listed_states m v)) (sym c.state.ensures) ∙ sym c.place.ensures ∙ c.in_ok-place.ensures.ok_part in
    start_begins m v _ (sym c.concluded.ensures ∙ c.in_ok-concluded.was) c.in_ok-place.place c.in_ok-row.row c.in_ok-rank.rank at (sym c.row.ensures ∙ c.in_ok-row.ensures.ok_part) c.in_ok-rank.ensures.ok_part
