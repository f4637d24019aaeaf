use Rattle.std.proofs.Common.{◌∙◌, sym}
use Rattle.std.proofs.lemmas.Option.{slice_get_within}
use Rattle.planning.proofs.Seeking.{drop_past, fits_byte}
use Rattle.planning.proofs.outcomes.OutcomesIterator.next.Goals as goal

pub returns-in_err-outcome-clause-steps : goal.returns-in_err-outcome-clause-steps
returns-in_err-outcome-clause-steps g c =
    let b = c.args.self.now in
    let d = drop_past ((g.B.Book.meaning b.book.now).outcomes b.s b.act) b.number (sym c.outcome.ensures ∙ c.in_err-outcome.was) in
    rw c.from_residual.ensures (d, d)

pub overflow_add-self : goal.overflow_add-self
overflow_add-self g c =
    let b = c.args.self.now in
    let within = slice_get_within _ _ _ (sym c.outcome.ensures ∙ c.in_ok-outcome.was) in
    fits_byte within ((g.met.B.Book.lawful b.book.now).few_outcomes b.s b.act)
