use Rattle.std.proofs.Common.{refl}
use Rattle.std.proofs.lemmas.Bool.{false≢true}
use Rattle.std.proofs.lemmas.Result.{err_from_is_err_and}
use Rattle.tables.specs.Tables.{table_of}
use Rattle.tables.proofs.Making.{faithful, refused, well_from}
use Rattle.tables.proofs.table.MoveTable.new.Goals as goal

pub returns-in_err-check-clause-accepted : goal.returns-in_err-check-clause-accepted
returns-in_err-check-clause-accepted c =
    let t = table_of c.args.acts c.args.start c.args.wanted.now c.args.rows.now in
    let p = err_from_is_err_and c.from_residual.result c.from_residual.ensures.1 in
    rw p.1 (λ e. absurd (false≢true e), λ w. absurd (refused t c.in_err-check.field-0.0 c.in_err-check.ensures w))

pub returns-clause-accepted : goal.returns-clause-accepted
returns-clause-accepted c =
    let t = table_of c.args.acts c.args.start c.args.wanted.now c.args.rows.now in (λ _. well_from t c.in_ok-check.ensures, λ _. refl)

pub returns-clause-faithful : goal.returns-clause-faithful
returns-clause-faithful c =
    let t = table_of c.args.acts c.args.start c.args.wanted.now c.args.rows.now in faithful t (well_from t c.in_ok-check.ensures)
