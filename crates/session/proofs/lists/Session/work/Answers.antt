use Rattle.std.proofs.Common.{◌≡◌, ◌+◌, ◌≤◌, sym, subst, arith}
use Rattle.session.specs.Views.{view}
use Rattle.session.proofs.Working.{Went, went_more, went_idle, worked, works_true, works_false}
use Rattle.session.proofs.Course.{course}
use Rattle.session.proofs.Portions.{portions}
use Rattle.session.proofs.Lending.{lists_on}
use Rattle.session.proofs.lists.Session.work.Goals as goal

pub returns-then-not-working : goal.returns-then-not-working
returns-then-not-working g c =
    let m = g.B.Book.meaning c.args.book.now in
    let v = view c.args.self.now in
    let w = view c.loop-unit.self in
    let law = g.met.B.Book.lawful c.args.book.now in
    let idle = went_idle m c.loop-unit._unit c.args.quota v w c.loop-unit.invariant.1.1 c.loop-unit.invariant.1.0 (works_false w.plain.progress.standing (sym c.if-not-working.ensures)) in
    record { lent = c.loop-unit.invariant.0; worked = worked m c.args.quota v w idle; course = course m law; portions = portions m }

pub loop-unit-preserved : goal.loop-unit-preserved
loop-unit-preserved g c =
    let m = g.B.Book.meaning c.args.book.now in
    let v = view c.args.self.now in
    let w = view c.loop-unit.self in
    let l : c.loop-unit._unit + 1 ≤ c.args.quota = omega arith in
    (lists_on c.args.self.now c.loop-unit.self c.unit.new.self c.loop-unit.invariant.0 c.unit.ensures.lent, (went_more m c.loop-unit._unit v w (view c.unit.new.self) c.loop-unit.invariant.1.0 (works_true w.plain.progress.standing (sym c.if-not-working.ensures)) c.unit.ensures.moves, l))

pub returns : goal.returns
returns g c =
    let m = g.B.Book.meaning c.args.book.now in
    let law = g.met.B.Book.lawful c.args.book.now in
    let v = view c.args.self.now in
    let w = view c.loop-unit.self in
    let e : c.loop-unit._unit ≡ c.args.quota = omega (arith, c.loop-unit.invariant.1.1) in
    record { lent = c.loop-unit.invariant.0; worked = worked m c.args.quota v w (subst (λ d. Went m d v w) e c.loop-unit.invariant.1.0); course = course m law; portions = portions m }
