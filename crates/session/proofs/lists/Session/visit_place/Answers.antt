use Rattle.std.proofs.Common.{◌+◌, ◌%◌, ◌/◌, ◌<◌, eqb, None, sym, ap, ◌∙◌, subst, inl, inr, arith}
use Rattle.session.specs.Views.{view}
use Rattle.session.specs.Units.{outlook}
use Rattle.session.proofs.Moving.{visit_empty, visit_last, visit_deep, visit_moves}
use Rattle.session.proofs.lists.Session.visit_place.Goals as goal

pub returns-then-r-eq0-clause-moves : goal.returns-then-r-eq0-clause-moves
returns-then-r-eq0-clause-moves g c =
    elim c.then-r-eq0.either [
      | inl e ↦ visit_empty (g.B.Book.meaning c.args.book.now) (g.met.B.Book.lawful c.args.book.now) (view c.args.self.now) (sym c.from-r.ensures ∙ e)
      | inr e ↦ visit_last (g.B.Book.meaning c.args.book.now) (g.met.B.Book.lawful c.args.book.now) (view c.args.self.now) e.1
    ]

pub returns-in_default-clause-moves : goal.returns-in_default-clause-moves
returns-in_default-clause-moves g c = visit_deep (g.B.Book.meaning c.args.book.now) (g.met.B.Book.lawful c.args.book.now) (view c.args.self.now) (subst (λ r. 65535 < c.args.self.now.«record».progress.units / r) c.from-r.ensures (omega (arith, c.in_default.ensures)))

pub returns-clause-moves : goal.returns-clause-moves
returns-clause-moves g c =
    let m = g.B.Book.meaning c.args.book.now in
    let units = c.args.self.now.«record».progress.units in
    let r = c.from-r.ensures in
    visit_moves m (g.met.B.Book.lawful c.args.book.now) (view c.args.self.now) (view c.visit.new.self) _ _ c.outlook-standing.result (omega (arith, c.if-r-eq0.false, r)) (ap (λ k. units % k) r) (c.in-Ok.ensures.1 ∙ ap (λ k. units / k) r) c.visit.ensures.states c.visit.ensures.rows c.visit.ensures.plain
    (c.outlook-standing.ensures ∙ ap (λ k. outlook (view c.visit.new.self) c.in-Ok.j (eqb ((units + 1) % k) 0)) r)
    (record { rank = None; act = None })
