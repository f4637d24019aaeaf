use Rattle.std.proofs.Common.{◌≡◌, ◌+◌, if◌then◌else◌, is_ok, sym, refl, ap, ◌∙◌}
use Rattle.session.specs.Views.{view}
use Rattle.session.specs.declared.plain.Standing.TheVariants.{Full, Working}
use Rattle.session.proofs.Moving.{expand_none, expand_moves}
use Rattle.session.proofs.lists.Session.expand_place.Goals.{in-Ok, in-Err}
use Rattle.session.proofs.lists.Session.expand_place.Goals as goal

pub returns-in_default : goal.returns-in_default
returns-in_default g c = record { lent = record { states = refl; rows = refl }; moves = expand_none (g.B.Book.meaning c.args.book.now) (view c.args.self.now) (sym c.state.ensures ∙ c.in_default.is) }

pub returns-clause-moves : goal.returns-clause-moves
returns-clause-moves g c =
    let m = g.B.Book.meaning c.args.book.now in
    let units = c.args.self.now.«record».progress.units + 1 in
    let standing : c.match-expand.standing ≡ (if is_ok c.expand.result then Working else Full units) = elim c.match-expand.branch [
      | in-Ok w ↦ w.standing-is ∙ sym (ap (λ r. if is_ok r then Working else Full units) w.in-Ok.is)
      | in-Err w ↦ w.standing-is ∙ sym (ap (λ r. if is_ok r then Working else Full units) w.in-Err.is)
    ] in
    expand_moves m (view c.args.self.now) (view c.expand.new.self) c.in-Some.s (is_ok c.expand.result) c.match-expand.standing (sym c.state.ensures ∙ c.in-Some.is) c.expand.ensures.joins standing
