use Rattle.std.proofs.Common.{◌≡◌, ℕ, vec_items}
use Rattle.session.specs.Views.{places, view}
use Rattle.session.specs.Calls.{Stands}
use Rattle.printout.specs.Plans.{first_lines}
use Rattle.printout.proofs.plan.session_lines.Given as goal

abbrev pub invariant-loop-index : goal.invariant-loop-index
invariant-loop-index g l =
    (u : ℕ) → Stands (g.B.Book.meaning l.book) u (view l.session) → vec_items l.text ≡ first_lines (g.B.Book.meaning l.book) (places (view l.session)) u l.index
