use Rattle.std.proofs.Common.{◌≤◌}
use Rattle.session.specs.Views.{SameLists, view}
use Rattle.session.proofs.Working.{Went}
use Rattle.session.proofs.lists.Session.work.Given as goal

abbrev pub invariant-loop-unit : goal.invariant-loop-unit
invariant-loop-unit g l = SameLists l.initial.self l.self × (Went (g.B.Book.meaning l.book) l._unit (view l.initial.self) (view l.self) × (l._unit ≤ l.quota))
