use Rattle.std.proofs.Common.{true}
use Rattle.planning.specs.Finding.{outcomes_from}
use Rattle.session.specs.Views.{SameLists, view}
use Rattle.session.specs.Joins.{Joins}
use Rattle.session.proofs.lists.Session.expand.Given as goal

abbrev pub invariant-loop-act : goal.invariant-loop-act
invariant-loop-act g l = SameLists l.initial.self l.self × Joins (g.B.Book.meaning l.book) (outcomes_from (g.B.Book.meaning l.book) l.s 0 l.act) (view l.initial.self) true (view l.self)
