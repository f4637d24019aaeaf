use Rattle.std.proofs.Common.{◌≡◌, true, ◌++◌}
use Rattle.planning.specs.Going.{outcomes_left}
use Rattle.session.specs.Views.{SameLists, view}
use Rattle.session.specs.Joins.{Joins}
use Rattle.session.proofs.lists.Session.join_outcomes.Given as goal

abbrev pub invariant-loop-o : goal.invariant-loop-o
invariant-loop-o g l =
    record {
      lent : SameLists l.initial.self l.self;
      joins : Joins (g.B.Book.meaning l.book) l.yielded (view l.initial.self) true (view l.self);
      left : l.yielded ++ outcomes_left g.B.Book.meaning l.o-iterator ≡ (g.B.Book.meaning l.book).outcomes l.fn.s l.fn.act;
    }
