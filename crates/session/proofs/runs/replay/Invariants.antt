use Rattle.session.specs.Views.{SameLists, view}
use Rattle.session.specs.Replays.{posts_of}
use Rattle.session.proofs.Replaying.{Gone}
use Rattle.session.proofs.runs.replay.Given as goal

abbrev pub invariant-loop-i : goal.invariant-loop-i
invariant-loop-i g l =
    SameLists l.initial.session l.session
    × Gone (g.B.Book.meaning l.book) (view l.initial.session) (posts_of g.K.Bench.stands (g.K.Bench.fit l.book) l.initial.benches) l.calls l.initial.answers l.i (view l.session) (posts_of g.K.Bench.stands (g.K.Bench.fit l.book) l.benches) l.answers
