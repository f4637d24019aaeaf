use Rattle.std.proofs.Common.{◌≡◌, Some}
use Rattle.planning.specs.Going.{outcomes_left}
use Rattle.lines.specs.Texts.{text}
use Rattle.lines.specs.Words.{outcome_words}
use Rattle.lines.proofs.Wording.{ahead, place_names}
use Rattle.lines.proofs.tell.row_line.Given as goal

abbrev pub invariant-loop-o : goal.invariant-loop-o
invariant-loop-o g l =
    let m = g.B.Book.meaning in
    let o = l.o-iterator in
    ahead (text l.text) (place_names (m l.book) l.states (outcomes_left m o)) ≡ ahead (text l.initial.text) (outcome_words (m l.book) l.states l.fn.s (Some l.act))
