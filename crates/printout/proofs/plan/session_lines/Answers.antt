use Rattle.std.proofs.Common.{◌≤◌, length, vec_items, ap, ◌∙◌, arith}
use Rattle.session.specs.Views.{view}
use Rattle.printout.proofs.Adding.{next_lines, whole_text}
use Rattle.printout.proofs.plan.session_lines.Goals as goal
use Rattle.printout.proofs.plan.session_lines.Goals.{else-loop-index-test, then-loop-index-test+in_ok-add_line+else-index-index-end}

pub loop-index-preserved : goal.loop-index-preserved
loop-index-preserved g c =
    λ u h.
    next_lines (g.B.Book.meaning c.args.book.now) (view c.args.session.now) u (vec_items c.loop-index.text) (vec_items c.add_line.new.text) c.loop-index.index (c.in_ok-add_line.ensures u h)
    (c.loop-index.invariant u h)

pub returns : goal.returns
returns g c =
    λ u h.
    let m = g.B.Book.meaning c.args.book.now in
    let v = view c.args.session.now in
    let i = c.loop-index.index in
    elim c.loop-index-test.branch [
      | else-loop-index-test w ↦ absurd (omega (arith, c.loop-index.auto.index-end, w.loop-index-test.false))
      | then-loop-index-test+in_ok-add_line+else-index-index-end w ↦
          let last : length c.states-index-end.result.now ≤ i = omega arith in
          ap vec_items w.text-is
          ∙ whole_text m v u h (vec_items w.add_line.new.text) c.states-index-end.result.now i c.states-index-end.ensures last c.loop-index.auto.index-end
          (next_lines m v u (vec_items c.loop-index.text) (vec_items w.add_line.new.text) i (w.in_ok-add_line.ensures u h) (c.loop-index.invariant u h))
    ]
