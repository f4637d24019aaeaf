use Rattle.std.proofs.Common.{◌≡◌, ℕ, vec_items, ◌∙◌}
use Rattle.std.proofs.lemmas.Result.{IfOk-weaker}
use Rattle.session.specs.Views.{places, view}
use Rattle.session.specs.Calls.{Stands}
use Rattle.printout.specs.Plans.{all_lines, plan_text}
use Rattle.printout.proofs.Adding.{planned}
use Rattle.printout.proofs.plan.print_plan.Goals as goal

pub returns : goal.returns
returns g c =
    let m = g.B.Book.meaning c.args.book.now in
    let w = view c.work.new.self in
    IfOk-weaker c.session_lines.result (λ t. (u : ℕ) → Stands m u w → vec_items t ≡ all_lines m (places w) u) (λ t. vec_items t ≡ plan_text m)
    (λ t h. planned m c.deref_mut.result.now c.deref_mut-2.result.now (view c.new-session.result) w c.work.result
    (c.deref_mut.ensures.len ∙ c.in_ok-states.ensures.len) (c.deref_mut-2.ensures.len ∙ c.in_ok-rows.ensures.len) c.new-session.ensures c.work.ensures.worked (vec_items t) h)
    c.session_lines.ensures
