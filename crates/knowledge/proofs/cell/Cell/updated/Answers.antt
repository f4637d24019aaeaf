use Rattle.std.proofs.Common.{◌^◌, eqb, map, ap, ◌∙◌, subst, ap₂, arith}
use Rattle.std.specs.Bool.{then_some}
use Rattle.std.proofs.lemmas.Nat.{mod_below}
use Rattle.sheets.specs.Events.{entry}
use Rattle.epistemic.specs.Acts.{moved}
use Rattle.epistemic.specs.Bits.{image}
use Rattle.knowledge.specs.Acting.{act_of, event_of}
use Rattle.knowledge.proofs.Updating.{SoFar, more_of, all_possible, all_classes}
use Rattle.knowledge.proofs.cell.Cell.updated.Goals as goal

pub loop-event-preserved : goal.loop-event-preserved
loop-event-preserved c =
    let n = c.args.self.letters in
    let e = event_of n (entry c.in-Some.event) in
    let so_far = subst (λ es. SoFar n c.args.self.mask (act_of n c.args.act.now) es c.loop-event.covered c.loop-event.classes) (ap (map (event_of n)) c.in-Some.ensures.steps) c.loop-event.invariant in
    let leads = c.image.ensures ∙ ap₂ (λ k x. image (moved k (event_of k (entry c.in-Some.event))) x (2 ^ k)) c.part-here.ensures.letters c.part-here.ensures.mask in
    more_of n c.args.self.mask (act_of n c.args.act.now) e (act_of n c.next.new.self.rest.now) (mod_below c.in-Some.event.class 8 (omega arith)) c.loop-event.covered c.loop-event.classes so_far c.part-here.result.mask c.image.result c.from.result c.part-here.ensures.mask leads c.from.ensures

pub returns : goal.returns
returns c =
    let n = c.args.self.letters in
    let m = c.args.self.mask in
    let act = act_of n c.args.act.now in
    let all = subst (λ es. SoFar n m act es c.loop-event.covered c.loop-event.classes) (ap (map (event_of n)) c.in-None.ensures.steps.0) c.loop-event.invariant in
    c.then_some.ensures
    ∙ ap₂ (λ x y. then_some (eqb x m) y) (all_possible n m act c.loop-event.covered c.loop-event.classes all) (all_classes n m act c.loop-event.covered c.loop-event.classes all)
