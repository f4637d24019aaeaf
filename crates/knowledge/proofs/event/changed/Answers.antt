use Rattle.std.proofs.Common.{sym, ap, ◌∙◌}
use Rattle.sheets.specs.Events.{entry}
use Rattle.epistemic.specs.Bits.{bit}
use Rattle.epistemic.proofs.Shifts.{bit_cut}
use Rattle.epistemic.proofs.Changes.{sets_feature, clears_feature, leaves_feature}
use Rattle.knowledge.specs.Acting.{event_of}
use Rattle.knowledge.proofs.event.changed.Goals as goal

pub returns-then-has : goal.returns-then-has
returns-then-has c n l =
    let i = c.args.i in
    let set = bit_cut c.args.event.set n i l ∙ ap (λ m. bit m i) (sym c.from.ensures) ∙ sym c.if-has.ensures in
    c.assigned.ensures ∙ sets_feature (event_of n (entry c.args.event)) c.args.mask c.ranges.mask.fits i set

pub returns-then-has-2 : goal.returns-then-has-2
returns-then-has-2 c n l =
    let i = c.args.i in
    let set = bit_cut c.args.event.set n i l ∙ ap (λ m. bit m i) (sym c.from.ensures) ∙ sym c.if-has.ensures in
    let clear = bit_cut c.args.event.clear n i l ∙ ap (λ m. bit m i) (sym c.from-else-has.ensures) ∙ sym c.if-has-2.ensures in
    c.assigned-then-has-2.ensures ∙ clears_feature (event_of n (entry c.args.event)) c.args.mask c.ranges.mask.fits i set clear

pub returns-else-has-2 : goal.returns-else-has-2
returns-else-has-2 c n l =
    let i = c.args.i in
    let set = bit_cut c.args.event.set n i l ∙ ap (λ m. bit m i) (sym c.from.ensures) ∙ sym c.if-has.ensures in
    let clear = bit_cut c.args.event.clear n i l ∙ ap (λ m. bit m i) (sym c.from-else-has.ensures) ∙ sym c.if-has-2.ensures in
    leaves_feature (event_of n (entry c.args.event)) c.args.mask c.ranges.mask.fits i set clear
