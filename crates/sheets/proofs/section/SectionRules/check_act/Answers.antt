use Rattle.std.proofs.Common.{◌≡◌, ◌+◌, ◌-◌, length, sym, ap, ◌∙◌, arith, rules}
use Rattle.std.specs.Iterator.Adapters.{take_source, take_count}
use Rattle.sheets.specs.Events.{entry, events_of}
use Rattle.sheets.proofs.Judging.{condition_few}
use Rattle.sheets.proofs.Passing.{total, judged, judged_on, begun, act_right, act_goes_on, act_empty}
use Rattle.sheets.proofs.section.SectionRules.check_act.Goals as goal
use Rattle.sheets.proofs.section.SectionRules.check_act.Goals.{else-not-is_empty-via-then-not-is_empty+else-from-bytes, else-not-is_empty-via-else-not-is_empty}

pub loop-event-init : goal.loop-event-init
loop-event-init c =
    let n = c.args.self.features in
    let bs = c.args.bytes.now in
    let count : take_count c.into_iter-event-iterator.result ≡ 16 = search rules in
    let rest : (take_source c.into_iter-event-iterator.result).rest.now ≡ bs = search rules in
    begun n bs _ _ rest count

pub loop-event-preserved : goal.loop-event-preserved
loop-event-preserved c =
    let n = c.args.self.features in
    let at = c.loop-event.at in
    let spare = length c.args.bytes.now - total (events_of c.args.bytes.now) in
    let e = entry c.in-Some.event in
    let left = take_count c.next.new.self in
    let es = events_of (take_source c.next.new.self).rest.now in
    let h = c.in-Some.ensures.steps in
    let ok = sym c.in_ok-check_event.ensures in
    let few = condition_few n at e ok in
    let next : at + (4 + length e.condition) ≡ at + 4 + length e.condition = omega arith in
    record {
      can = tt;
      ends = tt;
      same = ap (λ a. judged n a left spare es) next ∙ judged_on n at _ _ spare e _ _ h.0 h.1 ok ∙ c.loop-event.invariant.same;
      whole = omega (arith, ap total h.0);
      small = omega arith;
    }

pub returns-then-from-bytes : goal.returns-then-from-bytes
returns-then-from-bytes c =
    let bs = c.args.bytes.now in
    act_right c.args.self.features c.loop-event.at _ (length bs - total (events_of bs)) bs _ c.loop-event.invariant.same (λ p. (c.in-None.ensures.steps p).0) c.loop-event.invariant.whole c.if-not-is_empty.ensures (sym c.from.ensures ∙ c.if-from-bytes.true)

pub returns-else-not-is_empty : goal.returns-else-not-is_empty
returns-else-not-is_empty c =
    let bs = c.args.bytes.now in
    let right = act_goes_on c.args.self.features c.loop-event.at _ (length bs - total (events_of bs)) bs _ c.loop-event.invariant.same (λ p. (c.in-None.ensures.steps p).0) c.loop-event.invariant.whole in
    let none = act_empty c.args.self.features c.loop-event.at _ (length bs - total (events_of bs)) bs _ c.loop-event.invariant.same (λ p. (c.in-None.ensures.steps p).0) c.loop-event.invariant.whole in
    elim c.else-not-is_empty.branch [
      | else-not-is_empty-via-then-not-is_empty+else-from-bytes w ↦ right w.if-not-is_empty.ensures (λ e. w.if-from-bytes.false (w.from.ensures ∙ e))
      | else-not-is_empty-via-else-not-is_empty w ↦ none w.if-not-is_empty.ensures
    ]
