use Rattle.std.proofs.Common.{◌≡◌, ◌+◌, ◌-◌, ◌*◌, ◌≤◌, length}
use Rattle.std.specs.Iterator.Adapters.{take_source, take_count}
use Rattle.sheets.specs.Events.{events_of}
use Rattle.sheets.specs.Reading.{events_check}
use Rattle.sheets.proofs.Passing.{judged, total}
use Rattle.sheets.proofs.section.SectionRules.check_act.Given as goal

abbrev pub invariant-loop-event : goal.invariant-loop-event
invariant-loop-event l =
    record {
      can : (goal.iterator-loop-event).can_next l.event-iterator;
      ends : (goal.iterator-loop-event).is_finite l.event-iterator;
      same : judged l.self.features l.at (take_count l.event-iterator) (length l.bytes - total (events_of l.bytes)) (events_of (take_source l.event-iterator).rest.now) ≡ events_check l.self.features 0 16 l.bytes;
      whole : l.at + total (events_of (take_source l.event-iterator).rest.now) + (length l.bytes - total (events_of l.bytes)) ≡ length l.bytes;
      small : l.at + 204 * take_count l.event-iterator ≤ 3264;
    }
