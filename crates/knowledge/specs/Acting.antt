-- The events of an act, from its bytes, and what they make of a cell. Assumes nothing.
use Rattle.std.specs.Prelude.{ℕ, ◌%◌, ◌^◌, List, map}
use Rattle.sheets.specs.Events.{Entry, events_of}
use Rattle.epistemic.specs.Acts.{Event}
use Rattle.knowledge.specs.Texts.{read}

-- what an event's bytes mean over n features, whatever they are: there are 8 classes, and only features below n change
abbrev pub event_of : ℕ → Entry → Event
event_of n e =
    record { class = e.class % 8; pre = (read n e.condition).formula; set = e.set % 2 ^ n; clear = e.clear % 2 ^ n }

-- the act that some bytes mean
abbrev pub act_of : ℕ → List ℕ → List Event
act_of n bs = map (event_of n) (events_of bs)
