-- The number of each refusal; 0 where nothing was refused. Assumes nothing.
use Rattle.std.specs.Prelude.{ℕ, List, Ok, Err, Result, codes}
use Rattle.session.specs.declared.stops.AskStop.{AskStop}
use Rattle.session.specs.declared.stops.StartStop.{StartStop}
use Rattle.session.specs.declared.stops.StepStop.{StepStop}
use Rattle.session.specs.declared.stops.CarryStop.{CarryStop}

-- the number of what ask answers
abbrev pub ask_number : {A : Type 0} → Result A AskStop → ℕ
ask_number (Ok _) = 0
ask_number (Err AskStop.Working) = 9
ask_number (Err AskStop.Full) = 10
ask_number (Err AskStop.Unlisted) = 11

-- the number of what start answers
abbrev pub start_number : {A : Type 0} → Result A StartStop → ℕ
start_number (Ok _) = 0
start_number (Err StartStop.Working) = 9
start_number (Err StartStop.Full) = 10
start_number (Err StartStop.Unlisted) = 11
start_number (Err StartStop.Blank) = 12

-- the number of what step answers
abbrev pub step_number : {A : Type 0} → Result A StepStop → ℕ
step_number (Ok _) = 0
step_number (Err StepStop.NoWalk) = 13
step_number (Err StepStop.Elsewhere) = 14
step_number (Err StepStop.NotReady) = 15
step_number (Err StepStop.NotApplicable) = 16

-- the number of what carry answers
abbrev pub carry_number : {A : Type 0} → Result A CarryStop → ℕ
carry_number (Ok _) = 0
carry_number (Err CarryStop.NotReady) = 15
carry_number (Err CarryStop.NotApplicable) = 16

-- a start at a state of which an ask is refused is refused for the same reason
abbrev pub start_stop : AskStop → StartStop
start_stop AskStop.Working = StartStop.Working
start_stop AskStop.Full = StartStop.Full
start_stop AskStop.Unlisted = StartStop.Unlisted

-- a step that its bench refuses is refused for the same reason
abbrev pub step_stop : CarryStop → StepStop
step_stop CarryStop.NotReady = StepStop.NotReady
step_stop CarryStop.NotApplicable = StepStop.NotApplicable

-- a refusal of start in words, with its number
abbrev pub start_text : StartStop → List ℕ
start_text StartStop.Working = codes "still working: stop 9"
start_text StartStop.Full = codes "full: stop 10"
start_text StartStop.Unlisted = codes "not listed: stop 11"
start_text StartStop.Blank = codes "no rank there: stop 12"

-- a refusal of step in words, with its number
abbrev pub step_text : StepStop → List ℕ
step_text StepStop.NoWalk = codes "no walk: stop 13"
step_text StepStop.Elsewhere = codes "the bench is elsewhere: stop 14"
step_text StepStop.NotReady = codes "the bench is not ready: stop 15"
step_text StepStop.NotApplicable = codes "not applicable: stop 16"
