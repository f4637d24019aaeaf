-- The number of each refusal; 0 where nothing was refused. Assumes nothing.
use Rattle.std.specs.Prelude.{ℕ, Bool, true, false, List, codes, Ok, Err, Result}
use Rattle.session.specs.declared.plain.Standing.{Standing}
use Rattle.session.specs.declared.plain.Standing.TheVariants.{Working, NoPlan, Found, Full}
use Rattle.lines.specs.declared.LineStop.{LineStop}

-- the number of an answer
abbrev pub line_number : {A : Type 0} → Result A LineStop → ℕ
line_number (Ok _) = 0
line_number (Err LineStop.Short) = 18
line_number (Err LineStop.Working) = 9

-- how a refusal is told
abbrev pub line_stop_text : LineStop → List ℕ
line_stop_text LineStop.Short = codes "the buffer is short: stop 18"
line_stop_text LineStop.Working = codes "still working: stop 9"

-- the answer for a line of n bytes, by whether the buffer is short and where the search stands: a short buffer is refused
-- first
abbrev pub line_answer : Bool → Standing → ℕ → Result ℕ LineStop
line_answer true st n = Err LineStop.Short
line_answer false Working n = Err LineStop.Working
line_answer false NoPlan n = Ok n
line_answer false (Found d) n = Ok n
line_answer false (Full f) n = Ok n
