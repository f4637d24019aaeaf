-- Runs of calls on one session: each call is the relation that its own contract states. Assumes nothing.
use Rattle.std.specs.Prelude.{ℕ, List, [], ◌∷◌, ◌++◌, Result}
use Rattle.planning.specs.Meaning.{Meaning}
use Rattle.session.specs.declared.plain.Row.{Row}
use Rattle.session.specs.declared.plain.Progress.{Progress}
use Rattle.session.specs.declared.stops.AskStop.{AskStop}
use Rattle.session.specs.declared.stops.StartStop.{StartStop}
use Rattle.session.specs.declared.stops.StepStop.{StepStop}
use Rattle.session.specs.declared.calls.Step.{Step}
use Rattle.session.specs.Views.{View}
use Rattle.session.specs.Calls.{Worked, Asked}
use Rattle.session.specs.Walks.{Post, Started, Stepped}

-- an event of a run is a call that was made (no event of an act): what it was given, a bench by its meaning before and
-- after, and the answer
pub data Event (S : Type 0) : Type 0 where
  worked : ℕ → Progress → Event S
  asked : S → Result Row AskStop → Event S
  started : Post S → Result ℕ StartStop → Event S
  stepped : Post S → Result Step StepStop → Post S → Event S

module _ {S : Type 0} (m : Meaning S) where
  -- the call took the session from v to v'
  abbrev pub Did : View S → Event S → View S → Type 0
  Did v (Event.worked q r) v' = Worked m q v r v'
  Did v (Event.asked s r) v' = Asked m s v r v'
  Did v (Event.started b r) v' = Started m b v r v'
  Did v (Event.stepped b r b') v' = Stepped m b v r b' v'

  -- the calls, in order, took the session from v to where it is
  pub data History (v : View S) : List (Event S) → View S → Type 0 where
    made : History v [] v
    called : {es : List (Event S)} {w w' : View S} (e : Event S) → History v es w → Did w e w' → History v (es ++ e ∷ []) w'
