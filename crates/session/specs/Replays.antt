-- Calls given as data, and what it is to make them in order on one session. Assumes nothing.
use Rattle.std.specs.Prelude.{◌≡◌, ℕ, ◌≤◌, Bool, List, [], ◌∷◌, ◌++◌, map, length, Some, Result, slice_set}
use Rattle.std.specs.List.{slice_get}
use Rattle.planning.specs.Meaning.{Meaning}
use Rattle.session.specs.declared.plain.Row.{Row}
use Rattle.session.specs.declared.plain.Progress.{Progress}
use Rattle.session.specs.declared.stops.AskStop.{AskStop}
use Rattle.session.specs.declared.stops.StartStop.{StartStop}
use Rattle.session.specs.declared.stops.StepStop.{StepStop}
use Rattle.session.specs.declared.calls.Step.{Step}
use Rattle.session.specs.declared.calls.Call.{Call}
use Rattle.session.specs.declared.calls.Answer.{Answer}
use Rattle.session.specs.Views.{View}
use Rattle.session.specs.Calls.{Made}
use Rattle.session.specs.Walks.{Post, post_of}
use Rattle.session.specs.Histories.{Event, Did, History}

-- benches by their meaning
abbrev pub posts_of : {K S : Type 0} → (K → S) → (K → Bool) → List K → List (Post S)
posts_of stands fit ks = map (post_of stands fit) ks

-- a call that names no bench of the list
abbrev pub Benchless : {S : Type 0} → Call S → List (Post S) → Type 0
Benchless (Call.Work q) ps = ⊥
Benchless (Call.Ask s) ps = ⊥
Benchless (Call.Start k) ps = length ps ≤ k
Benchless (Call.Step k) ps = length ps ≤ k

-- the call, made with the bench that it names, is this event with this answer, and leaves the benches so
pub data Taken {S : Type 0} (ps : List (Post S)) : Call S → Event S → Answer → List (Post S) → Type 0 where
  work : {q : ℕ} {r : Progress} → Taken ps (Call.Work q) (Event.worked q r) (Answer.Worked r) ps
  ask : {s : S} {r : Result Row AskStop} → Taken ps (Call.Ask s) (Event.asked s r) (Answer.Asked r) ps
  start : {k : ℕ} {b : Post S} {r : Result ℕ StartStop} → slice_get ps k ≡ Some b → Taken ps (Call.Start k) (Event.started b r) (Answer.Started r) ps
  step : {k : ℕ} {b b' : Post S} {r : Result Step StepStop} → slice_get ps k ≡ Some b → Taken ps (Call.Step k) (Event.stepped b r b') (Answer.Stepped r) (slice_set ps k b')

module _ {S : Type 0} (m : Meaning S) where
  -- one call of the list, on the session v
  pub data CallMade (ps : List (Post S)) (v : View S) (c : Call S) : Answer → List (Post S) → View S → Type 0 where
    event : {a : Answer} {ps' : List (Post S)} {v' : View S} (e : Event S) → Taken ps c e a ps' → Did m v e v' → CallMade ps v c a ps' v'
    no_event : Benchless c ps → CallMade ps v c Answer.NoBench ps v

-- the calls, in order, are these events with these answers, and leave the benches so
pub data Replayed {S : Type 0} (ps : List (Post S)) : List (Call S) → List (Event S) → List Answer → List (Post S) → Type 0 where
  nothing : Replayed ps [] [] [] ps
  taken : {cs : List (Call S)} {es : List (Event S)} {rs : List Answer} {qs qs' : List (Post S)} {c : Call S} {e : Event S} {a : Answer} → Replayed ps cs es rs qs → Taken qs c e a qs' → Replayed ps (cs ++ c ∷ []) (es ++ e ∷ []) (rs ++ a ∷ []) qs'
  left_out : {cs : List (Call S)} {es : List (Event S)} {rs : List Answer} {qs : List (Post S)} (c : Call S) → Replayed ps cs es rs qs → Benchless c qs → Replayed ps (cs ++ c ∷ []) es (rs ++ Answer.NoBench ∷ []) qs

-- a session was made over these lists, and the calls were made on it in order, with these benches and answers
pub record Replay {S : Type 0} (m : Meaning S) (states : List S) (rows : List Row) (ps : List (Post S)) (cs : List (Call S)) (rs : List Answer) (ps' : List (Post S)) (v : View S) : Type 0 where
  pub fresh : View S
  pub events : List (Event S)
  pub made : Made m states rows fresh
  pub history : History m fresh events v
  pub calls : Replayed ps cs events rs ps'
