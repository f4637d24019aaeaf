-- Script benches by what they hold, and how they choose. Assumes nothing.
use Rattle.std.specs.Prelude.{ℕ, ◌%◌, List, [], ◌∷◌, length, drop, Ok, Err, Result, slice_index_or}
use Rattle.planning.specs.Meaning.{Meaning}
use Rattle.planning.specs.Ranks.{some_of}
use Rattle.session.specs.Walks.{Post}
use Rattle.session.specs.declared.stops.CarryStop.{CarryStop}
use Rattle.benches.specs.declared.script.ScriptBench.{ScriptBench}

-- where a bench stands, and the bytes of its script that remain
pub record Script (S : Type 0) : Type 0 where
  pub state : S
  pub bytes : List ℕ

-- a script bench by what it holds
abbrev pub script : {S : Type 0} → ScriptBench S → Script S
script k = record { state = k.state; bytes = drop k.used k.choices.items }

-- its meaning: it is ready while bytes remain
abbrev pub post : {S : Type 0} → Script S → Post S
post k = record { state = k.state; ready = some_of k.bytes }

-- what carry answers, by the bytes that remain and the outcomes of the act
abbrev pub answer_by : {S : Type 0} → List ℕ → List S → Result (Unit {0}) CarryStop
answer_by [] os = Err CarryStop.NotReady
answer_by (x ∷ xs) [] = Err CarryStop.NotApplicable
answer_by (x ∷ xs) (o ∷ os) = Ok tt

-- what it leaves: the next byte, modulo the number of outcomes, is the number of the one taken, and is used up
abbrev pub leaves_by : {S : Type 0} → S → List ℕ → List S → Script S
leaves_by s [] os = record { state = s; bytes = [] }
leaves_by s (x ∷ xs) [] = record { state = s; bytes = x ∷ xs }
leaves_by s (x ∷ xs) (o ∷ os) = record { state = slice_index_or (o ∷ os) (x % length (o ∷ os)) o; bytes = xs }

module _ {S : Type 0} (m : Meaning S) where
  -- what carrying an act answers
  abbrev pub carry_answer : Script S → ℕ → Result (Unit {0}) CarryStop
  carry_answer k a = answer_by k.bytes (m.outcomes k.state a)

  -- what carrying an act leaves
  abbrev pub carry_leaves : Script S → ℕ → Script S
  carry_leaves k a = leaves_by k.state k.bytes (m.outcomes k.state a)
