-- What it is to write a line into a buffer. Assumes nothing.
use Rattle.std.specs.Prelude.{◌≡◌, ℕ, ◌≤◌, T, List, ◌++◌, length, drop, Some, Ok, Err, Result, nat_lt}
use mathlib.Core.List.{Memᴰ}
use Rattle.std.specs.List.{slice_get}
use Rattle.planning.specs.Meaning.{Meaning}
use Rattle.planning.specs.Finding.{place_of}
use Rattle.session.specs.ClosedForm.{known, progress}
use Rattle.session.specs.Views.{View, places}
use Rattle.session.specs.Calls.{Stands, concluded}
use Rattle.lines.specs.declared.LineStop.{LineStop}
use Rattle.lines.specs.Words.{line_text}
use Rattle.lines.specs.Stops.{line_answer, line_number}

-- the line lies at the beginning of the buffer, and the bytes after it are as they were
abbrev pub over : List ℕ → List ℕ → List ℕ
over line before = line ++ drop (length line) before

-- the buffer after an answer: it holds the line, or is as it was where the line was refused
abbrev pub line_buffer : Result ℕ LineStop → List ℕ → List ℕ → List ℕ
line_buffer (Ok n) line before = over line before
line_buffer (Err e) line before = before

-- each outcome of a listed state has a place in the list
abbrev pub Closed : {S : Type 0} → Meaning S → List S → Type 0
Closed {S} m ts = (i a : ℕ) (s o : S) → slice_get ts i ≡ Some s → Memᴰ o (m.outcomes s a) → (p : ℕ) × (place_of m ts o ≡ Some p)

-- line i of a session, written into a buffer
pub record Printed {S : Type 0} (m : Meaning S) (i : ℕ) (v : View S) (before : List ℕ) (r : Result ℕ LineStop) (after : List ℕ) : Type 0 where
  -- where the session stands over this book
  pub answer : (u : ℕ) → Stands m u v → r ≡ line_answer (nat_lt (length before) 64) (progress m (places v) u).standing (length (line_text m (places v) u i))
  pub buffer : (u : ℕ) → Stands m u v → after ≡ line_buffer r (line_text m (places v) u i) before
  -- no line needs more than 64 bytes, and where places are told, each outcome has one
  pub fits : (u : ℕ) → Stands m u v → length (line_text m (places v) u i) ≤ 64
  pub closed : (u : ℕ) → Stands m u v → T (concluded (progress m (places v) u).standing) → Closed m (known m (places v) u)
  -- whatever the book: it is refused by the same numbers, a refusal writes nothing, and no line goes past 64 bytes
  pub number : line_number r ≡ line_number (line_answer (nat_lt (length before) 64) v.plain.progress.standing 0)
  pub kept : (e : LineStop) → r ≡ Err e → after ≡ before
  pub bound : (n : ℕ) → r ≡ Ok n → n ≤ 64
  pub rest : drop 64 after ≡ drop 64 before
  pub size : length after ≡ length before
