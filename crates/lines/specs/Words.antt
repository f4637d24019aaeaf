-- What each line says, word by word, and how words make a line. Assumes nothing.
use Rattle.std.specs.Prelude.{ℕ, zero, suc, cond, List, [], ◌∷◌, ◌++◌, map, length, take, Some, None, codes, decimal, Option}
use Rattle.std.specs.List.{slice_get}
use Rattle.planning.specs.Meaning.{Meaning}
use Rattle.planning.specs.Finding.{place_of}
use Rattle.session.specs.declared.plain.Row.{Row}
use Rattle.session.specs.declared.plain.Standing.{Standing}
use Rattle.session.specs.declared.plain.Standing.TheVariants.{Working, NoPlan, Found, Full}
use Rattle.session.specs.declared.plain.Progress.{Progress}
use Rattle.session.specs.ClosedForm.{progress, known, known_rows}
use Rattle.session.specs.Views.{View}
use Rattle.session.specs.Calls.{concluded}

-- each word after a space
abbrev pub spaced : List (List ℕ) → List ℕ
spaced [] = []
spaced (w ∷ ws) = codes " " ++ (w ++ spaced ws)

-- the words of a line, parted by single spaces and ended by a newline; no line where there is no word
abbrev pub sentence : List (List ℕ) → List ℕ
sentence [] = []
sentence (w ∷ ws) = w ++ (spaced ws ++ 10 ∷ [])

-- a number in decimal, or a dash for a blank
abbrev pub number_word : Option ℕ → List ℕ
number_word None = codes "-"
number_word (Some n) = decimal n

-- the first line: where the search stands, the number of listed states, and the units spent
abbrev pub first_words : Standing → ℕ → ℕ → List (List ℕ)
first_words Working r units = []
first_words NoPlan r units = codes "none" ∷ decimal r ∷ decimal units ∷ []
first_words (Found d) r units = codes "found" ∷ decimal d ∷ decimal r ∷ decimal units ∷ []
first_words (Full f) r units = codes "full" ∷ decimal f ∷ []

module _ {S : Type 0} (m : Meaning S) (ts : List S) where
  -- the places of the outcomes that the act has in s, in order; none for a blank act
  abbrev pub outcome_words : S → Option ℕ → List (List ℕ)
  outcome_words s None = []
  outcome_words s (Some a) = map (λ o. number_word (place_of m ts o)) (m.outcomes s a)

  -- a place: its number, the rank, the act and the act's outcomes; nothing where no state is listed
  abbrev pub place_words : ℕ → Option S → Option Row → List (List ℕ)
  place_words i None row = []
  place_words i (Some s) None = []
  place_words i (Some s) (Some row) = decimal i ∷ number_word row.rank ∷ number_word row.act ∷ outcome_words s row.act

  -- line i of a search that stands so, over the states ts with these rows; places are told only of a search that has
  -- ended
  abbrev pub line_words : Progress → List Row → ℕ → List (List ℕ)
  line_words p rows zero = first_words p.standing (length ts) p.units
  line_words p rows (suc i) = cond (concluded p.standing) (place_words i (slice_get ts i) (slice_get rows i)) []

-- line i after u units in n places
abbrev pub line_text : {S : Type 0} → Meaning S → ℕ → ℕ → ℕ → List ℕ
line_text m n u i = sentence (line_words m (known m n u) (progress m n u) (known_rows m n u) i)

-- line i, as a session tells it by what it holds
abbrev pub held_text : {S : Type 0} → Meaning S → View S → ℕ → List ℕ
held_text m v i = sentence (line_words m (take v.plain.listed v.states) v.plain.progress (take v.plain.listed v.rows) i)
