-- All lines of a plan, one after the other. Assumes nothing.
use Rattle.std.specs.Prelude.{ℕ, zero, suc, List, [], ◌++◌, length}
use Rattle.planning.specs.Meaning.{Meaning}
use Rattle.session.specs.ClosedForm.{known}
use Rattle.lines.specs.Words.{line_text}

module _ {S : Type 0} (m : Meaning S) where
  -- the first k lines after u units in n places
  abbrev pub first_lines : ℕ → ℕ → ℕ → List ℕ
  first_lines n u zero = []
  first_lines n u (suc k) = first_lines n u k ++ line_text m n u k

  -- the line of the whole, and that of each listed place
  abbrev pub all_lines : ℕ → ℕ → List ℕ
  all_lines n u = first_lines n u (suc (length (known m n u)))

  -- what is printed of a book: 4,096 places, and more units than a search in so many places can take
  unfoldable pub plan_text : List ℕ
  plan_text = all_lines 4096 4294967295
