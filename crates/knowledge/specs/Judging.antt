-- What a mask says of the formula that some bytes spell: to be proved of the evaluator. Assumes nothing.
use Rattle.std.specs.Prelude.{◌≡◌, ℕ, ◌≤◌, List, ◌++◌}
use Rattle.sheets.specs.Formulas.{Formula, Spells}
use Rattle.epistemic.specs.Cells.{ProperCell}
use Rattle.epistemic.specs.Claims.{SatisfiedAt}

-- where the bytes begin with the text of a formula over n letters, in a proper cell over as many features, the mask is
-- where the formula is satisfied, and what is left are the bytes after its text
abbrev pub Judged : ℕ → ℕ → List ℕ → ℕ → List ℕ → Type 0
Judged n c bs m rest = n ≤ 6 → ProperCell n c → (f : Formula) (text after : List ℕ) → Spells n f text → bs ≡ text ++ after → SatisfiedAt n c f m × (rest ≡ after)
