-- Which texts are one whole formula, and the first fault of any other. Assumes nothing.
use Rattle.std.specs.Prelude.{◌≡◌, ℕ, zero, suc, ◌+◌, ◌<◌, ◌≤◌, cond, List, [], ◌∷◌, ◌++◌, length, take, Some, None, Ok, Err, Result, nat_lt}
use Rattle.sheets.specs.declared.fault.FormulaFault.{FormulaFault}
use Rattle.sheets.specs.declared.fault.FormulaFault.TheVariants.{TooLong, Wrong, Spare, Unfinished}
use Rattle.sheets.specs.Formulas.{Formula, Spells}
use Rattle.sheets.specs.Signs.{arity_over}
use Rattle.sheets.specs.Stops.{formula_place}

-- the bytes from a place on are to be so many formulas, one after another: each sign is one of them and owes those that
-- it stands before
abbrev pub check_from : ℕ → ℕ → ℕ → List ℕ → Result (Unit {0}) FormulaFault
check_from n at zero [] = Ok tt
check_from n at zero (_ ∷ _) = Err (Spare at)
check_from n at (suc owed) [] = Err (Unfinished at)
check_from n at (suc owed) (s ∷ bs) = elim (arity_over n s) [ Some a ↦ check_from n (suc at) (a + owed) bs | None ↦ Err (Wrong at) ]

-- a text is one whole formula over n letters, of at most 200 bytes; or its first fault
abbrev pub checked : ℕ → List ℕ → Result (Unit {0}) FormulaFault
checked n bs = cond (nat_lt 200 (length bs)) (Err TooLong) (check_from n 0 1 bs)

-- the bytes are the text of some formula over n letters
abbrev pub IsFormula : ℕ → List ℕ → Type 0
IsFormula n bs = (f : Formula) × Spells n f bs

-- the text of some formula over n letters begins with the bytes
abbrev pub BeginsFormula : ℕ → List ℕ → Type 0
BeginsFormula n bs = (rest : List ℕ) × IsFormula n (bs ++ rest)

-- an answer accepts the text exactly if it is the text of a formula and has 1 to 200 bytes
pub record Accepts (n : ℕ) (bs : List ℕ) (r : Result (Unit {0}) FormulaFault) : Type 0 where
  pub only : r ≡ Ok tt → IsFormula n bs × (1 ≤ length bs) × (length bs ≤ 200)
  pub all : IsFormula n bs → length bs ≤ 200 → r ≡ Ok tt

-- all before the place is the beginning of a formula, and no formula begins with what is before it and the byte at it,
-- nor is what is before it if there is no byte
pub record FirstFault (n : ℕ) (bs : List ℕ) (p : ℕ) : Type 0 where
  pub within : p ≤ length bs
  pub before : BeginsFormula n (take p bs)
  pub not_on : p < length bs → BeginsFormula n (take (p + 1) bs) → ⊥
  pub not_done : p ≡ length bs → IsFormula n bs → ⊥

-- a fault of a text of at most 200 bytes is at the first place where no formula goes on so
abbrev pub ToldFirst : ℕ → List ℕ → Result (Unit {0}) FormulaFault → Type 0
ToldFirst n bs r = (t : FormulaFault) → r ≡ Err t → length bs ≤ 200 → FirstFault n bs (formula_place t)
