-- The masks of the letters, by their numbers. Assumes nothing.
use Rattle.std.proofs.Common.{◌≡◌, ℕ, zero, suc, List, [], ◌∷◌, get_or, sym, arith}
use Rattle.epistemic.specs.Cells.{letter_mask}
use Rattle.epistemic.proofs.Letters.{letter_0, letter_1, letter_2, letter_3, letter_4, letter_5, letter_past}

abbrev pub masks : List ℕ
masks = 0xAAAAAAAAAAAAAAAA ∷ 0xCCCCCCCCCCCCCCCC ∷ 0xF0F0F0F0F0F0F0F0 ∷ 0xFF00FF00FF00FF00 ∷ 0xFFFF0000FFFF0000 ∷ 0xFFFFFFFF00000000 ∷ []

pub letter_at : (i : ℕ) → get_or masks i 0 ≡ letter_mask 6 i
letter_at zero = sym letter_0
letter_at (suc zero) = sym letter_1
letter_at (suc (suc zero)) = sym letter_2
letter_at (suc (suc (suc zero))) = sym letter_3
letter_at (suc (suc (suc (suc zero)))) = sym letter_4
letter_at (suc (suc (suc (suc (suc zero))))) = sym letter_5
letter_at (suc (suc (suc (suc (suc (suc i)))))) = sym (letter_past 6 (suc (suc (suc (suc (suc (suc i)))))) (omega arith))
