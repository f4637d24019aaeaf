-- The masks of letters: as constants, and that those of more features serve for fewer. Assumes nothing.
use Rattle.std.proofs.Common.{◌≡◌, ℕ, ◌^◌, ◌≤◌, cond, eqb, sym, refl, ap, ◌∙◌, ap₂, inl, inr, arith, pow_mono}
use lib.Bits.{bit_and, bit_or, bit_xor}
use Rattle.std.proofs.lemmas.Bool.{cases_lt}
use Rattle.sheets.specs.Formulas.{Formula, top, letter, neg, and, or, K, M}
use Rattle.epistemic.specs.Bits.{bit, mask}
use Rattle.epistemic.specs.Cells.{Fit, letter_mask, truth}
use Rattle.epistemic.proofs.Bits.{bit_none, bit_past, bit_mask, bit_mask_past, same_bits}
use Rattle.epistemic.proofs.Truths.{at_letter}

-- the letters of six features
pub letter_0 : letter_mask 6 0 ≡ 0xAAAA_AAAA_AAAA_AAAA
unfolding mask
letter_0 = refl

pub letter_1 : letter_mask 6 1 ≡ 0xCCCC_CCCC_CCCC_CCCC
unfolding mask
letter_1 = refl

pub letter_2 : letter_mask 6 2 ≡ 0xF0F0_F0F0_F0F0_F0F0
unfolding mask
letter_2 = refl

pub letter_3 : letter_mask 6 3 ≡ 0xFF00_FF00_FF00_FF00
unfolding mask
letter_3 = refl

pub letter_4 : letter_mask 6 4 ≡ 0xFFFF_0000_FFFF_0000
unfolding mask
letter_4 = refl

pub letter_5 : letter_mask 6 5 ≡ 0xFFFF_FFFF_0000_0000
unfolding mask
letter_5 = refl

-- a letter past the last holds nowhere
pub letter_past : (n i : ℕ) → n ≤ i → letter_mask n i ≡ 0
letter_past n i h =
    same_bits (letter_mask n i) 0
    (λ v. elim (cases_lt v (2 ^ n)) [
      | inl l ↦ bit_mask (2 ^ n) (λ w. bit w i) v l ∙ bit_past n v i l h ∙ sym (bit_none v)
      | inr l ↦ bit_mask_past (2 ^ n) (λ w. bit w i) v l ∙ sym (bit_none v)
    ])

module _ (n k c : ℕ) (more : n ≤ k) (fits : Fit n c) where
  -- a cell over n features is one over more
  fits_wider : Fit k c
  fits_wider = omega (arith, pow_mono (pow_mono more))

  letters_wider : (i : ℕ) → bit_and c (letter_mask k i) ≡ bit_and c (letter_mask n i)
  letters_wider i =
      same_bits (bit_and c (letter_mask k i)) (bit_and c (letter_mask n i)) (λ v. at_letter k c fits_wider i v ∙ sym (at_letter n c fits i v))

  -- a formula's mask in the cell is the same over more features
  pub truth_wider : (f : Formula) → truth k c f ≡ truth n c f
  truth_wider top = refl
  truth_wider (letter i) = letters_wider i
  truth_wider (neg f) = ap (bit_xor c) (truth_wider f)
  truth_wider (and f g) = ap₂ bit_and (truth_wider f) (truth_wider g)
  truth_wider (or f g) = ap₂ bit_or (truth_wider f) (truth_wider g)
  truth_wider (K f) = ap (λ m. cond (eqb m c) c 0) (truth_wider f)
  truth_wider (M f) = ap (λ m. cond (eqb m 0) 0 c) (truth_wider f)
