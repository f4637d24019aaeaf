-- A cell over n features: a number whose bit v is set for each valuation v in it. A valuation is a number below 2 ^ n;
-- its bit i is letter i. Assumes nothing.
use Rattle.std.specs.Prelude.{ℕ, ◌^◌, ◌<◌, Bool, true, cond, ◌&&◌, List, filter, ◌==◌, bit_and, bit_or, bit_xor, nat_lt}
use Rattle.std.specs.List.{range_with_len}
use Rattle.epistemic.specs.Bits.{bit, mask}
use Rattle.sheets.specs.Formulas.{Formula, top, letter, neg, and, or, K, M}
use Rattle.epistemic.specs.Models.{Model}

module _ (n : ℕ) where
  -- all valuations, rising
  abbrev pub valuations : List ℕ
  valuations = range_with_len 0 (2 ^ n)

  -- the cell has no bit from 2 ^ n up
  abbrev pub Fit : ℕ → Type 0
  Fit c = c < 2 ^ (2 ^ n)

  -- the same, as a test
  abbrev pub fit : ℕ → Bool
  fit c = nat_lt c (2 ^ (2 ^ n))

  -- a proper cell: not empty, and without a bit from 2 ^ n up
  abbrev pub ProperCell : ℕ → Type 0
  ProperCell c = (0 < c) × Fit c

  -- the cell as a model: its valuations, none of which the agent can tell apart
  abbrev pub model : ℕ → Model ℕ
  model c = record { worlds = filter (bit c) valuations; alike = λ _ _. true; holds = λ i v. bit v i }

  -- the valuations at which letter i holds
  abbrev pub letter_mask : ℕ → ℕ
  letter_mask i = mask (2 ^ n) (λ v. bit v i)

  -- the valuations of the cell at which the formula holds
  abbrev pub truth : ℕ → Formula → ℕ
  truth c top = c
  truth c (letter i) = bit_and c (letter_mask i)
  truth c (neg f) = bit_xor c (truth c f)
  truth c (and f g) = bit_and (truth c f) (truth c g)
  truth c (or f g) = bit_or (truth c f) (truth c g)
  truth c (K f) = cond (truth c f == c) c 0
  truth c (M f) = cond (truth c f == 0) 0 c

  -- the cell is a goal: the formula holds at all its valuations
  abbrev pub goal : Formula → ℕ → Bool
  goal f c = fit c && truth c f == c
