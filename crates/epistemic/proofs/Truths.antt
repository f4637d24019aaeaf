-- A formula's mask is where the cell's model satisfies it. Assumes nothing.
use Rattle.std.proofs.Common.{◌≡◌, ℕ, ◌^◌, ◌<◌, Bool, true, false, cond, not, ◌&&◌, ◌||◌, T, eqb, sym, refl, ap, ◌∙◌, subst, ap₂, arith, eqb→eq, lt→ltb}
use mathlib.Core.Bool.{and-true, and-false}
use lib.Bits.{bit_and}
use lib.Dec.{eqb_refl}
use Rattle.epistemic.specs.Lists.{◌∈◌, every, some}
use Rattle.epistemic.specs.Bits.{bit}
use Rattle.sheets.specs.Formulas.{Formula, top, letter, neg, and, or, K, M}
use Rattle.epistemic.specs.Models.{sat, valid}
use Rattle.epistemic.specs.Cells.{Fit, fit, model, valuations, letter_mask, truth, goal}
use Rattle.epistemic.specs.Claims.{SatisfiedAt}
use Rattle.planning.proofs.Tests.{iff, so, clash, fails, and_parts, and_from}
use Rattle.epistemic.proofs.Tests.{and_over_and, and_over_or}
use Rattle.epistemic.proofs.Lists.{every_at, every_from, some_at, some_from, kept_from, kept_to, counting_from, counting_to}
use Rattle.epistemic.proofs.Bits.{bit_none, bit_of_and, bit_of_or, bit_of_xor, bit_mask, bit_below, below_bits, same_bits}

module _ (n c : ℕ) where
  -- the worlds of a cell
  pub from_cell : (v : ℕ) → v ∈ (model n c).worlds → (v < 2 ^ n) × T (bit c v)
  from_cell v i =
      let r = kept_from (bit c) (valuations n) v i in
      let s = counting_from 0 (2 ^ n) v r.0 in (omega arith, r.1)

  pub to_cell : Fit n c → (v : ℕ) → T (bit c v) → v ∈ (model n c).worlds
  to_cell fits v t =
      let l = bit_below (2 ^ n) c v fits t in
      kept_to (bit c) (counting_to 0 (2 ^ n) v (omega arith) (omega arith)) t

-- a mask x of those in the cell that pass a test
module _ (n c : ℕ) (fits : Fit n c) (x : ℕ) (p : ℕ → Bool) (passing : (v : ℕ) → bit x v ≡ (bit c v && p v)) where
  passes : (v : ℕ) → T (bit x v) → T (bit c v) × T (p v)
  passes v t = and_parts (bit c v) (p v) (subst T (passing v) t)

  passed : (v : ℕ) → T (bit c v) → T (p v) → T (bit x v)
  passed v t u = subst T (sym (passing v)) (and_from (bit c v) (p v) t u)

  -- it is the cell exactly when all pass
  pub all_pass : eqb x c ≡ every p (model n c).worlds
  all_pass = iff (eqb x c) (every p (model n c).worlds) there back
    where
      there : T (eqb x c) → T (every p (model n c).worlds)
      there t =
          every_from p (model n c).worlds (λ v i. (passes v (subst (λ y. T (bit y v)) (sym (eqb→eq x c t)) (from_cell n c v i).1)).1)

      back : T (every p (model n c).worlds) → T (eqb x c)
      back t =
          let e : x ≡ c = same_bits x c (λ v. iff (bit x v) (bit c v) (λ u. (passes v u).0) (λ u. passed v u (every_at p (to_cell n c fits v u) t))) in
          subst (λ y. T (eqb x y)) e (eqb_refl x)

  -- it is empty exactly when none pass
  none_pass : eqb x 0 ≡ not (some p (model n c).worlds)
  none_pass = go (some p (model n c).worlds) refl
    where
      go : (b : Bool) → some p (model n c).worlds ≡ b → eqb x 0 ≡ not b
      go true e =
          let r = some_at p (model n c).worlds (subst T (sym e) tt) in
          let set = passed r.0 (from_cell n c r.0 r.1.0).1 r.1.1 in
          fails (eqb x 0) (λ t. clash (bit 0 r.0) (bit_none r.0) (subst (λ y. T (bit y r.0)) (eqb→eq x 0 t) set))
      go false e =
          let none : x ≡ 0 = same_bits x 0 (λ v. fails (bit x v) (λ t. let u = passes v t in clash (some p (model n c).worlds) e (some_from p (to_cell n c fits v u.0) u.1)) ∙ sym (bit_none v)) in
          so (eqb x 0) (subst (λ y. T (eqb x y)) none (eqb_refl x))

module _ (n c : ℕ) (fits : Fit n c) where
  pub at_letter : (i v : ℕ) → bit (bit_and c (letter_mask n i)) v ≡ (bit c v && bit v i)
  at_letter i v = bit_of_and c (letter_mask n i) v ∙ go (bit c v) refl
    where
      go : (b : Bool) → bit c v ≡ b → (b && bit (letter_mask n i) v) ≡ (b && bit v i)
      go true e = bit_mask (2 ^ n) (λ w. bit w i) v (bit_below (2 ^ n) c v fits (subst T (sym e) tt))
      go false e = refl

  but_not : (b s : Bool) → cond b (not (b && s)) (b && s) ≡ (b && not s)
  but_not true s = refl
  but_not false s = refl

  whole_or_none : (b : Bool) (v : ℕ) → bit (cond b c 0) v ≡ (bit c v && b)
  whole_or_none true v = sym (and-true (bit c v))
  whole_or_none false v = bit_none v ∙ sym (and-false (bit c v))

  none_or_whole : (b : Bool) (v : ℕ) → bit (cond (not b) 0 c) v ≡ (bit c v && b)
  none_or_whole true v = whole_or_none true v
  none_or_whole false v = whole_or_none false v

  pub truth_bit : (f : Formula) (v : ℕ) → bit (truth n c f) v ≡ (bit c v && sat (model n c) v f)
  truth_bit top v = sym (and-true (bit c v))
  truth_bit (letter i) v = at_letter i v
  truth_bit (neg f) v =
      bit_of_xor c (truth n c f) v
      ∙ ap (λ b. cond (bit c v) (not b) b) (truth_bit f v)
      ∙ but_not (bit c v) (sat (model n c) v f)
  truth_bit (and f g) v =
      bit_of_and (truth n c f) (truth n c g) v
      ∙ ap₂ ◌&&◌ (truth_bit f v) (truth_bit g v)
      ∙ and_over_and (bit c v) (sat (model n c) v f) (sat (model n c) v g)
  truth_bit (or f g) v =
      bit_of_or (truth n c f) (truth n c g) v
      ∙ ap₂ ◌||◌ (truth_bit f v) (truth_bit g v)
      ∙ and_over_or (bit c v) (sat (model n c) v f) (sat (model n c) v g)
  truth_bit (K f) v =
      ap (λ b. bit (cond b c 0) v) (all_pass n c fits (truth n c f) (λ w. sat (model n c) w f) (truth_bit f))
      ∙ whole_or_none (valid (model n c) f) v
  truth_bit (M f) v =
      ap (λ b. bit (cond b 0 c) v) (none_pass n c fits (truth n c f) (λ w. sat (model n c) w f) (truth_bit f))
      ∙ none_or_whole (some (λ w. sat (model n c) w f) (model n c).worlds) v

  -- the truth mask, as a test
  pub truth_from : (f : Formula) (v : ℕ) → T (bit (truth n c f) v) → T (bit c v) × T (sat (model n c) v f)
  truth_from f v t = and_parts (bit c v) (sat (model n c) v f) (subst T (truth_bit f v) t)

  pub truth_to : (f : Formula) (v : ℕ) → T (bit c v) → T (sat (model n c) v f) → T (bit (truth n c f) v)
  truth_to f v t u = subst T (sym (truth_bit f v)) (and_from (bit c v) (sat (model n c) v f) t u)

  -- a formula's mask is a cell
  pub truth_fits : (f : Formula) → Fit n (truth n c f)
  truth_fits f = below_bits (2 ^ n) (truth n c f) (λ v t. bit_below (2 ^ n) c v fits (truth_from f v t).0)

  pub fit_true : fit n c ≡ true
  fit_true = so (fit n c) (lt→ltb c (2 ^ (2 ^ n)) fits)

-- the truth mask is where the formula is satisfied
pub truth_satisfied : (n c : ℕ) (f : Formula) → Fit n c → SatisfiedAt n c f (truth n c f)
truth_satisfied n c f fits =
    record {
      inside = λ v t. truth_bit n c fits f v ∙ ap (λ b. b && sat (model n c) v f) (so (bit c v) t);
      outside = λ v e. truth_bit n c fits f v ∙ ap (λ b. b && sat (model n c) v f) e;
    }

-- a cell is a goal exactly when the goal formula is true in its model
pub goal_valid : (n c : ℕ) (f : Formula) → Fit n c → goal n f c ≡ valid (model n c) f
goal_valid n c f fits =
    ap (λ b. b && eqb (truth n c f) c) (fit_true n c fits)
    ∙ all_pass n c fits (truth n c f) (λ w. sat (model n c) w f) (truth_bit n c fits f)
