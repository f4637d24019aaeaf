-- One feature set or cleared at all valuations of a mask at once, by shifts. Assumes nothing.
use Rattle.std.proofs.Common.{◌≡◌, ℕ, ◌+◌, ◌-◌, ◌*◌, ◌/◌, ◌%◌, ◌^◌, ◌<◌, Bool, true, false, cond, not, ◌&&◌, ◌||◌, T, eqb, sym, refl, ap, ◌∙◌, subst, ap₂, inl, inr, arith, eqb→eq, T_not}
use lib.Bits.{bit_and, bit_or, or_disjoint}
use Rattle.std.proofs.lemmas.Bool.{cases_eq, eq-eqb, ne_eqb}
use Rattle.epistemic.specs.Bits.{bit, image, put}
use Rattle.epistemic.specs.Cells.{letter_mask}
use Rattle.planning.proofs.Tests.{iff, so, holds, clash, fails, decide, or_cases, and_parts, and_from}
use Rattle.epistemic.proofs.Bits.{bit_none, bit_of_and, bit_of_or, bit_of_xor, bit_power, bit_below, below_bits, bit_mask, mask_below, same_bits}
use Rattle.epistemic.proofs.Images.{or_from, or_into_left, or_into_right, image_from, image_to}
use Rattle.epistemic.proofs.Shifts.{bit_complement, bit_right, left_to, left_from}

-- a number with bit i set or cleared keeps its other bits
pub bit_put : (i : ℕ) (b : Bool) (v j : ℕ) → bit (put i b v) j ≡ cond (eqb j i) b (bit v j)
bit_put i true v j = bit_of_or v (2 ^ i) j ∙ ap (λ c. bit v j || c) (bit_power i j) ∙ go (bit v j) (eqb j i)
  where
    go : (x y : Bool) → (x || y) ≡ cond y true x
    go true true = refl
    go true false = refl
    go false true = refl
    go false false = refl
bit_put i false v j =
    bit_of_xor (bit_or v (2 ^ i)) (2 ^ i) j
    ∙ ap₂ (λ a c. cond a (not c) c) (bit_of_or v (2 ^ i) j ∙ ap (λ c. bit v j || c) (bit_power i j)) (bit_power i j)
    ∙ go (bit v j) (eqb j i)
  where
    go : (x y : Bool) → cond (x || y) (not y) y ≡ cond y false x
    go true true = refl
    go true false = refl
    go false true = refl
    go false false = refl

module _ (i : ℕ) (b : Bool) (v : ℕ) where
  -- it is the same number if the bit was so
  pub put_same : bit v i ≡ b → put i b v ≡ v
  put_same e = same_bits (put i b v) v (λ j. bit_put i b v j ∙ elim (cases_eq j i) [ inl is ↦ here j is | inr other ↦ ap (λ c. cond c b (bit v j)) (ne_eqb j i other) ])
    where
      here : (j : ℕ) → j ≡ i → cond (eqb j i) b (bit v j) ≡ bit v j
      here j is = ap (λ c. cond c b (bit v j)) (eq-eqb j i is) ∙ sym e ∙ ap (bit v) (sym is)

  bit_put_here : bit (put i b v) i ≡ b
  bit_put_here = bit_put i b v i ∙ ap (λ c. cond c b (bit v i)) (eq-eqb i i refl)

  -- setting it again undoes the first
  put_again : (c : Bool) → put i c (put i b v) ≡ put i c v
  put_again c = same_bits (put i c (put i b v)) (put i c v) (λ j. bit_put i c (put i b v) j ∙ ap (cond (eqb j i) c) (bit_put i b v j) ∙ go (eqb j i) (bit v j) ∙ sym (bit_put i c v j))
    where
      go : (x y : Bool) → cond x c (cond x b y) ≡ cond x c y
      go true y = refl
      go false y = refl

  pub put_below : (n : ℕ) → i < n → v < 2 ^ n → put i b v < 2 ^ n
  put_below n h l = below_bits n (put i b v) (λ j t. elim (cases_eq j i) [ inl is ↦ omega arith | inr other ↦ bit_below n v j l (subst T (bit_put i b v j ∙ ap (λ c. cond c b (bit v j)) (ne_eqb j i other)) t) ])

-- setting a bit that is not set adds its power
put_adds : (i v : ℕ) → bit v i ≡ false → put i true v ≡ 2 ^ i + v
put_adds i v e = or_disjoint v (2 ^ i) none ∙ omega arith
  where
    none : bit_and v (2 ^ i) ≡ 0
    none = same_bits (bit_and v (2 ^ i)) 0 (λ j. bit_of_and v (2 ^ i) j ∙ ap (λ c. bit v j && c) (bit_power i j) ∙ fails (bit v j && eqb j i) (λ t. let p = and_parts (bit v j) (eqb j i) t in clash (bit v i) e (subst (λ k. T (bit v k)) (eqb→eq j i p.1) p.0)) ∙ sym (bit_none j))

-- clearing a bit that is set takes its power away
put_takes : (i v : ℕ) → T (bit v i) → 2 ^ i + put i false v ≡ v
put_takes i v t =
    sym (put_adds i (put i false v) (bit_put_here i false v))
    ∙ put_again i false v true
    ∙ put_same i true v (so (bit v i) t)

-- a valuation of six features at which letter i holds
letter_from : (i u : ℕ) → T (bit (letter_mask 6 i) u) → (u < 64) × T (bit u i)
letter_from i u t =
    let l = bit_below 64 (letter_mask 6 i) u (mask_below 64 (λ w. bit w i)) t in
    (l, subst T (bit_mask 64 (λ w. bit w i) u l) t)

letter_to : (i u : ℕ) → u < 64 → T (bit u i) → T (bit (letter_mask 6 i) u)
letter_to i u l t = subst T (sym (bit_mask 64 (λ w. bit w i) u l)) t

module _ (i m : ℕ) (few : i < 6) (fits : m < 2 ^ 64) where
  -- `(m | m << (1 << i)) & letter`
  pub raised_is : bit_and (bit_or m (m * 2 ^ (2 ^ i) % 2 ^ 64)) (letter_mask 6 i) ≡ image (put i true) m 64
  raised_is = same_bits (bit_and (bit_or m shifted) (letter_mask 6 i)) (image (put i true) m 64) (λ u. iff (bit (bit_and (bit_or m shifted) (letter_mask 6 i)) u) (bit (image (put i true) m 64) u) (there u) (back u))
    where
      shifted : ℕ
      shifted = m * 2 ^ (2 ^ i) % 2 ^ 64

      onto : (u v : ℕ) → T (bit m v) → put i true v ≡ u → T (bit (image (put i true) m 64) u)
      onto u v t e = subst (λ w. T (bit (image (put i true) m 64) w)) e (image_to (put i true) m 64 v (bit_below 64 m v fits t) t)

      there : (u : ℕ) → T (bit (bit_and (bit_or m shifted) (letter_mask 6 i)) u) → T (bit (image (put i true) m 64) u)
      there u t =
          let p = and_parts (bit (bit_or m shifted) u) (bit (letter_mask 6 i) u) (subst T (bit_of_and (bit_or m shifted) (letter_mask 6 i) u) t) in
          let l = letter_from i u p.1 in
          elim (or_cases (bit m u) (bit shifted u) (or_from m shifted u p.0)) [
            | inl s ↦ onto u u s (put_same i true u (so (bit u i) l.1))
            | inr s ↦
                let r = left_from 64 m (2 ^ i) u s in
                let same : r.0 ≡ put i false u = omega (arith, put_takes i u l.1, r.1.1) in
                onto u r.0 r.1.0 (ap (put i true) same ∙ put_again i false u true ∙ put_same i true u (so (bit u i) l.1))
          ]

      back : (u : ℕ) → T (bit (image (put i true) m 64) u) → T (bit (bit_and (bit_or m shifted) (letter_mask 6 i)) u)
      back u t =
          let r = image_from (put i true) m 64 u t in
          let v = r.0 in
          let below : u < 64 = subst (λ w. w < 64) r.1.1 (put_below i true v 6 few (bit_below 64 m v fits r.1.0)) in
          let set : T (bit u i) = subst (λ w. T (bit w i)) r.1.1 (holds (bit (put i true v) i) (bit_put_here i true v)) in
          let either : T (bit (bit_or m shifted) u) =
          elim (decide (bit v i)) [
            | inl s ↦
                let same : v ≡ u = sym (put_same i true v (so (bit v i) s)) ∙ r.1.1 in
                or_into_left m shifted u (subst (λ w. T (bit m w)) same r.1.0)
            | inr f ↦
                let same : 2 ^ i + v ≡ u = sym (put_adds i v f) ∙ r.1.1 in
                or_into_right m shifted u (subst (λ w. T (bit shifted w)) same (left_to 64 m (2 ^ i) v (omega arith) r.1.0))
          ]
          in
          subst T (sym (bit_of_and (bit_or m shifted) (letter_mask 6 i) u)) (and_from (bit (bit_or m shifted) u) (bit (letter_mask 6 i) u) either (letter_to i u below set))

  -- `(m | m >> (1 << i)) & !letter`
  pub lowered_is : bit_and (bit_or m (m / 2 ^ (2 ^ i))) ((2 ^ 64 - 1) - letter_mask 6 i) ≡ image (put i false) m 64
  lowered_is = same_bits (bit_and (bit_or m shifted) others) (image (put i false) m 64) (λ u. iff (bit (bit_and (bit_or m shifted) others) u) (bit (image (put i false) m 64) u) (there u) (back u))
    where
      shifted : ℕ
      shifted = m / 2 ^ (2 ^ i)

      others : ℕ
      others = (2 ^ 64 - 1) - letter_mask 6 i

      other_bit : (u : ℕ) → u < 64 → bit others u ≡ not (bit u i)
      other_bit u l = bit_complement 64 (letter_mask 6 i) u (mask_below 64 (λ w. bit w i)) l ∙ ap not (bit_mask 64 (λ w. bit w i) u l)

      onto : (u v : ℕ) → T (bit m v) → put i false v ≡ u → T (bit (image (put i false) m 64) u)
      onto u v t e = subst (λ w. T (bit (image (put i false) m 64) w)) e (image_to (put i false) m 64 v (bit_below 64 m v fits t) t)

      there : (u : ℕ) → T (bit (bit_and (bit_or m shifted) others) u) → T (bit (image (put i false) m 64) u)
      there u t =
          let p = and_parts (bit (bit_or m shifted) u) (bit others u) (subst T (bit_of_and (bit_or m shifted) others u) t) in
          let below : u < 64 = bit_below 64 others u (omega arith) p.1 in
          let clear : bit u i ≡ false = fails (bit u i) (T_not (bit u i) (subst T (other_bit u below) p.1)) in
          elim (or_cases (bit m u) (bit shifted u) (or_from m shifted u p.0)) [
            | inl s ↦ onto u u s (put_same i false u clear)
            | inr s ↦
                let from : T (bit m (2 ^ i + u)) = subst T (bit_right m (2 ^ i) u) s in
                onto u (2 ^ i + u) from (ap (put i false) (sym (put_adds i u clear)) ∙ put_again i true u false ∙ put_same i false u clear)
          ]

      back : (u : ℕ) → T (bit (image (put i false) m 64) u) → T (bit (bit_and (bit_or m shifted) others) u)
      back u t =
          let r = image_from (put i false) m 64 u t in
          let v = r.0 in
          let below : u < 64 = subst (λ w. w < 64) r.1.1 (put_below i false v 6 few (bit_below 64 m v fits r.1.0)) in
          let clear : bit u i ≡ false = ap (λ w. bit w i) (sym r.1.1) ∙ bit_put_here i false v in
          let either : T (bit (bit_or m shifted) u) =
          elim (decide (bit v i)) [
            | inl s ↦
                let same : v ≡ 2 ^ i + u = sym (put_takes i v s) ∙ ap (λ w. 2 ^ i + w) r.1.1 in
                or_into_right m shifted u (subst T (sym (bit_right m (2 ^ i) u)) (subst (λ w. T (bit m w)) same r.1.0))
            | inr f ↦
                let same : v ≡ u = sym (put_same i false v f) ∙ r.1.1 in
                or_into_left m shifted u (subst (λ w. T (bit m w)) same r.1.0)
          ]
          in
          subst T (sym (bit_of_and (bit_or m shifted) others u)) (and_from (bit (bit_or m shifted) u) (bit others u) either (subst T (sym (other_bit u below ∙ ap not clear)) tt))
