-- The bits of numbers: of a sum of powers, of masks, and that they tell numbers apart. Assumes nothing.
use Rattle.std.proofs.Common.{◌≡◌, ℕ, zero, suc, ◌+◌, ◌*◌, ◌/◌, ◌%◌, ◌^◌, ◌<◌, ◌≤◌, Bool, true, false, cond, not, ◌&&◌, ◌||◌, T, eqb, sym, refl, ap, ◌∙◌, subst, ap₂, inl, inr, pow-suc, div-one, one-add, arith}
use mathlib.Core.Bool.{and-true}
use lib.Bits.{bit_and, bit_or, bit_xor, and_shr, or_shr, xor_shr, and_mod, or_mod, xor_mod, or_shifted_r}
use lib.Dec.{eqb-suc-suc, eqb-zero-suc, eqb-suc-zero}
use Rattle.std.proofs.lemmas.Nat.{shr-shr}
use Rattle.std.proofs.lemmas.Bool.{cases_lt, eq-eqb, ne_eqb}
use Rattle.std.proofs.lemmas.Bool.Decides.{nat_tests}
use Rattle.epistemic.specs.Bits.{bit, mask}
use Rattle.planning.proofs.Tests.{clash, fails, decide}

-- the lowest bit, and the bits above it
pub bit_low : (m : ℕ) → bit m 0 ≡ eqb (m % 2) 1
bit_low m = ap (λ q. eqb (q % 2) 1) (div-one m)

pub bit_up : (m i : ℕ) → bit m (suc i) ≡ bit (m / 2) i
bit_up m i = ap (λ q. eqb (q % 2) 1) (sym (shr-shr m 1 i ∙ ap (λ k. m / 2 ^ k) (one-add i)))

pub bit_none : (i : ℕ) → bit 0 i ≡ false
bit_none zero = refl
bit_none (suc i) = bit_up 0 i ∙ bit_none i

same_parity : (a b : ℕ) → eqb (a % 2) 1 ≡ eqb (b % 2) 1 → a % 2 ≡ b % 2
same_parity a b e = grind (arith, nat_tests)

-- numbers with the same bits are equal
pub same_bits : (a b : ℕ) → ((i : ℕ) → bit a i ≡ bit b i) → a ≡ b
same_bits a b h = go (a + b) a b (omega arith) (omega arith) h
  where
    go : (k a b : ℕ) → a ≤ k → b ≤ k → ((i : ℕ) → bit a i ≡ bit b i) → a ≡ b
    go zero a b p q h = omega arith
    go (suc k) a b p q h =
        let low = same_parity a b (sym (bit_low a) ∙ h 0 ∙ bit_low b) in
        let high = go k (a / 2) (b / 2) (omega arith) (omega arith) (λ i. sym (bit_up a i) ∙ h (suc i) ∙ bit_up b i) in
        omega arith

-- the bits of the operators
digits : (P : ℕ → ℕ → Type 0) → P 0 0 → P 0 1 → P 1 0 → P 1 1 → (p q : ℕ) → p < 2 → q < 2 → P p q
digits P a b c d zero zero h k = a
digits P a b c d zero (suc zero) h k = b
digits P a b c d zero (suc (suc q)) h k = absurd (omega arith)
digits P a b c d (suc zero) zero h k = c
digits P a b c d (suc zero) (suc zero) h k = d
digits P a b c d (suc zero) (suc (suc q)) h k = absurd (omega arith)
digits P a b c d (suc (suc p)) q h k = absurd (omega arith)

pub bit_of_and : (a b i : ℕ) → bit (bit_and a b) i ≡ (bit a i && bit b i)
bit_of_and a b i =
    ap (λ q. eqb (q % 2) 1) (and_shr a b i)
    ∙ ap (λ q. eqb q 1) (and_mod (a / 2 ^ i) (b / 2 ^ i) 1)
    ∙ digits (λ p q. eqb (bit_and p q) 1 ≡ (eqb p 1 && eqb q 1)) refl refl refl refl (a / 2 ^ i % 2) (b / 2 ^ i % 2) (omega arith) (omega arith)

pub bit_of_or : (a b i : ℕ) → bit (bit_or a b) i ≡ (bit a i || bit b i)
bit_of_or a b i =
    ap (λ q. eqb (q % 2) 1) (or_shr a b i)
    ∙ ap (λ q. eqb q 1) (or_mod (a / 2 ^ i) (b / 2 ^ i) 1)
    ∙ digits (λ p q. eqb (bit_or p q) 1 ≡ (eqb p 1 || eqb q 1)) refl refl refl refl (a / 2 ^ i % 2) (b / 2 ^ i % 2) (omega arith) (omega arith)

pub bit_of_xor : (a b i : ℕ) → bit (bit_xor a b) i ≡ cond (bit a i) (not (bit b i)) (bit b i)
bit_of_xor a b i =
    ap (λ q. eqb (q % 2) 1) (xor_shr a b i)
    ∙ ap (λ q. eqb q 1) (xor_mod (a / 2 ^ i) (b / 2 ^ i) 1)
    ∙ digits (λ p q. eqb (bit_xor p q) 1 ≡ cond (eqb p 1) (not (eqb q 1)) (eqb q 1)) refl refl refl refl (a / 2 ^ i % 2) (b / 2 ^ i % 2) (omega arith) (omega arith)

-- a power of two has one bit
pub bit_power : (j i : ℕ) → bit (2 ^ j) i ≡ eqb i j
bit_power zero zero = refl
bit_power zero (suc i) = bit_up 1 i ∙ bit_none i ∙ sym (eqb-suc-zero i)
bit_power (suc j) zero =
    let even : 2 ^ suc j % 2 ≡ 0 = omega (arith, pow-suc 2 j) in
    bit_low (2 ^ suc j) ∙ ap (λ r. eqb r 1) even ∙ sym (eqb-zero-suc j)
bit_power (suc j) (suc i) =
    let half : 2 ^ suc j / 2 ≡ 2 ^ j = omega (arith, pow-suc 2 j) in
    bit_up (2 ^ suc j) i ∙ ap (λ m. bit m i) half ∙ bit_power j i ∙ sym (eqb-suc-suc i j)

-- a number that is not 0 has a bit
odd_not : (m : ℕ) → bit m 0 ≡ false → m % 2 ≡ 0
odd_not m f = let e : eqb (m % 2) 1 ≡ false = sym (bit_low m) ∙ f in grind (arith, nat_tests)

pub some_bit : (m : ℕ) → 0 < m → (i : ℕ) × T (bit m i)
some_bit m h = go m m (omega arith) h
  where
    go : (k m : ℕ) → m ≤ k → 0 < m → (i : ℕ) × T (bit m i)
    go zero m p h = absurd (omega arith)
    go (suc k) m p h =
        elim (decide (bit m 0)) [
          | inl t ↦ (0, t)
          | inr f ↦
              let even = odd_not m f in
              let r = go k (m / 2) (omega arith) (omega arith) in
              (suc r.0, subst T (sym (bit_up m r.0)) r.1)
        ]

-- a number is below 2 ^ k exactly when its bits are
pub bit_below : (k m i : ℕ) → m < 2 ^ k → T (bit m i) → i < k
bit_below zero m i h t = let none : m ≡ 0 = omega arith in absurd (clash (bit 0 i) (bit_none i) (subst (λ x. T (bit x i)) none t))
bit_below (suc k) m zero h t = omega arith
bit_below (suc k) m (suc i) h t =
    let half : m / 2 < 2 ^ k = omega (arith, pow-suc 2 k) in
    let r = bit_below k (m / 2) i half (subst T (bit_up m i) t) in omega arith

pub below_bits : (k m : ℕ) → ((i : ℕ) → T (bit m i) → i < k) → m < 2 ^ k
below_bits zero m h = elim (cases_lt 0 m) [ inl p ↦ let r = some_bit m p in absurd (omega (arith, h r.0 r.1)) | inr p ↦ omega arith ]
below_bits (suc k) m h =
    let half = below_bits k (m / 2) (λ i t. omega (arith, h (suc i) (subst T (sym (bit_up m i)) t))) in
    omega (arith, pow-suc 2 k)

pub bit_past : (k m i : ℕ) → m < 2 ^ k → k ≤ i → bit m i ≡ false
bit_past k m i h l = fails (bit m i) (λ t. omega (arith, bit_below k m i h t))

-- the bits of a mask
pub mask_below : (k : ℕ) (f : ℕ → Bool) → mask k f < 2 ^ k
unfolding mask
mask_below zero f = omega arith
mask_below (suc k) f = omega (arith, mask_below k f, pow-suc 2 k, most (f k))
  where
    most : (b : Bool) → cond b (2 ^ k) 0 ≤ 2 ^ k
    most true = omega arith
    most false = omega arith

mask_or : (k : ℕ) (f : ℕ → Bool) → mask (suc k) f ≡ bit_or (mask k f) (cond (f k) (2 ^ k) 0)
unfolding mask
mask_or k f = go (f k)
  where
    go : (b : Bool) → mask k f + cond b (2 ^ k) 0 ≡ bit_or (mask k f) (cond b (2 ^ k) 0)
    go true = omega (arith, or_shifted_r 1 k (mask k f) (mask_below k f), ap (bit_or (mask k f)) (one_times (2 ^ k)))
      where
        one_times : (x : ℕ) → 1 * x ≡ x
        one_times x = omega arith
    go false = omega (arith, or_shifted_r 0 k (mask k f) (mask_below k f), ap (bit_or (mask k f)) (no_times (2 ^ k)))
      where
        no_times : (x : ℕ) → 0 * x ≡ 0
        no_times x = omega arith

bit_place : (b : Bool) (k i : ℕ) → bit (cond b (2 ^ k) 0) i ≡ (b && eqb i k)
bit_place true k i = bit_power k i
bit_place false k i = bit_none i

pub bit_mask_past : (k : ℕ) (f : ℕ → Bool) (i : ℕ) → k ≤ i → bit (mask k f) i ≡ false
bit_mask_past k f i l = bit_past k (mask k f) i (mask_below k f) l

pub bit_mask : (k : ℕ) (f : ℕ → Bool) (i : ℕ) → i < k → bit (mask k f) i ≡ f i
bit_mask zero f i h = absurd (omega arith)
bit_mask (suc k) f i h =
    ap (λ m. bit m i) (mask_or k f)
    ∙ bit_of_or (mask k f) (cond (f k) (2 ^ k) 0) i
    ∙ ap (λ b. bit (mask k f) i || b) (bit_place (f k) k i)
    ∙ elim (cases_lt i k) [ inl l ↦ under (bit_mask k f i l) l | inr l ↦ top l ]
  where
    or_none : (b x : Bool) → (b || (x && false)) ≡ b
    or_none true x = refl
    or_none false true = refl
    or_none false false = refl

    under : bit (mask k f) i ≡ f i → i < k → (bit (mask k f) i || (f k && eqb i k)) ≡ f i
    under below l =
        ap₂ (λ b c. b || (f k && c)) below (ne_eqb i k (λ e. omega arith)) ∙ or_none (f i) (f k)

    top : k ≤ i → (bit (mask k f) i || (f k && eqb i k)) ≡ f i
    top l =
        let e : i ≡ k = omega arith in
        ap₂ (λ b c. b || (f k && c)) (bit_mask_past k f i l) (eq-eqb i k e) ∙ and-true (f k) ∙ ap f (sym e)

pub or_assoc : (a b c : ℕ) → bit_or (bit_or a b) c ≡ bit_or a (bit_or b c)
or_assoc a b c =
    same_bits (bit_or (bit_or a b) c) (bit_or a (bit_or b c))
    (λ i. bit_of_or (bit_or a b) c i
    ∙ ap (λ x. x || bit c i) (bit_of_or a b i)
    ∙ regroup (bit a i) (bit b i) (bit c i)
    ∙ ap (λ x. bit a i || x) (sym (bit_of_or b c i))
    ∙ sym (bit_of_or a (bit_or b c) i))
  where
    regroup : (x y z : Bool) → ((x || y) || z) ≡ (x || (y || z))
    regroup true y z = refl
    regroup false y z = refl
