-- Masks within a number of bits, tested by a shift. Assumes nothing.
use Rattle.std.proofs.Common.{◌≡◌, ℕ, ◌*◌, ◌/◌, ◌%◌, ◌^◌, ◌<◌, ◌≤◌, ◌&&◌, eqb, ltb, leb, sym, ap, ◌∙◌, inl, inr, arith, pow_mono}
use Rattle.std.proofs.lemmas.Nat.{pow_pos, pow_below, one_shl, div_below, le-div}
use Rattle.std.proofs.lemmas.Bool.{cases_lt, eq-eqb, ne_eqb, le-leb, lt-ltb, le-ltb, and_from}
use Rattle.sheets.specs.Rules.{start_fits}

-- nothing is left of a shift exactly below the power
pub shr_none : (m k : ℕ) → eqb (m / 2 ^ k) 0 ≡ ltb m (2 ^ k)
shr_none m k =
    let p = pow_pos k in
    elim (cases_lt m (2 ^ k)) [
      | inl h ↦ let d = div_below m (2 ^ k) 1 p (omega arith) in eq-eqb (m / 2 ^ k) 0 (omega arith) ∙ sym (lt-ltb m (2 ^ k) h)
      | inr h ↦ let d = le-div 1 m (2 ^ k) p (omega arith) in ne_eqb (m / 2 ^ k) 0 (λ e. omega arith) ∙ sym (le-ltb m (2 ^ k) h)
    ]

-- eight features hold every byte
pub byte_all : (n m : ℕ) → 8 ≤ n → m < 256 → leb 8 n ≡ ltb m (2 ^ n)
byte_all n m h l = let p = pow_mono {i = 8} {j = n} h in le-leb 8 n h ∙ sym (lt-ltb m (2 ^ n) (omega arith))

-- the shift of a one, as the machine makes it
pub one_shifted : (n : ℕ) → n < 6 → (1 * 2 ^ n) % 4294967296 < 64
one_shifted n h = omega (arith, one_shl n 32 (omega arith), pow_below n 6 h)

-- six features hold every mask of 64 bits
pub mask_all : (n m : ℕ) → 0 < m → m < 18446744073709551616 → 6 ≤ n → leb 6 n ≡ start_fits n m
mask_all n m z l h =
    let p = pow_mono {i = 6} {j = n} h in
    let q = pow_mono {i = 64} {j = 2 ^ n} p in
    le-leb 6 n h ∙ sym (and_from (ltb 0 m) (ltb m (2 ^ (2 ^ n))) (lt-ltb 0 m z) (lt-ltb m (2 ^ (2 ^ n)) (omega arith)))

pub mask_some : (n m : ℕ) → 0 < m → n < 6 → eqb (m / 2 ^ ((1 * 2 ^ n) % 4294967296)) 0 ≡ start_fits n m
mask_some n m z h =
    ap (λ k. eqb (m / 2 ^ k) 0) (one_shl n 32 (omega arith)) ∙ shr_none m (2 ^ n) ∙ ap (λ b. b && ltb m (2 ^ (2 ^ n))) (sym (lt-ltb 0 m z))
