-- The bits of shifted, cut and inverted numbers. Assumes nothing.
use Rattle.std.proofs.Common.{◌≡◌, ℕ, zero, suc, ◌+◌, ◌-◌, ◌*◌, ◌/◌, ◌%◌, ◌^◌, ◌<◌, true, false, not, ◌&&◌, T, eqb, sym, ap, ◌∙◌, subst, inl, inr, pow-suc, arith}
use mathlib.Core.Bool.{and-true}
use lib.Bits.{and_mask, shifted_half, shifted_even}
use Rattle.std.proofs.lemmas.Nat.{pow_pos, shl-shr, shr-shr, mod_below}
use Rattle.std.proofs.lemmas.Bool.{cases_lt}
use Rattle.std.proofs.lemmas.Bool.Decides.{nat_tests}
use Rattle.epistemic.specs.Bits.{bit}
use Rattle.planning.proofs.Tests.{clash}
use Rattle.epistemic.proofs.Bits.{bit_low, bit_up, bit_none, bit_of_and, bit_past}

-- the bits of `!a`, at w bits
other_parity : (x a : ℕ) → x % 2 + a % 2 ≡ 1 → eqb (x % 2) 1 ≡ not (eqb (a % 2) 1)
other_parity x a h = grind (arith, nat_tests)

pub bit_complement : (w a i : ℕ) → a < 2 ^ w → i < w → bit ((2 ^ w - 1) - a) i ≡ not (bit a i)
bit_complement zero a i h l = absurd (omega arith)
bit_complement (suc w) a zero h l =
    let x = (2 ^ suc w - 1) - a in
    let other : x % 2 + a % 2 ≡ 1 = omega (arith, pow-suc 2 w) in
    bit_low x ∙ other_parity x a other ∙ ap not (sym (bit_low a))
bit_complement (suc w) a (suc i) h l =
    let x = (2 ^ suc w - 1) - a in
    let half : x / 2 ≡ (2 ^ w - 1) - a / 2 = omega (arith, pow-suc 2 w) in
    let below : a / 2 < 2 ^ w = omega (arith, pow-suc 2 w) in
    bit_up x i ∙ ap (λ m. bit m i) half ∙ bit_complement w (a / 2) i below (omega arith) ∙ ap not (sym (bit_up a i))

-- the bits of what is left of m at w bits
pub bit_cut : (m w i : ℕ) → i < w → bit (m % 2 ^ w) i ≡ bit m i
bit_cut m w i l =
    let full : bit ((2 ^ w - 1) - 0) i ≡ true = bit_complement w 0 i (pow_pos w) l ∙ ap not (bit_none i) in
    let same : (2 ^ w - 1) - 0 ≡ 2 ^ w - 1 = omega arith in
    ap (λ x. bit x i) (sym (and_mask m w))
    ∙ bit_of_and m (2 ^ w - 1) i
    ∙ ap (λ b. bit m i && b) (ap (λ x. bit x i) (sym same) ∙ full)
    ∙ and-true (bit m i)

-- the bits of `m >> s`
pub bit_right : (m s i : ℕ) → bit (m / 2 ^ s) i ≡ bit m (s + i)
bit_right m s i = ap (λ q. eqb (q % 2) 1) (shr-shr m s i)

-- the bits of `m << s`
left_high : (m s i : ℕ) → bit (m * 2 ^ s) (s + i) ≡ bit m i
left_high m s i = sym (bit_right (m * 2 ^ s) s i) ∙ ap (λ x. bit x i) (shl-shr m s)

left_low : (m s i : ℕ) → i < s → bit (m * 2 ^ s) i ≡ false
left_low m zero i l = absurd (omega arith)
left_low m (suc s) zero l = bit_low (m * 2 ^ suc s) ∙ ap (λ r. eqb r 1) (shifted_even m s)
left_low m (suc s) (suc i) l = bit_up (m * 2 ^ suc s) i ∙ ap (λ x. bit x i) (shifted_half m s) ∙ left_low m s i (omega arith)

pub left_to : (w m s i : ℕ) → s + i < w → T (bit m i) → T (bit (m * 2 ^ s % 2 ^ w) (s + i))
left_to w m s i l t = subst T (sym (bit_cut (m * 2 ^ s) w (s + i) l ∙ left_high m s i)) t

-- a bit of `m << s` comes from a bit of m
pub left_from : (w m s u : ℕ) → T (bit (m * 2 ^ s % 2 ^ w) u) → (v : ℕ) × (T (bit m v) × (s + v ≡ u))
left_from w m s u t =
    elim (cases_lt u w) [
      | inl l ↦
          let whole = subst T (bit_cut (m * 2 ^ s) w u l) t in
          elim (cases_lt u s) [
            | inl low ↦ absurd (clash (bit (m * 2 ^ s) u) (left_low m s u low) whole)
            | inr high ↦
                let e : s + (u - s) ≡ u = omega arith in
                (u - s, (subst T (left_high m s (u - s)) (subst (λ x. T (bit (m * 2 ^ s) x)) (sym e) whole), e))
          ]
      | inr past ↦
          absurd (clash (bit (m * 2 ^ s % 2 ^ w) u) (bit_past w (m * 2 ^ s % 2 ^ w) u (mod_below (m * 2 ^ s) (2 ^ w) (pow_pos w)) past) t)
    ]
