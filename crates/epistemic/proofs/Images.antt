-- What the image of a set under a function holds. Assumes nothing.
use Rattle.std.proofs.Common.{◌≡◌, ℕ, zero, suc, ◌^◌, ◌<◌, Bool, true, false, cond, ◌||◌, T, sym, ap, ◌∙◌, subst, inl, inr, arith, eqb→eq}
use lib.Bits.{bit_or}
use lib.Dec.{eqb_refl}
use Rattle.std.proofs.lemmas.Bool.{cases_lt}
use Rattle.epistemic.specs.Bits.{bit, image}
use Rattle.planning.proofs.Tests.{iff, clash, or_cases, or_left, or_right}
use Rattle.epistemic.proofs.Bits.{bit_none, bit_of_or, bit_power, same_bits}

-- a bit of a union, as a test
pub or_from : (a b i : ℕ) → T (bit (bit_or a b) i) → T (bit a i || bit b i)
or_from a b i t = subst T (bit_of_or a b i) t

pub or_into_left : (a b i : ℕ) → T (bit a i) → T (bit (bit_or a b) i)
or_into_left a b i t = subst T (sym (bit_of_or a b i)) (or_left (bit a i) (bit b i) t)

pub or_into_right : (a b i : ℕ) → T (bit b i) → T (bit (bit_or a b) i)
or_into_right a b i t = subst T (sym (bit_of_or a b i)) (or_right (bit a i) (bit b i) t)

-- a set that stands only where a test passes
pub gated_from : (b : Bool) (m i : ℕ) → T (bit (cond b m 0) i) → T b × T (bit m i)
gated_from true m i t = (tt, t)
gated_from false m i t = absurd (clash (bit 0 i) (bit_none i) t)

pub gated_to : (b : Bool) (m i : ℕ) → T b → T (bit m i) → T (bit (cond b m 0) i)
gated_to true m i s t = t
gated_to false m i s t = absurd s

module _ (g : ℕ → ℕ) (x : ℕ) where
  -- what an image holds comes from the set
  pub image_from : (k u : ℕ) → T (bit (image g x k) u) → (v : ℕ) × (T (bit x v) × (g v ≡ u))
  unfolding image
  image_from zero u t = absurd (clash (bit 0 u) (bit_none u) t)
  image_from (suc k) u t =
      let last = cond (bit x k) (2 ^ g k) 0 in
      elim (or_cases (bit (image g x k) u) (bit last u) (or_from (image g x k) last u t)) [
        | inl s ↦ image_from k u s
        | inr s ↦ let r = gated_from (bit x k) (2 ^ g k) u s in (k, (r.0, sym (eqb→eq u (g k) (subst T (bit_power (g k) u) r.1))))
      ]

  -- what the set holds goes into the image
  pub image_to : (k v : ℕ) → v < k → T (bit x v) → T (bit (image g x k) (g v))
  unfolding image
  image_to zero v h t = absurd (omega arith)
  image_to (suc k) v h t =
      let last = cond (bit x k) (2 ^ g k) 0 in
      elim (cases_lt v k) [
        | inl l ↦ or_into_left (image g x k) last (g v) (image_to k v l t)
        | inr l ↦
            let same : v ≡ k = omega arith in
            let u = g k in
            let own : T (bit (2 ^ u) u) = subst T (sym (bit_power u u)) (eqb_refl u) in
            let here : T (bit last u) = gated_to (bit x k) (2 ^ u) u (subst (λ w. T (bit x w)) same t) own in
            or_into_right (image g x k) last (g v) (subst (λ w. T (bit last (g w))) (sym same) here)
      ]

-- images under functions that agree on the set are equal
pub image_same : (f g : ℕ → ℕ) (x k l : ℕ) → ((v : ℕ) → T (bit x v) → (v < k) × (v < l) × (f v ≡ g v)) → image f x k ≡ image g x l
image_same f g x k l h =
    same_bits (image f x k) (image g x l)
    (λ u. iff (bit (image f x k) u) (bit (image g x l) u)
    (λ t. let r = image_from f x k u t in let a = h r.0 r.1.0 in
    subst (λ w. T (bit (image g x l) w)) (sym a.2 ∙ r.1.1) (image_to g x l r.0 a.1 r.1.0))
    (λ t. let r = image_from g x l u t in let a = h r.0 r.1.0 in
    subst (λ w. T (bit (image f x k) w)) (a.2 ∙ r.1.1) (image_to f x k r.0 a.0 r.1.0)))

-- a function that leaves each of the set leaves the set
pub image_self : (g : ℕ → ℕ) (x k : ℕ) → ((v : ℕ) → T (bit x v) → (v < k) × (g v ≡ v)) → image g x k ≡ x
image_self g x k h =
    same_bits (image g x k) x
    (λ u. iff (bit (image g x k) u) (bit x u)
    (λ t. let r = image_from g x k u t in subst (λ w. T (bit x w)) (sym (h r.0 r.1.0).1 ∙ r.1.1) r.1.0)
    (λ t. let a = h u t in subst (λ w. T (bit (image g x k) w)) a.1 (image_to g x k u a.0 t)))

-- the image of an image
pub image_twice : (f g : ℕ → ℕ) (x k : ℕ) → ((v : ℕ) → T (bit x v) → (v < k) × (f v < k)) → image g (image f x k) k ≡ image (λ v. g (f v)) x k
image_twice f g x k h =
    same_bits (image g (image f x k) k) (image (λ v. g (f v)) x k)
    (λ u. iff (bit (image g (image f x k) k) u) (bit (image (λ v. g (f v)) x k) u)
    (λ t. let r = image_from g (image f x k) k u t in
    let s = image_from f x k r.0 r.1.0 in
    subst (λ w. T (bit (image (λ v. g (f v)) x k) w)) (ap g s.1.1 ∙ r.1.1) (image_to (λ v. g (f v)) x k s.0 (h s.0 s.1.0).0 s.1.0))
    (λ t. let r = image_from (λ v. g (f v)) x k u t in
    let a = h r.0 r.1.0 in
    subst (λ w. T (bit (image g (image f x k) k) w)) r.1.1 (image_to g (image f x k) k (f r.0) a.1 (image_to f x k r.0 a.0 r.1.0))))
