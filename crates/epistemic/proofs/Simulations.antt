-- Bisimulations as relations that need be no tests, which the proofs work with: related worlds satisfy the same
-- formulas. Assumes nothing.
use Rattle.std.proofs.Common.{◌≡◌, ℕ, Bool, not, ◌&&◌, ◌||◌, T, sym, refl, ap, subst, ap₂}
use Rattle.epistemic.specs.Lists.{◌∈◌, every, some, implies}
use Rattle.sheets.specs.Formulas.{Formula, top, letter, neg, and, or, K, M}
use Rattle.epistemic.specs.Models.{Model, sat}
use Rattle.planning.proofs.Tests.{iff, and_parts, and_from}
use Rattle.epistemic.proofs.Tests.{implies_from, implies_to}
use Rattle.epistemic.proofs.Lists.{every_at, every_from, some_at, some_from}

pub record Simulation {V W : Type 0} (m : Model V) (o : Model W) (R : V → W → Type 0) : Type 0 where
  pub left_in : (v : V) (w : W) → R v w → v ∈ m.worlds
  pub right_in : (v : V) (w : W) → R v w → w ∈ o.worlds
  pub atoms : (v : V) (w : W) → R v w → (i : ℕ) → m.holds i v ≡ o.holds i w
  pub forth : (v : V) (w : W) → R v w → (x : V) → x ∈ m.worlds → T (m.alike v x) → (y : W) × (T (o.alike w y) × R x y)
  pub back : (v : V) (w : W) → R v w → (y : W) → y ∈ o.worlds → T (o.alike w y) → (x : V) × (T (m.alike v x) × R x y)

-- a test that related worlds answer alike is known at the one exactly when it is known at the other
module _ {V W : Type 0} (m : Model V) (o : Model W) (R : V → W → Type 0) (sim : Simulation m o R) where
  module _ (p : V → Bool) (q : W → Bool) (same : (v : V) (w : W) → R v w → p v ≡ q w) (v : V) (w : W) (r : R v w) where
    same_known : every (λ x. implies (m.alike v x) (p x)) m.worlds ≡ every (λ y. implies (o.alike w y) (q y)) o.worlds
    same_known = iff (every (λ x. implies (m.alike v x) (p x)) m.worlds) (every (λ y. implies (o.alike w y) (q y)) o.worlds) there back
      where
        there : T (every (λ x. implies (m.alike v x) (p x)) m.worlds) → T (every (λ y. implies (o.alike w y) (q y)) o.worlds)
        there t =
            every_from (λ y. implies (o.alike w y) (q y)) o.worlds
            (λ y k. implies_to (o.alike w y) (q y)
            (λ a. let x = sim.back v w r y k a in
            subst T (same x.0 y x.1.1) (implies_from (m.alike v x.0) (p x.0) (every_at (λ z. implies (m.alike v z) (p z)) (sim.left_in x.0 y x.1.1) t) x.1.0)))

        back : T (every (λ y. implies (o.alike w y) (q y)) o.worlds) → T (every (λ x. implies (m.alike v x) (p x)) m.worlds)
        back t =
            every_from (λ x. implies (m.alike v x) (p x)) m.worlds
            (λ x k. implies_to (m.alike v x) (p x)
            (λ a. let y = sim.forth v w r x k a in
            subst T (sym (same x y.0 y.1.1)) (implies_from (o.alike w y.0) (q y.0) (every_at (λ z. implies (o.alike w z) (q z)) (sim.right_in x y.0 y.1.1) t) y.1.0)))

    same_possible : some (λ x. m.alike v x && p x) m.worlds ≡ some (λ y. o.alike w y && q y) o.worlds
    same_possible = iff (some (λ x. m.alike v x && p x) m.worlds) (some (λ y. o.alike w y && q y) o.worlds) there back
      where
        there : T (some (λ x. m.alike v x && p x) m.worlds) → T (some (λ y. o.alike w y && q y) o.worlds)
        there t =
            let x = some_at (λ z. m.alike v z && p z) m.worlds t in
            let a = and_parts (m.alike v x.0) (p x.0) x.1.1 in
            let y = sim.forth v w r x.0 x.1.0 a.0 in
            some_from (λ z. o.alike w z && q z) (sim.right_in x.0 y.0 y.1.1) (and_from (o.alike w y.0) (q y.0) y.1.0 (subst T (same x.0 y.0 y.1.1) a.1))

        back : T (some (λ y. o.alike w y && q y) o.worlds) → T (some (λ x. m.alike v x && p x) m.worlds)
        back t =
            let y = some_at (λ z. o.alike w z && q z) o.worlds t in
            let a = and_parts (o.alike w y.0) (q y.0) y.1.1 in
            let x = sim.back v w r y.0 y.1.0 a.0 in
            some_from (λ z. m.alike v z && p z) (sim.left_in x.0 y.0 x.1.1) (and_from (m.alike v x.0) (p x.0) x.1.0 (subst T (sym (same x.0 y.0 x.1.1)) a.1))

  pub same_formulas : (f : Formula) (v : V) (w : W) → R v w → sat m v f ≡ sat o w f
  same_formulas top v w r = refl
  same_formulas (letter i) v w r = sim.atoms v w r i
  same_formulas (neg f) v w r = ap not (same_formulas f v w r)
  same_formulas (and f g) v w r = ap₂ ◌&&◌ (same_formulas f v w r) (same_formulas g v w r)
  same_formulas (or f g) v w r = ap₂ ◌||◌ (same_formulas f v w r) (same_formulas g v w r)
  same_formulas (K f) v w r = same_known (λ x. sat m x f) (λ y. sat o y f) (same_formulas f) v w r
  same_formulas (M f) v w r = same_possible (λ x. sat m x f) (λ y. sat o y f) (same_formulas f) v w r
