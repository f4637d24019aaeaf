-- What the lowest act is, and what a rank looked for up to j says of `within`. Assumes nothing.
use Rattle.std.proofs.Common.{◌≡◌, ℕ, zero, suc, ◌+◌, ◌<◌, ◌≤◌, Bool, true, false, cond, ◌||◌, T, Some, None, Option, refl, subst, inl, inr, arith}
use Rattle.std.proofs.lemmas.Bool.{cases_eq}
use Rattle.planning.specs.Meaning.{Meaning}
use Rattle.planning.specs.Ranks.{some_act, first_act, within, rank_next, rank_by}
use Rattle.planning.proofs.Tests.{holds}

-- what it is for k to be the first of n acts from a on that passes the test
pub record First (f : ℕ → Bool) (a n k : ℕ) : Type 0 where
  pub from : a ≤ k
  pub below : k < a + n
  pub passes : T (f k)
  pub lowest : (b : ℕ) → a ≤ b → b < k → f b ≡ false

pub first_lowest : (f : ℕ → Bool) (a n k : ℕ) → first_act f a n ≡ Some k → First f a n k
first_lowest f a zero k e = absurd (let z : ◌≡◌ {A = ℕ} 0 1 = cc in omega arith)
first_lowest f a (suc n) k e = go (first_lowest f (suc a) n k) (f a) refl e
  where
    go : (first_act f (suc a) n ≡ Some k → First f (suc a) n k) → (b : Bool) → f a ≡ b → cond b (Some a) (first_act f (suc a) n) ≡ Some k → First f a (suc n) k
    go later true w h =
        let z : a ≡ k = cc in
        record { from = omega arith; below = omega arith; passes = subst (λ i. T (f i)) z (holds (f a) w); lowest = λ b l u. absurd (omega arith) }
    go later false w h =
        let r = later h in
        record {
          from = omega (arith, r.from);
          below = omega (arith, r.below);
          passes = r.passes;
          lowest = λ b l u. elim (cases_eq a b) [ inl z ↦ subst (λ i. f i ≡ false) z w | inr z ↦ r.lowest b (omega arith) u ];
        }

pub first_none : (f : ℕ → Bool) (a n : ℕ) → first_act f a n ≡ None → some_act f a n ≡ false
first_none f a zero e = refl
first_none f a (suc n) e =
    elim (f a) as (λ b. cond b (Some a) (first_act f (suc a) n) ≡ None → (b || some_act f (suc a) n) ≡ false)
    [ true ↦ λ h. absurd (let z : ◌≡◌ {A = ℕ} 0 1 = cc in omega arith) | false ↦ λ h. first_none f (suc a) n h ] e

module _ {S : Type 0} (m : Meaning S) where
  pub rank_none : (j : ℕ) (s : S) → rank_by m j s ≡ None → within m j s ≡ false
  rank_none zero s e = go (m.goal s) e
    where
      go : (b : Bool) → cond {A = Option ℕ} b (Some 0) None ≡ None → b ≡ false
      go true h = absurd (let z : ◌≡◌ {A = ℕ} 0 1 = cc in omega arith)
      go false h = refl
  rank_none (suc j) s e = go (rank_by m j s) (within m (suc j) s) e
    where
      go : (o : Option ℕ) (b : Bool) → rank_next j o b ≡ None → b ≡ false
      go None true h = absurd (let z : ◌≡◌ {A = ℕ} 0 1 = cc in omega arith)
      go None false h = refl
      go (Some k) b h = absurd (let z : ◌≡◌ {A = ℕ} 0 1 = cc in omega arith)
