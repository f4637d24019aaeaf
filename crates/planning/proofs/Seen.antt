-- The first place of a same state. Assumes nothing.
use Rattle.std.proofs.Common.{◌≡◌, ℕ, zero, suc, ◌+◌, Bool, true, false, cond, ◌||◌, T, List, [], ◌∷◌, Some, None, sym, refl, ap, ◌∙◌, subst, arith}
use Rattle.std.specs.List.{slice_get}
use Rattle.planning.specs.Meaning.{Meaning}
use Rattle.planning.specs.Finding.{listed, place_from}
use Rattle.planning.proofs.Tests.{so, holds}

-- the first place of a same state, where there is one
pub record Seen {S : Type 0} (m : Meaning S) (o : S) (i : ℕ) (ts : List S) : Type 0 where
  pub place : ℕ
  pub state : S
  pub is : place_from m i ts o ≡ Some (i + place)
  pub at : slice_get ts place ≡ Some state
  pub same : T (m.same state o)

module _ {S : Type 0} (m : Meaning S) (o : S) where
  here : (i : ℕ) (x : S) (xs : List S) → T (m.same x o) → Seen m o i (x ∷ xs)
  here i x xs h =
      let e : i ≡ i + 0 = omega arith in
      record { place = 0; state = x; is = ap (λ b. cond b (Some i) (place_from m (suc i) xs o)) (so (m.same x o) h) ∙ ap Some e; at = refl; same = h }

  pub seen : (i : ℕ) (ts : List S) (q : ℕ) (t : S) → slice_get ts q ≡ Some t → T (m.same t o) → Seen m o i ts
  seen i [] q t e h = absurd (let z : ◌≡◌ {A = ℕ} 0 1 = cc in omega arith)
  seen i (x ∷ xs) zero t e h = let g : t ≡ x = cc in here i x xs (subst (λ y. T (m.same y o)) g h)
  seen i (x ∷ xs) (suc q) t e h = go (seen (suc i) xs q t e h) (m.same x o) refl
    where
      go : Seen m o (suc i) xs → (b : Bool) → m.same x o ≡ b → Seen m o i (x ∷ xs)
      go w true f = here i x xs (subst T (sym f) tt)
      go w false f =
          let n : suc i + w.place ≡ i + suc w.place = omega arith in
          record { place = suc w.place; state = w.state; is = ap (λ b. cond b (Some i) (place_from m (suc i) xs o)) f ∙ w.is ∙ ap Some n; at = w.at; same = w.same }

  -- what a place that was found holds
  pub placed : (i : ℕ) (ts : List S) (p : ℕ) → place_from m i ts o ≡ Some p → Seen m o i ts
  placed i [] p e = absurd (let z : ◌≡◌ {A = ℕ} 0 1 = cc in omega arith)
  placed i (t ∷ ts) p e = go (placed (suc i) ts p) (m.same t o) refl e
    where
      go : (place_from m (suc i) ts o ≡ Some p → Seen m o (suc i) ts) → (b : Bool) → m.same t o ≡ b → cond b (Some i) (place_from m (suc i) ts o) ≡ Some p → Seen m o i (t ∷ ts)
      go later true f h = here i t ts (holds (m.same t o) f)
      go later false f h = let w = later h in seen i (t ∷ ts) (suc w.place) w.state w.at w.same

  pub placed_none : (i : ℕ) (ts : List S) → place_from m i ts o ≡ None → listed m ts o ≡ false
  placed_none i [] e = refl
  placed_none i (t ∷ ts) e =
      elim (m.same t o) as (λ b. cond b (Some i) (place_from m (suc i) ts o) ≡ None → (b || listed m ts o) ≡ false)
      [ true ↦ λ h. absurd (let z : ◌≡◌ {A = ℕ} 0 1 = cc in omega arith) | false ↦ λ h. placed_none (suc i) ts h ] e

  pub seen_listed : (i : ℕ) (ts : List S) (p : ℕ) → place_from m i ts o ≡ Some p → listed m ts o ≡ true
  seen_listed i [] p e = absurd (let z : ◌≡◌ {A = ℕ} 0 1 = cc in omega arith)
  seen_listed i (t ∷ ts) p e =
      elim (m.same t o) as (λ b. cond b (Some i) (place_from m (suc i) ts o) ≡ Some p → (b || listed m ts o) ≡ true)
      [ true ↦ λ _. refl | false ↦ λ h. seen_listed (suc i) ts p h ] e
