-- What `within` says: it grows with the rank, same states agree on it, and an act that brings all outcomes within j
-- brings within suc j. Assumes nothing.
use Rattle.std.proofs.Common.{◌≡◌, ℕ, zero, suc, ◌<◌, ◌≤◌, Bool, false, ◌&&◌, ◌||◌, T, ◌⊎◌, List, [], ◌∷◌, Some, None, Option, sym, refl, ap, ◌∙◌, subst, ap₂, inl, inr, arith}
use mathlib.Core.Path.{fun_ext}
use native.Mathlib.Decide.{le_ind}
use Rattle.planning.specs.Meaning.{Meaning, Lawful, Alike}
use Rattle.planning.specs.Ranks.{every, some_of, some_act, brings, within, Ranked}
use Rattle.std.proofs.lemmas.Bool.{cases_lt}
use Rattle.planning.proofs.Tests.{clash, fails, or_cases, or_left, or_right, and_parts}
use Rattle.planning.proofs.Lists.{act_from, act_to}

module _ {S : Type 0} (m : Meaning S) where
  pub within_more : (j k : ℕ) (s : S) → j ≤ k → T (within m j s) → T (within m k s)
  within_more j k s h t = le_ind (λ n. T (within m n s)) t (λ n _ u. or_left (within m n s) (some_act (brings m (within m n) s) 0 m.acts) u) k h

  -- the act that a rank above 0 comes by
  pub record Brought (j : ℕ) (s : S) : Type 0 where
    pub by : ℕ
    pub known : by < m.acts
    pub usable : T (some_of (m.outcomes s by))
    pub each : T (every (within m j) (m.outcomes s by))

  pub brought : (j : ℕ) (s : S) → T (within m (suc j) s) → T (within m j s) ⊎ Brought j s
  brought j s t =
      elim (or_cases (within m j s) (some_act (brings m (within m j) s) 0 m.acts) t) [
        | inl u ↦ inl u
        | inr u ↦
            let r = act_from (brings m (within m j) s) 0 m.acts u in
            let b = and_parts (some_of (m.outcomes s r.0)) (every (within m j) (m.outcomes s r.0)) r.1.2 in
            inr (record { by = r.0; known = omega arith; usable = b.0; each = b.1 })
      ]

  pub bring : (j : ℕ) (s : S) (a : ℕ) → a < m.acts → T (brings m (within m j) s a) → T (within m (suc j) s)
  bring j s a h t =
      or_right (within m j s) (some_act (brings m (within m j) s) 0 m.acts) (act_to (brings m (within m j) s) 0 m.acts a (omega arith) (omega arith) t)

  -- a rank above 0, from within at it and just below
  pub ranked_next : (j : ℕ) (s : S) → T (within m (suc j) s) → within m j s ≡ false → Ranked m s (Some (suc j))
  ranked_next j s t f = (t, λ k h. fails (within m k s) (λ u. clash (within m j s) f (within_more k j s (omega arith) u)))

  -- a state has one rank
  rank_low : (s : S) (j k : ℕ) → Ranked m s (Some j) → Ranked m s (Some k) → j ≤ k
  rank_low s j k h g = elim (cases_lt k j) [ inl l ↦ absurd (clash (within m k s) (h.1 k l) g.0) | inr l ↦ l ]

  pub one_rank : (s : S) (j k : ℕ) → Ranked m s (Some j) → Ranked m s (Some k) → j ≡ k
  one_rank s j k h g = omega (arith, rank_low s j k h g, rank_low s k j g h)

  -- alike lists
  every_alike : (p : S → Bool) → ((x y : S) → T (m.same x y) → p x ≡ p y) → (xs ys : List S) → Alike m.same xs ys → every p xs ≡ every p ys
  every_alike p h [] [] a = refl
  every_alike p h [] (y ∷ ys) a = absurd a
  every_alike p h (x ∷ xs) [] a = absurd a
  every_alike p h (x ∷ xs) (y ∷ ys) a = ap₂ ◌&&◌ (h x y a.0) (every_alike p h xs ys a.1)

  pub some_alike : (xs ys : List S) → Alike m.same xs ys → some_of xs ≡ some_of ys
  some_alike [] [] a = refl
  some_alike [] (y ∷ ys) a = absurd a
  some_alike (x ∷ xs) [] a = absurd a
  some_alike (x ∷ xs) (y ∷ ys) a = refl

-- same states agree
module _ {S : Type 0} (m : Meaning S) (law : Lawful m) where
  brings_by : (j : ℕ) → ((x y : S) → T (m.same x y) → within m j x ≡ within m j y) → (s t : S) (a : ℕ) → T (m.same s t) → brings m (within m j) s a ≡ brings m (within m j) t a
  brings_by j alike s t a e =
      let xs = m.outcomes s a in let ys = m.outcomes t a in let h = law.same_outcomes s t a e in
      ap₂ ◌&&◌ (some_alike m xs ys h) (every_alike m (within m j) alike xs ys h)

  pub within_alike : (j : ℕ) (s t : S) → T (m.same s t) → within m j s ≡ within m j t
  within_alike zero s t e = law.same_goal s t e
  within_alike (suc j) s t e = ap₂ ◌||◌ (within_alike j s t e) (ap (λ f. some_act f 0 m.acts) (fun_ext (λ a. brings_by j (within_alike j) s t a e)))

  pub brings_alike : (j : ℕ) (s t : S) (a : ℕ) → T (m.same s t) → brings m (within m j) s a ≡ brings m (within m j) t a
  brings_alike j = brings_by j (within_alike j)

  pub ranked_alike : (s t : S) (o : Option ℕ) → T (m.same s t) → Ranked m s o → Ranked m t o
  ranked_alike s t (Some k) e h = (subst T (within_alike k s t e) h.0, λ i l. sym (within_alike i s t e) ∙ h.1 i l)
  ranked_alike s t None e h = λ k. sym (within_alike k s t e) ∙ h k
