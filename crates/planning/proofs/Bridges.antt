-- The closed form in the words of the ranks: what `largest` and `rank_by` are in a final list. Assumes nothing.
use Rattle.std.proofs.Common.{◌≡◌, ℕ, zero, suc, ◌<◌, Bool, true, false, cond, ◌⊎◌, Some, None, Option, sym, refl, ◌∙◌, inl, inr, arith}
use Rattle.std.specs.List.{slice_get}
use Rattle.std.proofs.lemmas.Bool.{cases_lt}
use Rattle.planning.specs.Meaning.{Meaning, Lawful}
use Rattle.planning.specs.Finding.{found, Final}
use Rattle.planning.specs.Ranks.{within, Ranked, Largest, rank_next, rank_by, gains, largest}
use Rattle.planning.proofs.Tests.{holds, clash, fails}
use Rattle.planning.proofs.Within.{within_more, ranked_next}
use Rattle.planning.proofs.Gapless.{has_down}
use Rattle.planning.proofs.Ranking.{rank_none}
use Rattle.planning.proofs.Deepest.{has_from, gains_has, deepest_each, deepest_end, deepest_most, rank_stays}

module _ {S : Type 0} (m : Meaning S) where
  pub ranked_some : (j : ℕ) (s : S) (k : ℕ) → rank_by m j s ≡ Some k → Ranked m s (Some k)
  ranked_some zero s k e = go (m.goal s) refl e
    where
      go : (b : Bool) → m.goal s ≡ b → cond {A = Option ℕ} b (Some 0) None ≡ Some k → Ranked m s (Some k)
      go true w h = let z : k ≡ 0 = cc in subst' z (holds (m.goal s) w, λ i l. absurd (omega arith))
        where
          subst' : k ≡ 0 → Ranked m s (Some 0) → Ranked m s (Some k)
          subst' z r = rw z r
      go false w h = absurd (let z : ◌≡◌ {A = ℕ} 0 1 = cc in omega arith)
  ranked_some (suc j) s k e = go (ranked_some j s) (rank_by m j s) refl (within m (suc j) s) refl e
    where
      new : k ≡ suc j → Ranked m s (Some (suc j)) → Ranked m s (Some k)
      new z r = rw z r

      go : ((i : ℕ) → rank_by m j s ≡ Some i → Ranked m s (Some i)) → (o : Option ℕ) → rank_by m j s ≡ o → (b : Bool) → within m (suc j) s ≡ b → rank_next j o b ≡ Some k → Ranked m s (Some k)
      go less None h true w q = let z : k ≡ suc j = cc in new z (ranked_next m j s (holds (within m (suc j) s) w) (rank_none m j s h))
      go less None h false w q = absurd (let z : ◌≡◌ {A = ℕ} 0 1 = cc in omega arith)
      go less (Some i) h b w q = less k (h ∙ q)

module _ {S : Type 0} (m : Meaning S) (law : Lawful m) (r : ℕ) (final : Final m r) where
  pub ranked_none : (i : ℕ) (s : S) → slice_get (found m r) i ≡ Some s → rank_by m r s ≡ None → Ranked m s None
  ranked_none i s at e k =
      elim (cases_lt r k) [
        | inl l ↦
            let most = deepest_most m law r final in
            rank_none m k s (rank_stays m law r final i s at k (omega arith) ∙ sym (rank_stays m law r final i s at r most) ∙ e)
        | inr l ↦ fails (within m k s) (λ t. clash (within m r s) (rank_none m r s e) (within_more m k r s l t))
      ]

  pub largest_is : Largest m r (largest m (found m r))
  largest_is =
      record {
        most = λ i k s at h.
            elim (cases_lt (largest m (found m r)) k) [
              | inl l ↦ absurd (clash (gains m (largest m (found m r)) (found m r)) (deepest_end m law r final) (gains_has m law r final (largest m (found m r)) (has_down m law r final (suc (largest m (found m r))) k l (i, (s, (at, h))))))
              | inr l ↦ l
            ];
        some = go (largest m (found m r)) (λ j l. has_from m law r final j (deepest_each m law r final j l));
      }
    where
      go : (l : ℕ) → ((j : ℕ) → j < l → (i : ℕ) × ((s : S) × ((slice_get (found m r) i ≡ Some s) × Ranked m s (Some (suc j))))) → (l ≡ 0) ⊎ ((i : ℕ) × ((s : S) × ((slice_get (found m r) i ≡ Some s) × Ranked m s (Some l))))
      go zero h = inl refl
      go (suc l) h = inr (h l (omega arith))
