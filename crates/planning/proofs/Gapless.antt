-- The ranks in a final list have no gap, and are below the number of its states. Assumes nothing.
use Rattle.std.proofs.Common.{◌≡◌, ℕ, zero, suc, ◌<◌, ◌≤◌, false, T, Some, sym, refl, ◌∙◌, subst, inl, inr, arith}
use mathlib.Core.List.{Memᴰ}
use native.Mathlib.Decide.{le_ind}
use Rattle.std.specs.List.{slice_get}
use Rattle.planning.specs.Meaning.{Meaning, Lawful}
use Rattle.planning.specs.Finding.{found, Final}
use Rattle.planning.specs.Ranks.{every, some_of, within, Ranked}
use Rattle.planning.proofs.Tests.{clash, fails, and_from}
use Rattle.planning.proofs.Lists.{every_at, every_not, some_member, passing, passing_most, passing_lt}
use Rattle.planning.proofs.Within.{within_more, within_alike, Brought, brought, bring, ranked_next}
use Rattle.planning.proofs.Places.{Placed, closed}

module _ {S : Type 0} (m : Meaning S) where
  -- an outcome of rank j, after the act by which a state has the next rank
  worst : (j : ℕ) (s : S) → within m j s ≡ false → (b : Brought m j s) → (o : S) × (Memᴰ o (m.outcomes s b.by) × Ranked m o (Some j))
  worst zero s f b =
      let x = some_member (m.outcomes s b.by) b.usable in
      (x.0, (x.1, (every_at (within m 0) x.1 b.each, λ k h. absurd (omega arith))))
  worst (suc j) s f b =
      let outs = m.outcomes s b.by in
      let not-all = fails (every (within m j) outs) (λ t. clash (within m (suc j) s) f (bring m j s b.by b.known (and_from (some_of outs) (every (within m j) outs) b.usable t))) in
      let x = every_not (within m j) outs not-all in
      (x.0, (x.1.0, ranked_next m j x.0 (every_at (within m (suc j)) x.1.0 b.each) x.1.1))

  -- the list after r turns has a state of rank j
  abbrev pub Has : ℕ → ℕ → Type 0
  Has r j = (i : ℕ) × ((s : S) × ((slice_get (found m r) i ≡ Some s) × Ranked m s (Some j)))

module _ {S : Type 0} (m : Meaning S) (law : Lawful m) (r : ℕ) (final : Final m r) where
  has_same : (j : ℕ) (o : S) → Placed m (found m r) o → Ranked m o (Some j) → Has m r j
  has_same j o p h =
      let alike : (k : ℕ) → within m k p.state ≡ within m k o = λ k. within_alike m law k p.state o p.same in
      (p.place, (p.state, (p.at, (subst T (sym (alike j)) h.0, λ k l. alike k ∙ h.1 k l))))

  has_less : (j : ℕ) → Has m r (suc j) → Has m r j
  has_less j (i, (s, (at, (t, f)))) =
      let low = f j (omega arith) in
      elim (brought m j s t) [
        | inl u ↦ absurd (clash (within m j s) low u)
        | inr b ↦ let (o, (out, rank)) = worst m j s low b in has_same j o (closed m law r final i s at b.by b.known o out) rank
      ]

  pub has_down : (j k : ℕ) → j ≤ k → Has m r k → Has m r j
  has_down j k l = le_ind (λ n. Has m r n → Has m r j) (λ h. h) (λ n _ down h. down (has_less n h)) k l

  -- more than j states of the list are within j
  filled : (j : ℕ) → Has m r j → j < passing (within m j) (found m r)
  filled zero (i, (s, (at, (t, f)))) = omega (arith, passing_lt (λ _. false) (within m 0) (λ x u. absurd u) (found m r) i s at refl t)
  filled (suc j) (i, (s, (at, (t, f)))) =
      let fewer = filled j (has_less j (i, (s, (at, (t, f))))) in
      omega (arith, passing_lt (within m j) (within m (suc j)) (λ x u. within_more m j (suc j) x (omega arith) u) (found m r) i s at (f j (omega arith)) t)

  pub has_below : (j : ℕ) → Has m r j → j < r
  has_below j h = omega (arith, filled j h, passing_most (within m j) (found m r))
