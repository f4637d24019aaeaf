-- The largest rank in a final list: the sweep after it ranks nothing, and no rank comes later. Assumes nothing.
use Rattle.std.proofs.Common.{◌≡◌, ℕ, zero, suc, ◌+◌, ◌<◌, ◌≤◌, Bool, true, false, cond, not, ◌&&◌, T, ◌⊎◌, List, [], ◌∷◌, length, Some, None, Option, refl, ◌∙◌, subst, inl, inr, arith}
use native.Mathlib.Decide.{le_ind}
use Rattle.std.specs.List.{slice_get}
use Rattle.planning.specs.Meaning.{Meaning, Lawful}
use Rattle.planning.specs.Finding.{found, Final}
use Rattle.planning.specs.Ranks.{within, rank_next, rank_by, gains, largest_from, largest}
use Rattle.std.proofs.lemmas.Bool.{cases_eq}
use Rattle.planning.proofs.Tests.{holds, clash, fails, or_cases, or_left, or_right, and_parts, and_from}
use Rattle.planning.proofs.Within.{ranked_next}
use Rattle.planning.proofs.Gapless.{Has, has_down, has_below}
use Rattle.planning.proofs.Ranking.{rank_none}

not_from : (b : Bool) → T (not b) → b ≡ false
not_from true t = absurd t
not_from false t = refl

not_to : (b : Bool) → b ≡ false → T (not b)
not_to true e = clash true e tt
not_to false e = tt

module _ {S : Type 0} (m : Meaning S) where
  pub record GainsAt (j : ℕ) (ss : List S) : Type 0 where
    pub place : ℕ
    pub state : S
    pub at : slice_get ss place ≡ Some state
    pub new : T (within m (suc j) state)
    pub old : within m j state ≡ false

  gains_from : (j : ℕ) (ss : List S) → T (gains m j ss) → GainsAt j ss
  gains_from j [] t = absurd t
  gains_from j (s ∷ ss) t =
      elim (or_cases (within m (suc j) s && not (within m j s)) (gains m j ss) t) [
        | inl u ↦ let p = and_parts (within m (suc j) s) (not (within m j s)) u in record { place = 0; state = s; at = refl; new = p.0; old = not_from (within m j s) p.1 }
        | inr u ↦ let g = gains_from j ss u in record { place = suc g.place; state = g.state; at = g.at; new = g.new; old = g.old }
      ]

  gains_to : (j : ℕ) (ss : List S) (i : ℕ) (s : S) → slice_get ss i ≡ Some s → T (within m (suc j) s) → within m j s ≡ false → T (gains m j ss)
  gains_to j [] i s e a b = absurd (let z : ◌≡◌ {A = ℕ} 0 1 = cc in omega arith)
  gains_to j (x ∷ xs) zero s e a b =
      let f : s ≡ x = cc in
      or_left (within m (suc j) x && not (within m j x)) (gains m j xs) (subst (λ y. T (within m (suc j) y && not (within m j y))) f (and_from (within m (suc j) s) (not (within m j s)) a (not_to (within m j s) b)))
  gains_to j (x ∷ xs) (suc i) s e a b = or_right (within m (suc j) x && not (within m j x)) (gains m j xs) (gains_to j xs i s e a b)

  -- what the search for the largest rank finds
  pub record Deep (fuel j : ℕ) (ss : List S) (l : ℕ) : Type 0 where
    pub low : j ≤ l
    pub high : l ≤ j + fuel
    pub ends : (gains m l ss ≡ false) ⊎ (l ≡ j + fuel)
    pub each : (k : ℕ) → j ≤ k → k < l → T (gains m k ss)

  deep : (fuel j : ℕ) (ss : List S) → Deep fuel j ss (largest_from m fuel j ss)
  deep zero j ss = record { low = omega arith; high = omega arith; ends = inr (omega arith); each = λ k a b. absurd (omega arith) }
  deep (suc fuel) j ss = go (deep fuel (suc j) ss) (gains m j ss) refl
    where
      go : Deep fuel (suc j) ss (largest_from m fuel (suc j) ss) → (b : Bool) → gains m j ss ≡ b → Deep (suc fuel) j ss (cond b (largest_from m fuel (suc j) ss) j)
      go d false e = record { low = omega arith; high = omega arith; ends = inl e; each = λ k a b. absurd (omega arith) }
      go d true e =
          record {
            low = omega (arith, d.low);
            high = omega (arith, d.high);
            ends = elim d.ends [ inl f ↦ inl f | inr f ↦ inr (omega arith) ];
            each = λ k a b. elim (first k a) [ inl f ↦ subst (λ i. T (gains m i ss)) f (holds (gains m j ss) e) | inr f ↦ d.each k f b ];
          }
        where
          first : (k : ℕ) → j ≤ k → (j ≡ k) ⊎ (suc j ≤ k)
          first k a = elim (cases_eq j k) [ inl f ↦ inl f | inr f ↦ inr (omega arith) ]

module _ {S : Type 0} (m : Meaning S) (law : Lawful m) (r : ℕ) (final : Final m r) where
  abbrev deepest : ℕ
  deepest = largest m (found m r)

  pub has_from : (j : ℕ) → T (gains m j (found m r)) → Has m r (suc j)
  has_from j t = let g = gains_from m j (found m r) t in (g.place, (g.state, (g.at, ranked_next m j g.state g.new g.old)))

  pub gains_has : (j : ℕ) → Has m r (suc j) → T (gains m j (found m r))
  gains_has j (i, (s, (at, (t, f)))) = gains_to m j (found m r) i s at t (f j (omega arith))

  pub deepest_most : deepest ≤ r
  deepest_most = omega (arith, (deep m (length (found m r)) 0 (found m r)).high)

  pub deepest_each : (k : ℕ) → k < deepest → T (gains m k (found m r))
  deepest_each k h = (deep m (length (found m r)) 0 (found m r)).each k (omega arith) h

  pub deepest_end : gains m deepest (found m r) ≡ false
  deepest_end =
      elim (deep m (length (found m r)) 0 (found m r)).ends [
        | inl e ↦ e
        | inr e ↦ fails (gains m deepest (found m r)) (λ t. omega (arith, has_below m law r final (suc deepest) (has_from deepest t)))
      ]

  -- from the largest rank on, the ranks of the list stay
  stays : (i : ℕ) (s : S) → slice_get (found m r) i ≡ Some s → (k : ℕ) → deepest ≤ k → rank_by m (suc k) s ≡ rank_by m k s
  stays i s at k h = go (rank_by m k s) refl (within m (suc k) s) refl
    where
      go : (o : Option ℕ) → rank_by m k s ≡ o → (b : Bool) → within m (suc k) s ≡ b → rank_next k o b ≡ o
      go (Some x) e b w = refl
      go None e false w = refl
      go None e true w =
          let t : T (within m (suc k) s) = holds (within m (suc k) s) w in
          absurd (clash (gains m deepest (found m r)) deepest_end (gains_has deepest (has_down m law r final (suc deepest) (suc k) (omega arith) (i, (s, (at, ranked_next m k s t (rank_none m k s e)))))))

  pub rank_stays : (i : ℕ) (s : S) → slice_get (found m r) i ≡ Some s → (k : ℕ) → deepest ≤ k → rank_by m k s ≡ rank_by m deepest s
  rank_stays i s at k h = le_ind (λ n. rank_by m n s ≡ rank_by m deepest s) refl (λ n l e. stays i s at n l ∙ e) k h
