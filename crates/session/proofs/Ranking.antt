-- What ranks up to j say of `within`, and a row visited in sweep j. Assumes nothing.
use Rattle.std.proofs.Common.{◌≡◌, ℕ, zero, suc, ◌≤◌, Bool, true, false, cond, not, ◌&&◌, ◌||◌, List, [], ◌∷◌, map, Some, None, Option, sym, refl, ap, ◌∙◌, arith}
use Rattle.std.proofs.lemmas.Bool.{lt-ltb, le-ltb, eq-eqb, ne_eqb, or_left}
use Rattle.session.specs.declared.plain.Row.{Row}
use Rattle.planning.specs.Meaning.{Meaning}
use Rattle.planning.proofs.Ranking.{rank_none, first_none}
use Rattle.planning.specs.Ranks.{some_act, brings, within, first_act, rank_next, rank_by, act_of, gains}
use Rattle.session.specs.ClosedForm.{row_by}
use Rattle.session.specs.Judging.{rank_below, rank_is, has_rank, judged}

first_some : (f : ℕ → Bool) (a n k : ℕ) → first_act f a n ≡ Some k → some_act f a n ≡ true
first_some f a zero k e = absurd (let z : ◌≡◌ {A = ℕ} 0 1 = cc in omega arith)
first_some f a (suc n) k e =
    elim (f a) as (λ b. cond b (Some a) (first_act f (suc a) n) ≡ Some k → (b || some_act f (suc a) n) ≡ true) [ true ↦ λ _. refl | false ↦ λ h. first_some f (suc a) n k h ] e

pub record RanksAs (j : ℕ) (b : Bool) (k : ℕ) : Type 0 where
  pub most : k ≤ j
  pub holds : b ≡ true

module _ {S : Type 0} (m : Meaning S) where
  pub rank_some : (j : ℕ) (s : S) (k : ℕ) → rank_by m j s ≡ Some k → RanksAs j (within m j s) k
  rank_some zero s k e = go (m.goal s) e
    where
      go : (b : Bool) → cond b (Some 0) None ≡ Some k → RanksAs 0 b k
      go true h = let z : 0 ≡ k = cc in record { most = omega arith; holds = refl }
      go false h = absurd (let z : ◌≡◌ {A = ℕ} 0 1 = cc in omega arith)
  rank_some (suc j) s k e = go (rank_some j s) (rank_by m j s) refl (within m (suc j) s) refl e
    where
      go : ((i : ℕ) → rank_by m j s ≡ Some i → RanksAs j (within m j s) i) → (o : Option ℕ) → rank_by m j s ≡ o → (b : Bool) → within m (suc j) s ≡ b → rank_next j o b ≡ Some k → RanksAs (suc j) (within m (suc j) s) k
      go less None h true w q = let z : suc j ≡ k = cc in record { most = omega arith; holds = w }
      go less None h false w q = absurd (let z : ◌≡◌ {A = ℕ} 0 1 = cc in omega arith)
      go less (Some i) h b w q =
          let z : i ≡ k = cc in
          let r = less i h in
          record { most = omega (arith, r.most); holds = or_left (within m j s) (some_act (brings m (within m j) s) 0 m.acts) r.holds }

  -- a rank that is told up to j, or up to j + 1, tells whether s is within j
  pub below_by : (j : ℕ) (t : S) → rank_below (suc j) (rank_by m j t) ≡ within m j t
  below_by j t = go (rank_by m j t) refl
    where
      go : (o : Option ℕ) → rank_by m j t ≡ o → rank_below (suc j) o ≡ within m j t
      go None h = sym (rank_none m j t h)
      go (Some k) h = let r = rank_some j t k h in lt-ltb k (suc j) (omega (arith, r.most)) ∙ sym r.holds

  pub below_next : (j : ℕ) (t : S) → rank_below (suc j) (rank_by m (suc j) t) ≡ within m j t
  below_next j t = go (rank_by m j t) refl (within m (suc j) t)
    where
      go : (o : Option ℕ) → rank_by m j t ≡ o → (b : Bool) → rank_below (suc j) (rank_next j o b) ≡ within m j t
      go None h true = le-ltb (suc j) (suc j) (omega arith) ∙ sym (rank_none m j t h)
      go None h false = sym (rank_none m j t h)
      go (Some k) h b = ap (rank_below (suc j)) (sym h) ∙ below_by j t

  -- a rank that is new in sweep j + 1
  pub is_next : (j : ℕ) (s : S) → rank_is (suc j) (rank_by m (suc j) s) ≡ (within m (suc j) s && not (within m j s))
  is_next j s = go (rank_by m j s) refl (within m (suc j) s) (within m j s) refl
    where
      go : (o : Option ℕ) → rank_by m j s ≡ o → (b c : Bool) → within m j s ≡ c → rank_is (suc j) (rank_next j o b) ≡ (b && not c)
      go None h true c w = eq-eqb (suc j) (suc j) refl ∙ ap not (sym (sym w ∙ rank_none m j s h))
      go None h false c w = refl
      go (Some k) h b c w =
          let r = rank_some j s k h in
          let e : c ≡ true = sym w ∙ r.holds in
          ne_eqb k (suc j) (λ q. omega (arith, r.most)) ∙ sym (ap (λ x. b && not x) e ∙ elim b as (λ x. (x && false) ≡ false) [ true ↦ refl | false ↦ refl ])

  pub rank_gains : (j : ℕ) (ss : List S) → has_rank (suc j) (map (row_by m (suc j)) ss) ≡ gains m j ss
  rank_gains j [] = refl
  rank_gains j (s ∷ ss) = ap (λ b. b || has_rank (suc j) (map (row_by m (suc j)) ss)) (is_next j s) ∙ ap (λ b. (within m (suc j) s && not (within m j s)) || b) (rank_gains j ss)

  -- the row of s, visited in sweep j + 1
  pub judged_row : (j : ℕ) (s : S) → judged (row_by m j s) (rank_by m j s) (suc j) (first_act (brings m (within m j) s) 0 m.acts) ≡ row_by m (suc j) s
  judged_row j s = go (rank_by m j s) refl (first_act (brings m (within m j) s) 0 m.acts) refl
    where
      row : Option ℕ → Row
      row o = record { rank = o; act = act_of m s o }

      go : (o : Option ℕ) → rank_by m j s ≡ o → (c : Option ℕ) → first_act (brings m (within m j) s) 0 m.acts ≡ c → judged (row_by m j s) o (suc j) c ≡ row_by m (suc j) s
      go (Some k) h c w = ap row (let e : rank_by m (suc j) s ≡ Some k = ap (λ o. rank_next j o (within m (suc j) s)) h in h ∙ sym e)
      go None h None w =
          let f : within m (suc j) s ≡ false = ap (λ b. b || some_act (brings m (within m j) s) 0 m.acts) (rank_none m j s h) ∙ first_none (brings m (within m j) s) 0 m.acts w in
          let e : rank_by m (suc j) s ≡ None = ap (λ o. rank_next j o (within m (suc j) s)) h ∙ ap (λ b. cond b (Some (suc j)) None) f in
          ap row (h ∙ sym e)
      go None h (Some a) w =
          let f : within m (suc j) s ≡ true = ap (λ b. b || some_act (brings m (within m j) s) 0 m.acts) (rank_none m j s h) ∙ first_some (brings m (within m j) s) 0 m.acts a w in
          let e : rank_by m (suc j) s ≡ Some (suc j) = ap (λ o. rank_next j o (within m (suc j) s)) h ∙ ap (λ b. cond b (Some (suc j)) None) f in
          ap (λ x. record { rank = Some (suc j); act = x }) (sym w) ∙ ap row (sym e)
