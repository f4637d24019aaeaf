-- From a plan to a rank: a state all of whose runs reach the goal in n acts at most is within n. Assumes nothing.
use Rattle.std.proofs.Common.{◌≡◌, ℕ, zero, suc, ◌+◌, ◌-◌, ◌<◌, ◌≤◌, T, [], subst, inl, inr, arith}
use Rattle.std.proofs.lemmas.Bool.{cases_lt}
use Rattle.planning.specs.Meaning.{Meaning, Lawful}
use Rattle.planning.specs.Plans.{Plan, skip, act, choose, andthen, End, failed, ends, Run, skipped, acted, stuck, chose_first, chose_second, broke_off, went_on}
use Rattle.planning.specs.Ranks.{every, some_of, within}
use Rattle.planning.proofs.Tests.{so, decide, and_from}
use Rattle.planning.proofs.Lists.{every_from, some_from, best}
use Rattle.planning.proofs.Within.{bring}
use Rattle.planning.proofs.Runs.{longest}

module _ {S : Type 0} (m : Meaning S) where
  -- after k of n acts, the rest suffices from the end
  abbrev pub Suffices : ℕ → ℕ → End S → Type 0
  Suffices n k failed = ⊥
  Suffices n k (ends t) = (k ≤ n) × T (within m (n - k) t)

  abbrev AllSuffice : ℕ → Plan S → S → Type 0
  AllSuffice n p s = (k : ℕ) (e : End S) → Run m p s k e → Suffices n k e

  suffices_le : (n k : ℕ) (e : End S) → Suffices n k e → k ≤ n
  suffices_le n k failed h = absurd h
  suffices_le n k (ends t) h = h.0

  -- the first k acts taken off
  suffices_rest : (n k l : ℕ) (e : End S) → Suffices n (k + l) e → Suffices (n - k) l e
  suffices_rest n k l failed h = h
  suffices_rest n k l (ends t) h = (omega (arith, h.0), let e : n - (k + l) ≡ n - k - l = omega arith in subst (λ j. T (within m j t)) e h.1)

  complete_then : (p q : Plan S) → ((n : ℕ) (t : S) → AllSuffice n q t → T (within m n t)) → (n : ℕ) (s : S) → AllSuffice n (andthen p q) s → AllSuffice n p s
  complete_then p q second n s h k failed r = h k failed (broke_off r)
  complete_then p q second n s h k (ends t) r =
      let x = longest m (λ _. 0) q t in (
        omega (arith, suffices_le n (k + x.count) x.end (h (k + x.count) x.end (went_on r x.run))),
        second (n - k) t (λ l e r'. suffices_rest n k l e (h (k + l) e (went_on r r'))),
      )

module _ {S : Type 0} (m : Meaning S) (law : Lawful m) where
  complete_act : (a n : ℕ) (s : S) → AllSuffice m n (act a) s → T (within m n s)
  complete_act a zero s h =
      elim (best (λ _. 0) (m.outcomes s a)) [
        | inl none ↦ absurd (h 0 failed (stuck none))
        | inr b ↦ absurd (omega (arith, (h 1 (ends b.one) (acted b.member)).0))
      ]
  complete_act a (suc n) s h =
      let outs = m.outcomes s a in
      let some : outs ≡ [] → ⊥ = λ none. h 0 failed (stuck none) in
      let known : a < m.acts = elim (cases_lt a m.acts) [ inl k ↦ k | inr k ↦ absurd (some (law.no_act s a k)) ] in
      let one_less : suc n - 1 ≡ n = omega arith in
      bring m n s a known
      (and_from (some_of outs) (every (within m n) outs) (some_from outs some)
      (every_from (within m n) outs (λ t i. subst (λ j. T (within m j t)) one_less (h 1 (ends t) (acted i)).1)))

  pub complete : (p : Plan S) (n : ℕ) (s : S) → AllSuffice m n p s → T (within m n s)
  complete skip n s h = let e : n - 0 ≡ n = omega arith in subst (λ j. T (within m j s)) e (h 0 (ends s) skipped).1
  complete (act a) n s h = complete_act a n s h
  complete (choose f p q) n s h =
      elim (decide (f s)) [
        | inl t ↦ complete p n s (λ k e r. h k e (chose_first (so (f s) t) r))
        | inr c ↦ complete q n s (λ k e r. h k e (chose_second c r))
      ]
  complete (andthen p q) n s h = complete p n s (complete_then m p q (complete q) n s h)
