-- Finite plans, their runs, and what it is to achieve the goal strongly. Assumes nothing.
use Rattle.std.specs.Prelude.{◌≡◌, ℕ, ◌+◌, ◌≤◌, Bool, true, false, T, []}
use mathlib.Core.List.{Memᴰ}
use Rattle.planning.specs.Meaning.{Meaning}

-- a finite plan: nothing to do, one act, a test with a plan for each answer, or one plan after another
pub data Plan (S : Type 0) : Type 0 where
  skip : Plan S
  act : ℕ → Plan S
  choose : (S → Bool) → Plan S → Plan S → Plan S
  andthen : Plan S → Plan S → Plan S

-- a test is alike for same states, at each choice of the plan
abbrev pub Fair : {S : Type 0} → Meaning S → Plan S → Type 0
Fair m skip = Unit {0}
Fair m (act a) = Unit {0}
Fair {S} m (choose f p q) = ((s t : S) → T (m.same s t) → f s ≡ f t) × Fair m p × Fair m q
Fair m (andthen p q) = Fair m p × Fair m q

-- how a run ends
pub data End (S : Type 0) : Type 0 where
  failed : End S
  ends : S → End S

-- Run m p s k e: some run of p from s does k acts and ends as e
pub data Run {S : Type 0} (m : Meaning S) : Plan S → S → ℕ → End S → Type 0 where
  skipped : {s : S} → Run m skip s 0 (ends s)
  acted : {s t : S} {a : ℕ} → Memᴰ t (m.outcomes s a) → Run m (act a) s 1 (ends t)
  stuck : {s : S} {a : ℕ} → m.outcomes s a ≡ [] → Run m (act a) s 0 failed
  chose_first : {f : S → Bool} {p q : Plan S} {s : S} {k : ℕ} {e : End S} → f s ≡ true → Run m p s k e → Run m (choose f p q) s k e
  chose_second : {f : S → Bool} {p q : Plan S} {s : S} {k : ℕ} {e : End S} → f s ≡ false → Run m q s k e → Run m (choose f p q) s k e
  broke_off : {p q : Plan S} {s : S} {k : ℕ} → Run m p s k failed → Run m (andthen p q) s k failed
  went_on : {p q : Plan S} {s t : S} {k l : ℕ} {e : End S} → Run m p s k (ends t) → Run m q t l e → Run m (andthen p q) s (k + l) e

-- a run has ended at a goal
abbrev pub EndsWell : {S : Type 0} → Meaning S → End S → Type 0
EndsWell m failed = ⊥
EndsWell m (ends t) = T (m.goal t)

-- the plan strongly achieves the goal: from the start no run fails, and every run ends at a goal
pub record Strong {S : Type 0} (m : Meaning S) (p : Plan S) : Type 0 where
  pub fair : Fair m p
  pub reaches : (k : ℕ) (e : End S) → Run m p m.start k e → EndsWell m e

module _ {S : Type 0} (m : Meaning S) where
  -- no run of the plan from the start has more than d acts
  abbrev pub AtMost : ℕ → Plan S → Type 0
  AtMost d p = (k : ℕ) (e : End S) → Run m p m.start k e → k ≤ d

  -- some run of the plan from the start has d acts or more
  abbrev pub AtLeast : ℕ → Plan S → Type 0
  AtLeast d p = (k : ℕ) × ((e : End S) × (Run m p m.start k e × (d ≤ k)))

  -- no plan achieves the goal strongly
  abbrev pub NoStrongPlan : Type 0
  NoStrongPlan = (p : Plan S) → Strong m p → ⊥

  -- d acts suffice for a strong plan, and fewer do not
  abbrev pub LeastDepth : ℕ → Type 0
  LeastDepth d = ((p : Plan S) × (Strong m p × AtMost d p)) × ((p : Plan S) → Strong m p → AtLeast d p)
