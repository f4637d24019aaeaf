-- From a rank to a plan: of a state within j, a fair plan all of whose runs reach the goal in j acts at most. Assumes
-- nothing.
use Rattle.std.proofs.Common.{ℕ, zero, suc, ◌≤◌, Bool, T, List, [], ◌∷◌, sym, subst, inl, inr, arith}
use mathlib.Core.List.{Memᴰ}
use Rattle.planning.specs.Meaning.{Meaning, Lawful, Alike}
use Rattle.planning.specs.Plans.{Plan, skip, act, choose, andthen, Fair, End, Run, skipped, acted, stuck, broke_off, went_on, EndsWell}
use Rattle.planning.specs.Ranks.{every, some_of, within}
use Rattle.planning.specs.Finding.{listed}
use Rattle.planning.proofs.Tests.{iff, or_rest, or_left, or_right, and_parts}
use Rattle.planning.proofs.Within.{brought, some_alike}
use Rattle.planning.proofs.Runs.{run_choose}

module _ {S : Type 0} (m : Meaning S) where
  abbrev Good : ℕ → ℕ → End S → Type 0
  Good j k e = (k ≤ j) × EndsWell m e

  -- a fair plan that reaches the goal in j acts at most from each state that passes the test
  pub record Reaching (f : S → Bool) (j : ℕ) : Type 0 where
    pub plan : Plan S
    pub fair : Fair m plan
    pub reaches : (s : S) → T (f s) → (k : ℕ) (e : End S) → Run m plan s k e → Good j k e

  run_skip : (j : ℕ) {s : S} {k : ℕ} {e : End S} → T (m.goal s) → Run m skip s k e → Good j k e
  run_skip j t skipped = (omega arith, t)

  -- an act that some outcome follows, and then a plan that is good from each outcome
  run_act : (j a : ℕ) {q : Plan S} {s : S} {k : ℕ} {e : End S} → T (some_of (m.outcomes s a)) → ((t : S) → Memᴰ t (m.outcomes s a) → (l : ℕ) (d : End S) → Run m q t l d → Good j l d) → Run m (andthen (act a) q) s k e → Good (suc j) k e
  run_act j a h each (broke_off (stuck none)) = absurd (subst (λ os. T (some_of os)) none h)
  run_act j a h each (went_on (acted i) r) = let g = each _ i _ _ r in (omega arith, g.1)

  -- an outcome of one of two same states is the same as one of the other's
  listed_alike : {y : S} (xs : List S) {ys : List S} → Alike m.same xs ys → Memᴰ y ys → T (listed m xs y)
  listed_alike [] a (Memᴰ.head e) = absurd a
  listed_alike [] a (Memᴰ.tail i) = absurd a
  listed_alike {y} (x ∷ xs) a (Memᴰ.head e) = or_left (m.same x y) (listed m xs y) (subst (λ z. T (m.same x z)) (sym e) a.0)
  listed_alike {y} (x ∷ xs) a (Memᴰ.tail i) = or_right (m.same x y) (listed m xs y) (listed_alike xs a.1 i)

module _ {S : Type 0} (m : Meaning S) (law : Lawful m) where
  -- a test for each state of a list, and then its plan
  cascade : (j : ℕ) → ((s : S) → T (within m j s) → Reaching m (m.same s) j) → (os : List S) → T (every (within m j) os) → Reaching m (listed m os) j
  cascade j plans [] h = record { plan = skip; fair = tt; reaches = λ s t. absurd t }
  cascade j plans (o ∷ os) h =
      let parts = and_parts (within m j o) (every (within m j) os) h in
      let first = plans o parts.0 in
      let rest = cascade j plans os parts.1 in
      record {
        plan = choose (m.same o) first.plan rest.plan;
        fair = (
          λ s t e. iff (m.same o s) (m.same o t) (λ u. law.transitive o s t u e) (λ u. law.transitive o t s u (law.symmetric s t e)),
          first.fair,
          rest.fair,
        );
        reaches = λ s t k e r.
            elim (run_choose m r) [
              | inl c ↦ first.reaches s c.0 k e c.1
              | inr c ↦ rest.reaches s (or_rest (m.same o s) (listed m os s) c.0 t) k e c.1
            ];
      }

  pub sound : (j : ℕ) (s : S) → T (within m j s) → Reaching m (m.same s) j
  sound zero s h = record { plan = skip; fair = tt; reaches = λ t u k e r. run_skip m 0 (subst T (law.same_goal s t u) h) r }
  sound (suc j) s h =
      elim (brought m j s h) [
        | inl w ↦ let p = sound j s w in record { plan = p.plan; fair = p.fair; reaches = λ t u k e r. let g = p.reaches t u k e r in (omega arith, g.1) }
        | inr b ↦
            let p = cascade j (sound j) (m.outcomes s b.by) b.each in
            record {
              plan = andthen (act b.by) p.plan;
              fair = (tt, p.fair);
              reaches = λ t u k e r.
                  let xs = m.outcomes s b.by in
                  let ys = m.outcomes t b.by in
                  let alike = law.same_outcomes s t b.by u in
                  run_act m j b.by (subst T (some_alike m xs ys alike) b.usable) (λ o i. p.reaches o (listed_alike m xs alike i)) r;
            }
      ]
