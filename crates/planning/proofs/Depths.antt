-- The start's rank is the least depth of a strong plan, and blank where there is none. Assumes nothing.
use Rattle.std.proofs.Common.{ℕ, ◌-◌, ◌≤◌, T, Some, None, inl, inr, arith}
use Rattle.std.proofs.lemmas.Bool.{cases_lt}
use Rattle.planning.specs.Meaning.{Meaning, Lawful}
use Rattle.planning.specs.Plans.{Plan, End, failed, ends, Run, EndsWell, Strong, AtMost, LeastDepth, NoStrongPlan}
use Rattle.planning.specs.Ranks.{within, Ranked}
use Rattle.planning.proofs.Tests.{clash, fails}
use Rattle.planning.proofs.Within.{within_more}
use Rattle.planning.proofs.Runs.{longest}
use Rattle.planning.proofs.Soundness.{sound}
use Rattle.planning.proofs.Completeness.{Suffices, complete}

module _ {S : Type 0} (m : Meaning S) where
  suffices_goal : (n k : ℕ) (e : End S) → k ≤ n → EndsWell m e → Suffices m n k e
  suffices_goal n k failed h t = t
  suffices_goal n k (ends u) h t = (h, within_more m 0 (n - k) u (omega arith) t)

module _ {S : Type 0} (m : Meaning S) (law : Lawful m) where
  to_plan : (d : ℕ) → T (within m d m.start) → (p : Plan S) × (Strong m p × AtMost m d p)
  to_plan d t =
      let p = sound m law d m.start t in
      let runs = p.reaches m.start (law.reflexive m.start) in
      (p.plan, (record { fair = p.fair; reaches = λ k e r. (runs k e r).1 }, λ k e r. (runs k e r).0))

  from_plan : (d : ℕ) (p : Plan S) → Strong m p → AtMost m d p → T (within m d m.start)
  from_plan d p strong most = complete m law p d m.start (λ k e r. suffices_goal m d k e (most k e r) (strong.reaches k e r))

  -- a plan has a depth, the acts of a run that does most
  deepest : (p : Plan S) → (d : ℕ) × (AtMost m d p × ((e : End S) × Run m p m.start d e))
  deepest p =
      let x = longest m (λ _. 0) p m.start in
      (x.count, (λ k e r. omega (arith, x.most k e r), (x.end, x.run)))

  pub depth_from_rank : (d : ℕ) → Ranked m m.start (Some d) → LeastDepth m d
  depth_from_rank d h = (
    to_plan d h.0,
    λ p strong.
        let x = deepest p in
        let t = from_plan x.0 p strong x.1.0 in
        let least : d ≤ x.0 =
        elim (cases_lt x.0 d) [ inl l ↦ absurd (clash (within m x.0 m.start) (h.1 x.0 l) t) | inr l ↦ l ] in
        (x.0, (x.1.1.0, (x.1.1.1, least))),
  )

  pub rank_from_depth : (d : ℕ) → LeastDepth m d → Ranked m m.start (Some d)
  rank_from_depth d h =
      let p = h.0 in (
        from_plan d p.0 p.1.0 p.1.1,
        λ k l. fails (within m k m.start) (λ t.
            let q = to_plan k t in
            let x = h.1 q.0 q.1.0 in
            omega (arith, q.1.1 x.0 x.1.0 x.1.1.0)),
      )

  pub none_from_blank : Ranked m m.start None → NoStrongPlan m
  none_from_blank blank p strong = let x = deepest p in clash (within m x.0 m.start) (blank x.0) (from_plan x.0 p strong x.1.0)

  pub blank_from_none : NoStrongPlan m → Ranked m m.start None
  blank_from_none no-plan k = fails (within m k m.start) (λ t. let q = to_plan k t in no-plan q.0 q.1.0)
