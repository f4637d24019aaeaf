-- What a session that stands after u units holds, by where the search stands. Assumes nothing.
use Rattle.std.proofs.Common.{◌≡◌, ℕ, suc, ◌+◌, ◌<◌, ◌≤◌, T, ◌⊎◌, List, length, take, Some, None, Option, sym, refl, ap, ◌∙◌, subst, inl, inr, arith}
use Rattle.std.proofs.lemmas.List.{take_all}
use Rattle.std.proofs.lemmas.Bool.{cases_lt}
use Rattle.session.specs.declared.plain.Standing.TheVariants.{Working, Full}
use Rattle.session.specs.declared.plain.Progress.{Progress}
use Rattle.planning.specs.Meaning.{Meaning}
use Rattle.planning.specs.Finding.{found, Final}
use Rattle.planning.specs.Ranks.{rank_by}
use Rattle.planning.proofs.Growth.{final_stays}
use Rattle.session.specs.ClosedForm.{rows_from, standing_of, progress, known}
use Rattle.session.specs.Views.{View, places}
use Rattle.session.specs.Calls.{concluded, WalkKept, Stands}
use Rattle.session.specs.declared.plain.Walk.{Walk}
use Rattle.session.specs.Joins.{Lists}
use Rattle.session.proofs.Levels.{level_none, rows_level}
use Rattle.session.proofs.Phases.{total, Reach, Phase, expanding, full, final, phase, reach_low, when_open, when_full, when_final, final_some, settle_working, settle_done, total_more}

pub working_none : (o : Option ℕ) → standing_of o ≡ Working → ⊥
working_none None e = let z : ◌≡◌ {A = ℕ} 0 1 = cc in omega arith
working_none (Some d) e = let z : ◌≡◌ {A = ℕ} 0 1 = cc in omega arith

pub working_full : (k : ℕ) → Full k ≡ Working → ⊥
working_full k e = let z : ◌≡◌ {A = ℕ} 0 1 = cc in omega arith

module _ {S : Type 0} (m : Meaning S) where
  -- Stands, at a list ts and at numbers that are given
  pub record Holds (n u : ℕ) (ts : List S) (v : View S) : Type 0 where
    pub places_are : places v ≡ n
    pub known_are : known m n u ≡ ts
    pub progress_is : v.plain.progress ≡ progress m n u
    pub listed_is : v.plain.listed ≡ length ts
    pub states_are : take (length ts) v.states ≡ ts
    pub rows_are : take (length ts) v.rows ≡ rows_from m (length ts) (progress m n u).units 0 ts
    pub walk_is : WalkKept m n (progress m n u) v.plain.walk

  pub stands_from : (n u : ℕ) (ts : List S) (v : View S) → Holds n u ts v → Stands m u v
  stands_from n u ts v h =
      let e = h.places_are in
      let k : known m (places v) u ≡ ts = ap (λ i. known m i u) e ∙ h.known_are in
      let p : progress m n u ≡ progress m (places v) u = ap (λ i. progress m i u) (sym e) in
      record {
        progress_is = h.progress_is ∙ p;
        listed_is = h.listed_is ∙ ap length (sym k);
        states_are = subst (λ ks. take (length ks) v.states ≡ ks) (sym k) h.states_are;
        rows_are = subst (λ ks. take (length ks) v.rows ≡ rows_from m (length ks) (progress m (places v) u).units 0 ks) (sym k) (h.rows_are ∙ ap (λ w. rows_from m (length ts) w.units 0 ts) p);
        walk_is = subst (λ i. WalkKept m i (progress m i u) v.plain.walk) (sym e) h.walk_is;
      }

  pub holds_from : (u : ℕ) (ts : List S) (v : View S) → Stands m u v → known m (places v) u ≡ ts → Holds (places v) u ts v
  holds_from u ts v h k =
      record {
        places_are = refl;
        known_are = k;
        progress_is = h.progress_is;
        listed_is = h.listed_is ∙ ap length k;
        states_are = subst (λ ks. take (length ks) v.states ≡ ks) k h.states_are;
        rows_are = subst (λ ks. take (length ks) v.rows ≡ rows_from m (length ks) (progress m (places v) u).units 0 ks) k h.rows_are;
        walk_is = h.walk_is;
      }

  -- a session without a walk
  pub unwalked : (n : ℕ) (p : Progress) (v : View S) → v.plain.walk ≡ None → WalkKept m n p v.plain.walk
  unwalked n p v e = subst (WalkKept m n p) (sym e) tt

  -- there is no walk while the search goes on
  no_walk_yet : (n : ℕ) (p : Progress) → p.standing ≡ Working → (w : Option Walk) → WalkKept m n p w → w ≡ None
  no_walk_yet n p e None k = refl
  no_walk_yet n p e (Some w) k = absurd (subst T (ap concluded e) k.0)

  -- what is known in each phase
  known_at : (n u k : ℕ) → (progress m n u).units ≡ k → known m n u ≡ take n (found m k)
  known_at n u k e = ap (λ i. take n (found m i)) e

  pub known_open : (n u : ℕ) → Reach m n (suc u) → known m n u ≡ found m u
  known_open n u h = known_at n u u (ap (λ w. w.units) (when_open m n u h)) ∙ take_all n (found m u) (h u (omega arith)).fits

  pub known_full : (n u k : ℕ) → Reach m n k → n < length (found m k) → k ≤ u → known m n u ≡ take n (found m k)
  known_full n u k h o l = known_at n u k (ap (λ w. w.units) (when_full m n u k h o l))

  pub units_final : (n u r : ℕ) → Reach m n r → Final m r → ((progress m n u).units ≡ u) ⊎ ((progress m n u).units ≡ total m r)
  units_final n u r h f =
      elim (cases_lt u (total m r)) [
        | inl l ↦ inl (ap (λ w. w.units) (when_final m n u r h f ∙ settle_working m u r l))
        | inr l ↦ inr (ap (λ w. w.units) (when_final m n u r h f ∙ settle_done m u r l))
      ]

  pub known_final : (n u r : ℕ) → Reach m n r → Final m r → r ≤ u → known m n u ≡ found m r
  known_final n u r h f l =
      let more = total_more m r (final_some m r f) in
      let low = reach_low m n r h in
      let past : r ≤ (progress m n u).units = elim (units_final n u r h f) [ inl e ↦ omega arith | inr e ↦ omega arith ] in
      ap (take n) (final_stays m r (progress m n u).units f past) ∙ take_all n (found m r) (omega arith)

  -- a session that works, and has places to expand
  pub record Expanding (u : ℕ) (v : View S) : Type 0 where
    pub reach : Reach m (places v) (suc u)
    pub units_are : v.plain.progress.units ≡ u
    pub lists : Lists m (found m u) v
    pub no_walk : v.plain.walk ≡ None

  -- a session that works, and has expanded a final list of r states
  pub record Sweeping (u r : ℕ) (v : View S) : Type 0 where
    pub reach : Reach m (places v) r
    pub ends : Final m r
    pub past : r ≤ u
    pub early : u < total m r
    pub units_are : v.plain.progress.units ≡ u
    pub listed_are : v.plain.listed ≡ r
    pub states_are : take r v.states ≡ found m r
    pub rows_are : take r v.rows ≡ rows_from m r u 0 (found m r)
    pub no_walk : v.plain.walk ≡ None

  expanding_from : (u : ℕ) (v : View S) → Stands m u v → Reach m (places v) (suc u) → Expanding u v
  expanding_from u v h reach =
      let o = reach u (omega arith) in
      let ts = found m u in
      let units : (progress m (places v) u).units ≡ u = ap (λ w. w.units) (when_open m (places v) u reach) in
      let k = holds_from u ts v h (known_open (places v) u reach) in
      record {
        reach = reach;
        units_are = ap (λ w. w.units) h.progress_is ∙ units;
        no_walk = no_walk_yet (places v) (progress m (places v) u) (ap (λ w. w.standing) (when_open m (places v) u reach)) v.plain.walk h.walk_is;
        lists =
            record {
              count = k.listed_is;
              fits = o.fits;
              states_are = k.states_are;
              rows_are = k.rows_are ∙ ap (λ i. rows_from m (length ts) i 0 ts) units ∙ rows_level m (length ts) u 0 0 ts (λ p a b. level_none (length ts) u p (omega (arith, o.more)) (omega (arith, o.more)));
            };
      }

  sweeping_from : (u r : ℕ) (v : View S) → Stands m u v → Reach m (places v) r → Final m r → r ≤ u → u < total m r → Sweeping u r v
  sweeping_from u r v h reach f l t =
      let e = when_final m (places v) u r reach f ∙ settle_working m u r t in
      let units : (progress m (places v) u).units ≡ u = ap (λ w. w.units) e in
      let k = holds_from u (found m r) v h (known_final (places v) u r reach f l) in
      record {
        reach = reach;
        ends = f;
        past = l;
        early = t;
        units_are = ap (λ w. w.units) h.progress_is ∙ units;
        listed_are = k.listed_is ∙ f;
        states_are = subst (λ i. take i v.states ≡ found m r) f k.states_are;
        rows_are = subst (λ i. take i v.rows ≡ rows_from m i u 0 (found m r)) f (k.rows_are ∙ ap (λ i. rows_from m (length (found m r)) i 0 (found m r)) units);
        no_walk = no_walk_yet (places v) (progress m (places v) u) (ap (λ w. w.standing) e) v.plain.walk h.walk_is;
      }

  -- which of the two it is
  pub works : (u : ℕ) (v : View S) → Stands m u v → v.plain.progress.standing ≡ Working → Expanding u v ⊎ ((r : ℕ) × Sweeping u r v)
  works u v h w = go (phase m (places v) u)
    where
      go : Phase m (places v) u → Expanding u v ⊎ ((r : ℕ) × Sweeping u r v)
      go (expanding reach) = inl (expanding_from u v h reach)
      go (full k reach o l) = absurd (working_full k (ap (λ p. p.standing) (sym (h.progress_is ∙ when_full m (places v) u k reach o l)) ∙ w))
      go (final r reach f l) =
          elim (cases_lt u (total m r)) [
            | inl t ↦ inr (r, sweeping_from u r v h reach f l t)
            | inr t ↦ absurd (working_none (rank_by m r m.start) (ap (λ p. p.standing) (sym (h.progress_is ∙ when_final m (places v) u r reach f ∙ settle_done m u r t)) ∙ w))
          ]

  pub expands : (u : ℕ) (v : View S) → Stands m u v → v.plain.progress.standing ≡ Working → v.plain.progress.units < v.plain.listed → Expanding u v
  expands u v h w l = elim (works u v h w) [ inl e ↦ e | inr s ↦ absurd (omega (arith, s.1.units_are, s.1.listed_are, s.1.past)) ]

  pub sweeps : (u : ℕ) (v : View S) → Stands m u v → v.plain.progress.standing ≡ Working → v.plain.listed ≤ v.plain.progress.units → (r : ℕ) × Sweeping u r v
  sweeps u v h w l = elim (works u v h w) [ inl e ↦ absurd (omega (arith, e.units_are, e.lists.count, (e.reach u (omega arith)).more)) | inr s ↦ s ]

  -- once it is decided, more units alter nothing
  pub decided : (u q : ℕ) (v : View S) → Stands m u v → (v.plain.progress.standing ≡ Working → ⊥) → Stands m (u + q) v
  decided u q v h w = go (phase m (places v) u)
    where
      same : progress m (places v) u ≡ progress m (places v) (u + q) → Stands m (u + q) v
      same e =
          let k : known m (places v) u ≡ known m (places v) (u + q) = ap (λ p. take (places v) (found m p.units)) e in
          stands_from (places v) (u + q) (known m (places v) u) v
          (let a = holds_from u (known m (places v) u) v h refl in
          record {
            places_are = refl;
            known_are = sym k;
            progress_is = a.progress_is ∙ e;
            listed_is = a.listed_is;
            states_are = a.states_are;
            rows_are = a.rows_are ∙ ap (λ p. rows_from m (length (known m (places v) u)) p.units 0 (known m (places v) u)) e;
            walk_is = subst (λ p. WalkKept m (places v) p v.plain.walk) e a.walk_is;
          })

      go : Phase m (places v) u → Stands m (u + q) v
      go (expanding reach) = absurd (w (ap (λ p. p.standing) (h.progress_is ∙ when_open m (places v) u reach)))
      go (full k reach o l) = same (when_full m (places v) u k reach o l ∙ sym (when_full m (places v) (u + q) k reach o (omega arith)))
      go (final r reach f l) =
          elim (cases_lt u (total m r)) [
            | inl t ↦ absurd (w (ap (λ p. p.standing) (h.progress_is ∙ when_final m (places v) u r reach f ∙ settle_working m u r t)))
            | inr t ↦ same ((when_final m (places v) u r reach f ∙ settle_done m u r t) ∙ sym (when_final m (places v) (u + q) r reach f ∙ settle_done m (u + q) r (omega arith)))
          ]
