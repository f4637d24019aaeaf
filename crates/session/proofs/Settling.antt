-- A search that has gone to its end within n places: what it knows then, and that this is what the promise calls
-- finished. Assumes nothing.
use Rattle.std.proofs.Common.{◌≡◌, ℕ, ◌+◌, ◌*◌, ◌≤◌, false, T, length, sym, refl, ap, ◌∙◌, subst, inl, inr, arith}
use Rattle.std.proofs.lemmas.Bool.{cases_lt}
use Rattle.session.specs.declared.plain.Standing.TheVariants.{Full}
use Rattle.session.specs.declared.plain.Progress.{Progress}
use Rattle.planning.specs.Meaning.{Meaning, Lawful}
use Rattle.planning.specs.Finding.{found, Final}
use Rattle.planning.specs.Ranks.{rank_by, largest}
use Rattle.planning.proofs.Places.{short_stays}
use Rattle.planning.proofs.Bridges.{largest_is}
use Rattle.planning.proofs.Settled.{one_largest}
use Rattle.session.specs.ClosedForm.{standing_of, progress, known}
use Rattle.session.specs.Calls.{concluded}
use Rattle.session.specs.Promise.{Finished}
use Rattle.session.proofs.Phases.{working, total, Reach, Phase, expanding, full, final, phase, reach_low, when_open, when_full, when_final, longer, final_some, settle_working, settle_done, total_more}
use Rattle.session.proofs.Standings.{known_final}

module _ {S : Type 0} (m : Meaning S) where
  -- a final list that fits is come to
  pub reach_final : (n r : ℕ) → Final m r → r ≤ n → Reach m n r
  reach_final n r f h i l =
      record {
        fits = omega (arith, longer m i r (omega arith));
        more = elim (cases_lt i (length (found m i))) [ inl k ↦ k | inr k ↦ absurd (short k) ];
      }
    where
      short : length (found m i) ≤ i → ⊥
      short k = let e = ap length (short_stays m i r (omega arith) k) in omega arith

  -- the finding list ends with count states, all of them fit, and u units pay for all sweeps
  pub record Settled (n u : ℕ) : Type 0 where
    pub count : ℕ
    pub reach : Reach m n count
    pub ends : Final m count
    pub paid : total m count ≤ u

  module _ (n u : ℕ) where
    pub settled_progress : (c : Settled n u) → progress m n u ≡ record { standing = standing_of (rank_by m c.count m.start); units = total m c.count }
    settled_progress c = when_final m n u c.count c.reach c.ends ∙ settle_done m u c.count c.paid

    pub settled_known : (c : Settled n u) → known m n u ≡ found m c.count
    settled_known c = known_final m n u c.count c.reach c.ends (omega (arith, total_more m c.count (final_some m c.count c.ends), c.paid))

    -- more units alter nothing
    pub more_units : (q : ℕ) → Settled n u → progress m n u ≡ progress m n (u + q)
    more_units q c = settled_progress c ∙ sym (when_final m n (u + q) c.count c.reach c.ends ∙ settle_done m (u + q) c.count (omega (arith, c.paid)))

    none_concluded : (p : Progress) → progress m n u ≡ p → concluded p.standing ≡ false → T (concluded (progress m n u).standing) → ⊥
    none_concluded p e f t = subst T (ap (λ x. concluded x.standing) e ∙ f) t

    pub settled_from : T (concluded (progress m n u).standing) → Settled n u
    settled_from t = go (phase m n u)
      where
        go : Phase m n u → Settled n u
        go (expanding reach) = absurd (none_concluded (working u) (when_open m n u reach) refl t)
        go (full k reach o l) = absurd (none_concluded (record { standing = Full k; units = k }) (when_full m n u k reach o l) refl t)
        go (final r reach f l) =
            elim (cases_lt u (total m r)) [
              | inl h ↦ absurd (none_concluded (working u) (when_final m n u r reach f ∙ settle_working m u r h) refl t)
              | inr h ↦ record { count = r; reach = reach; ends = f; paid = h }
            ]

module _ {S : Type 0} (m : Meaning S) (law : Lawful m) (n u : ℕ) where
  pub finished_from : Settled m n u → Finished m n u
  finished_from c =
      record {
        count = c.count;
        deepest = largest m (found m c.count);
        final = c.ends;
        fits = reach_low m n c.count c.reach;
        is_deepest = largest_is m law c.count c.ends;
        paid = c.paid;
      }

  pub settled_of : Finished m n u → Settled m n u
  settled_of f =
      let e : largest m (found m f.count) ≡ f.deepest = one_largest m f.count (largest m (found m f.count)) f.deepest (largest_is m law f.count f.final) f.is_deepest in
      record {
        count = f.count;
        reach = reach_final m n f.count f.final f.fits;
        ends = f.final;
        paid = subst (λ l. f.count * (l + 2) ≤ u) (sym e) f.paid;
      }
