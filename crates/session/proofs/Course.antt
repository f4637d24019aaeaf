-- The closed form says how a search goes unit by unit. Assumes nothing.
use Rattle.std.proofs.Common.{◌≡◌, ℕ, zero, suc, ◌+◌, ◌-◌, ◌*◌, ◌<◌, ◌≤◌, List, length, take, Some, None, Option, sym, refl, ap, ◌∙◌, subst, ap₂, inl, inr, suc-mul, mul_comm, mul-le-mul_left, mul-add, arith}
use Rattle.std.specs.List.{slice_get}
use Rattle.std.proofs.lemmas.List.{length-take-le}
use Rattle.std.proofs.lemmas.Bool.{cases_lt}
use Rattle.std.proofs.lemmas.Option.{slice_get_within}
use Rattle.planning.specs.Meaning.{Meaning, Lawful}
use Rattle.planning.specs.Finding.{found, Final}
use Rattle.planning.specs.Ranks.{within, Ranked, Largest, rank_by, largest}
use Rattle.planning.proofs.Tests.{clash}
use Rattle.planning.proofs.Within.{one_rank, within_more}
use Rattle.planning.proofs.Places.{short_stays}
use Rattle.planning.proofs.Ranking.{rank_none}
use Rattle.planning.proofs.Deepest.{deepest_most, rank_stays}
use Rattle.planning.proofs.Bridges.{ranked_some, largest_is}
use Rattle.planning.proofs.Settled.{decided, act_given, one_largest, start_rank}
use Rattle.session.specs.ClosedForm.{standing_of, total_units, row_by, rows_from, progress, known, known_rows}
use Rattle.session.specs.Course.{Expands, StopsFull, Sweeps, Ends, RanksTold, Course}
use Rattle.session.proofs.Levels.{level, level_is, level_none, rows_at}
use Rattle.session.proofs.Phases.{Reach, longer, reach_low, when_open, when_full, when_final, settle_working, settle_done}
use Rattle.session.proofs.Ranking.{rank_some}
use Rattle.session.proofs.Standings.{known_open, known_full, known_final}
use Rattle.session.proofs.Settling.{reach_final}

module _ {S : Type 0} (m : Meaning S) where
  -- the row at a place, where the listed states and the units are known
  row_level : (n u w r : ℕ) (ts : List S) → known m n u ≡ ts → length ts ≡ r → (progress m n u).units ≡ w → (p : ℕ) (s : S) → slice_get ts p ≡ Some s → slice_get (known_rows m n u) p ≡ Some (row_by m (level r w p) s)
  row_level n u w r ts k l e p s at =
      let z : 0 + p ≡ p = omega arith in
      ap (λ xs. slice_get (rows_from m (length xs) (progress m n u).units 0 xs) p) k
      ∙ ap₂ (λ a b. slice_get (rows_from m a b 0 ts) p) l e
      ∙ rows_at m r w 0 ts p s at
      ∙ ap (λ i. Some (row_by m (level r w i) s)) z

  -- a list that has a place left to expand had one before
  reach_more : (u i : ℕ) → u < length (found m u) → i ≤ u → i < length (found m i)
  reach_more u i more l =
      elim (cases_lt i (length (found m i))) [
        | inl h ↦ h
        | inr h ↦ let e = ap length (short_stays m i u l h) in absurd (omega arith)
      ]

  reach_open : (n u : ℕ) → u < length (found m u) → length (found m u) ≤ n → Reach m n (suc u)
  reach_open n u more fits i l = record { fits = omega (arith, longer m i u (omega arith)); more = reach_more u i more (omega arith) }

  expands_at : (n u : ℕ) → u < length (found m u) → length (found m u) ≤ n → Expands m n u
  expands_at n u more fits =
      let h = reach_open n u more fits in
      let k = known_open m n u h in
      let e = when_open m n u h in
      record {
        stands = e;
        lists = k;
        rows = λ p s at. row_level n u u (length (found m u)) (found m u) k refl (ap (λ w. w.units) e) p s at ∙ ap (λ j. Some (row_by m j s)) (level_none (length (found m u)) u p (omega arith) (omega arith));
      }

  -- a list that outgrows n for the first time at f has had a place to expand at every unit before
  reach_full : (n f : ℕ) → n < length (found m f) → ((k : ℕ) → k < f → length (found m k) ≤ n) → Reach m n f
  reach_full n f over fits i l =
      record {
        fits = fits i l;
        more =
            elim (cases_lt i (length (found m i))) [
              | inl h ↦ h
              | inr h ↦ let e = ap length (short_stays m i f (omega arith) h) in absurd (omega (arith, fits i l))
            ];
      }

  full_at : (n f u : ℕ) → n < length (found m f) → ((k : ℕ) → k < f → length (found m k) ≤ n) → f ≤ u → StopsFull m n f u
  full_at n f u over fits l =
      let h = reach_full n f over fits in
      let ts = take n (found m f) in
      let k = known_full m n u f h over l in
      let e = when_full m n u f h over l in
      let long : length ts ≡ n = length-take-le n (found m f) (omega arith) in
      let low = reach_low m n f h in
      record {
        stands = e;
        lists = k;
        rows = λ p s at.
            row_level n u f (length ts) ts k refl (ap (λ w. w.units) e) p s at
            ∙ ap (λ j. Some (row_by m j s)) (level_none (length ts) f p (omega (arith, slice_get_within ts p s at)) (omega arith));
      }

  ranks_told : RanksTold m
  ranks_told =
      record {
        given = λ j k s h l. go j k s h l (rank_by m j s) refl;
        true_rank = λ j k s e. (ranked_some m j s k e, (rank_some m j s k e).most);
      }
    where
      go : (j k : ℕ) (s : S) → Ranked m s (Some k) → k ≤ j → (o : Option ℕ) → rank_by m j s ≡ o → rank_by m j s ≡ Some k
      go j k s h l None e = absurd (clash (within m j s) (rank_none m j s e) (within_more m k j s l h.0))
      go j k s h l (Some i) e = e ∙ ap Some (one_rank m s i k (ranked_some m j s i e) h)

module _ {S : Type 0} (m : Meaning S) (law : Lawful m) (n r l : ℕ) (final : Final m r) (fits : r ≤ n) (deepest : Largest m r l) where
  reach : Reach m n r
  reach = reach_final m n r final fits

  deep : largest m (found m r) ≡ l
  deep = one_largest m r (largest m (found m r)) l (largest_is m law r final) deepest

  total_is : total_units r (largest m (found m r)) ≡ total_units r l
  total_is = ap (total_units r) deep

  sweeps_at : (j i : ℕ) → 0 < j → j ≤ suc l → i < r → Sweeps m n r j i
  sweeps_at zero i some most low = absurd (omega arith)
  sweeps_at (suc j) i some most low =
      let a : suc j * r ≡ j * r + r = suc-mul j r in
      let b : r * (l + 2) ≡ r * l + r * 2 = mul-add r l 2 in
      let c : r * j ≤ r * l = mul-le-mul_left {m = j} {n = l} r (omega arith) in
      let d : j * r ≡ r * j = mul_comm j r in
      let u = suc j * r + i in
      let less : u < total_units r (largest m (found m r)) = omega (arith, total_is) in
      let e = when_final m n u r reach final ∙ settle_working m u r less in
      let k = known_final m n u r reach final (omega arith) in
      record {
        stands = e;
        lists = k;
        passed = λ p s h at.
            row_level m n u u r (found m r) k final (ap (λ w. w.units) e) p s at
            ∙ ap (λ q. Some (row_by m q s)) (level_is r u p (suc j) (i - (p + 1)) (omega arith) (omega arith));
        waiting = λ p s h at.
            let z : suc j - 1 ≡ j = omega arith in
            row_level m n u u r (found m r) k final (ap (λ w. w.units) e) p s at
            ∙ ap (λ q. Some (row_by m q s)) (level_is r u p j (r + i - (p + 1)) (omega (arith, slice_get_within (found m r) p s at)) (omega (arith, slice_get_within (found m r) p s at)) ∙ sym z);
      }

  module _ (u : ℕ) (paid : total_units r l ≤ u) where
    end_progress : progress m n u ≡ record { standing = standing_of (rank_by m r m.start); units = total_units r l }
    end_progress =
        when_final m n u r reach final ∙ settle_done m u r (omega (arith, total_is))
        ∙ ap (λ k. record { standing = standing_of (rank_by m r m.start); units = k }) total_is

    end_is : (o : Option ℕ) → Ranked m m.start o → progress m n u ≡ record { standing = standing_of o; units = total_units r l }
    end_is o h = end_progress ∙ ap (λ x. record { standing = standing_of x; units = total_units r l }) (start_rank m law r final o h)

    past : r ≤ u
    past = let a : r * (l + 2) ≡ r * l + r * 2 = mul-add r l 2 in omega arith

    end_known : known m n u ≡ found m r
    end_known = known_final m n u r reach final past

    -- every place has been passed by the sweep that ranked nothing
    end_row : (p : ℕ) (s : S) → slice_get (found m r) p ≡ Some s → slice_get (known_rows m n u) p ≡ Some (row_by m (suc l) s)
    end_row p s at =
        let a : r * (l + 2) ≡ r * l + r * 2 = mul-add r l 2 in
        let b : suc l * r ≡ l * r + r = suc-mul l r in
        let d : l * r ≡ r * l = mul_comm l r in
        let below = slice_get_within (found m r) p s at in
        row_level m n u (total_units r l) r (found m r) end_known final (ap (λ w. w.units) end_progress) p s at
        ∙ ap (λ q. Some (row_by m q s)) (level_is r (total_units r l) p (suc l) (r - (p + 1)) (omega arith) (omega arith))

    end_rank : (p : ℕ) (s : S) → slice_get (found m r) p ≡ Some s → Ranked m s (rank_by m (suc l) s)
    end_rank p s at =
        let stays = rank_stays m law r final p s at in
        let e : rank_by m r s ≡ rank_by m (suc l) s = stays r (deepest_most m law r final) ∙ sym (stays (suc l) (omega (arith, deep))) in
        subst (Ranked m s) e (decided m law r final p s at)

    ends_at : Ends m n r (total_units r l) u
    ends_at =
        record {
          found_is = λ d h. end_is (Some d) h;
          none_is = λ h. end_is None h;
          lists = end_known;
          rows = λ p s at. (row_by m (suc l) s, (end_row p s at, (end_rank p s at, act_given m (suc l) s)));
        }

pub course : {S : Type 0} (m : Meaning S) → Lawful m → Course m
course m law =
    record {
      expanding = expands_at m;
      full = full_at m;
      sweeping = λ n r l final fits deepest. sweeps_at m law n r l final fits deepest;
      ranks = ranks_told m;
      ended = λ n r l final fits deepest u paid. ends_at m law n r l final fits deepest u paid;
    }
