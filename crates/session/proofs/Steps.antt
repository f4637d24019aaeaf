-- One unit of work takes a session that stands after u units to one that stands after u + 1. Assumes nothing.
use Rattle.std.proofs.Common.{◌≡◌, ℕ, suc, ◌+◌, ◌-◌, ◌*◌, ◌/◌, ◌%◌, ◌<◌, ◌≤◌, min, Bool, true, false, cond, T, eqb, List, map, length, get_or, take, drop, set, Some, None, sym, refl, ap, ◌∙◌, subst, ap₂, inl, inr, mod-lt, suc-mul, mul_comm, mul-le-mul_left, arith}
use native.Mathlib.Nat.{mul-mod_right, mul-lt-mul_of_pos_left}
use lib.Seq.{take-set-lt}
use Rattle.std.specs.List.{slice_get}
use Rattle.std.proofs.lemmas.Option.{slice_get-get_or, slice_get_within}
use Rattle.std.proofs.lemmas.Nat.{div-add-mod', le-div, mod-mul-add, div_below, mul-le}
use Rattle.std.proofs.lemmas.List.{length-set, length-take-le, drop-set-lt}
use Rattle.std.proofs.lemmas.Bool.{cases_lt, cases_eq, eq-eqb, ne_eqb}
use Rattle.session.specs.declared.plain.Row.{Row}
use Rattle.session.specs.declared.plain.Standing.{Standing}
use Rattle.session.specs.declared.plain.Standing.TheVariants.{Working, Full}
use Rattle.planning.specs.Meaning.{Meaning, Lawful}
use Rattle.planning.specs.Finding.{expanded, joined_all, outcomes_from, found}
use Rattle.planning.specs.Ranks.{within, largest, rank_by, gains}
use Rattle.planning.proofs.Tests.{holds, clash}
use Rattle.planning.proofs.Lists.{nth_take}
use Rattle.planning.proofs.Places.{start_first}
use Rattle.planning.proofs.Deepest.{deepest_most, deepest_each, deepest_end, rank_stays}
use Rattle.session.specs.ClosedForm.{row_by, rows_from, standing_of, settle, progress, known}
use Rattle.session.specs.Views.{View, places}
use Rattle.session.specs.Calls.{Stands}
use Rattle.session.specs.Joins.{Keeps, Lists, Tried, Joins}
use Rattle.session.specs.Judging.{row_below, has_rank, standing_by, visited}
use Rattle.session.specs.Units.{outlook}
use Rattle.session.proofs.Joining.{same_places}
use Rattle.session.proofs.Judged.{visited_sets}
use Rattle.session.proofs.Ranking.{below_by, below_next, rank_gains}
use Rattle.session.proofs.Telling.{visited_told}
use Rattle.session.proofs.Levels.{level, level_none, level_before, level_after, level_there, level_later, rows_level, rows_at, rows_set}
use Rattle.session.proofs.Phases.{working, total, Reach, more_reach, reach_low, reach_long, when_open, when_full, when_final, final_some, settle_working, settle_done, total_more}
use Rattle.session.proofs.Standings.{stands_from, unwalked, Expanding, Sweeping, known_open, known_full, known_final}

-- a session after a unit
abbrev pub moved : {S : Type 0} → View S → Standing → ℕ → View S
moved w st k = record { states = w.states; rows = w.rows; plain = record { listed = w.plain.listed; progress = record { standing = st; units = k }; walk = w.plain.walk } }

pub keeps_moved : {S : Type 0} (v w : View S) (st : Standing) (k : ℕ) → Keeps v w → Keeps v (moved w st k)
keeps_moved v w st k a = record { walk = a.walk; grows = a.grows; rest = record { states_length = a.rest.states_length; rows_length = a.rest.rows_length; unused_states = a.rest.unused_states; unused_rows = a.rest.unused_rows } }

module _ {S : Type 0} (m : Meaning S) where
  -- the fresh rows of a list, as rows after u units
  fresh_rows : (u : ℕ) (ts : List S) → 0 < length ts → u ≤ length ts → rows_from m (length ts) u 0 ts ≡ map (row_by m 0) ts
  fresh_rows u ts h l = rows_level m (length ts) u 0 0 ts (λ p a b. level_none (length ts) u p h l)

  -- the list fits after the unit
  module _ (n u : ℕ) (w : View S) (pl : places w ≡ n) (h : Reach m n (suc u)) (l : Lists m (found m (suc u)) w) (no_walk : w.plain.walk ≡ None) where
    fits_long : suc u ≤ length (found m (suc u))
    fits_long = reach_long m n (suc u) h

    fits_holds : known m n (suc u) ≡ found m (suc u) → progress m n (suc u) ≡ working (suc u) → Stands m (suc u) (moved w Working (suc u))
    fits_holds k p =
        stands_from m n (suc u) (found m (suc u)) (moved w Working (suc u))
        (record {
          places_are = pl;
          known_are = k;
          progress_is = sym p;
          listed_is = l.count;
          states_are = l.states_are;
          rows_are = l.rows_are ∙ sym (ap (λ x. rows_from m (length (found m (suc u))) x.units 0 (found m (suc u))) p ∙ fresh_rows (suc u) (found m (suc u)) (omega (arith, fits_long)) fits_long);
          walk_is = unwalked m n (progress m n (suc u)) w no_walk;
        })

    pub fits_stands : Stands m (suc u) (moved w Working (suc u))
    fits_stands =
        elim (cases_eq (length (found m (suc u))) (suc u)) [
          | inl f ↦ fits_holds (known_final m n (suc u) (suc u) h f (omega arith)) (when_final m n (suc u) (suc u) h f ∙ settle_working m (suc u) (suc u) (total_more m (suc u) (omega arith)))
          | inr f ↦
              let low : length (found m (suc u)) ≤ n = omega (arith, l.fits) in
              let r = more_reach m n (suc u) h (record { fits = low; more = omega (arith, fits_long) }) in
              fits_holds (known_open m n (suc u) r) (when_open m n (suc u) r)
        ]

  -- it does not fit
  full_stands : (n u : ℕ) (w : View S) → places w ≡ n → Reach m n (suc u) → n < length (found m (suc u)) → Lists m (take n (found m (suc u))) w → w.plain.walk ≡ None → Stands m (suc u) (moved w (Full (suc u)) (suc u))
  full_stands n u w pl h o l no_walk =
      let ts = take n (found m (suc u)) in
      let p = when_full m n (suc u) (suc u) h o (omega arith) in
      let long : length ts ≡ n = length-take-le n (found m (suc u)) (omega arith) in
      let low = reach_low m n (suc u) h in
      stands_from m n (suc u) ts (moved w (Full (suc u)) (suc u))
      (record {
        places_are = pl;
        known_are = known_full m n (suc u) (suc u) h o (omega arith);
        progress_is = sym p;
        listed_is = l.count;
        states_are = l.states_are;
        rows_are = l.rows_are ∙ sym (ap (λ x. rows_from m (length ts) x.units 0 ts) p ∙ fresh_rows (suc u) ts (omega arith) (omega arith));
        walk_is = unwalked m n (progress m n (suc u)) w no_walk;
      })

  pub expand_stands : (u : ℕ) (v w : View S) (s : S) (fits : Bool) → Expanding m u v → slice_get v.states u ≡ Some s → Joins m (outcomes_from m s 0 m.acts) v fits w → Stands m (suc u) (moved w (cond fits Working (Full (suc u))) (suc u))
  expand_stands u v w s fits ex at j =
      let ts = found m u in
      let o = ex.reach u (omega arith) in
      let long : u < length ts = o.more in
      let here : slice_get ts u ≡ Some s = ap (λ xs. slice_get xs u) (sym ex.lists.states_are) ∙ nth_take (length ts) v.states u long ∙ at in
      let next : found m (suc u) ≡ joined_all m ts (outcomes_from m s 0 m.acts) = ap (expanded m ts) here in
      let pl = same_places w.plain.listed v w j.keeps.rest in
      go fits pl (subst (λ xs. Tried m fits xs w) (sym next) (j.lists ts ex.lists))
    where
      no_walk : w.plain.walk ≡ None
      no_walk = j.keeps.walk ∙ ex.no_walk

      go : (b : Bool) → places w ≡ places v → Tried m b (found m (suc u)) w → Stands m (suc u) (moved w (cond b Working (Full (suc u))) (suc u))
      go true pl l = fits_stands (places v) u w pl ex.reach l no_walk
      go false pl (over, l) = full_stands (places v) u w pl ex.reach (omega arith) (subst (λ k. Lists m (take k (found m (suc u))) w) pl l) no_walk

module _ {S : Type 0} (m : Meaning S) (law : Lawful m) (v : View S) (u r : ℕ) (sw : Sweeping m u r v) where
  pub ready : 0 < r
  ready = final_some m r sw.ends

  abbrev deep : ℕ
  deep = largest m (found m r)

  pub small : u < 16785408
  small =
      let low = reach_low m (places v) r sw.reach in
      let a = deepest_most m law r sw.ends in
      let b = mul-le r (deep + 2) 4096 4098 (omega arith) (omega arith) in
      omega (arith, sw.early)

  pub turns : u / r < 4099
  turns =
      let low = reach_low m (places v) r sw.reach in
      let a = deepest_most m law r sw.ends in
      let b : u < (deep + 2) * r = subst (λ k. u < k) (mul_comm r (deep + 2)) sw.early in
      omega (arith, div_below u r (deep + 2) ready b)

  abbrev i : ℕ
  i = u % r

  abbrev j : ℕ
  j = u / r - 1

  pub turn : u / r ≡ suc j
  turn = let h = le-div 1 u r ready (omega (arith, sw.past)) in omega arith

  split : u ≡ suc j * r + i
  split = sym (div-add-mod' u r) ∙ ap (λ k. k * r + i) turn

  pub low : i < r
  low = mod-lt u ready

  abbrev here : S
  here = get_or (found m r) i m.start

  at : slice_get (found m r) i ≡ Some here
  at = slice_get-get_or (found m r) i m.start (omega (arith, low, sw.ends))

  state_at : slice_get v.states i ≡ Some here
  state_at = sym (nth_take r v.states i low) ∙ ap (λ xs. slice_get xs i) sw.states_are ∙ at

  row_at : (p : ℕ) (t : S) → p < r → slice_get (found m r) p ≡ Some t → slice_get v.rows p ≡ Some (row_by m (level r u p) t)
  row_at p t l e =
      let n : 0 + p ≡ p = omega arith in
      sym (nth_take r v.rows p l) ∙ ap (λ xs. slice_get xs p) sw.rows_are ∙ rows_at m r u 0 (found m r) p t e ∙ ap (λ k. Some (row_by m (level r u k) t)) n

  levels : (p : ℕ) (t : S) → slice_get (found m r) p ≡ Some t → row_below (suc j) (slice_get v.rows p) ≡ within m j t
  levels p t e =
      let l : p < r = omega (arith, slice_get_within (found m r) p t e, sw.ends) in
      ap (row_below (suc j)) (row_at p t l e)
      ∙ elim (cases_lt p i) [
        | inl b ↦ ap (λ k. row_below (suc j) (Some (row_by m k t))) (level_before r u j i split low p b) ∙ below_next m j t
        | inr b ↦ ap (λ k. row_below (suc j) (Some (row_by m k t))) (level_after r u j i split low p b l) ∙ below_by m j t
      ]

  abbrev pub after : View S
  after = record { states = v.states; rows = visited m v i (suc j); plain = v.plain }

  held : take v.plain.listed v.states ≡ found m r
  held = ap (λ k. take k v.states) sw.listed_are ∙ sw.states_are

  written : visited m v i (suc j) ≡ set v.rows i (row_by m (suc j) here)
  written =
      visited_told m law r sw.ends v j held levels i here at state_at (row_at i here low at ∙ ap (λ k. Some (row_by m k here)) (level_after r u j i split low i (omega arith) low))

  rows_after : take r (visited m v i (suc j)) ≡ rows_from m r (u + 1) 0 (found m r)
  rows_after =
      let n : 0 + i ≡ i = omega arith in
      ap (take r) written ∙ take-set-lt r v.rows i (row_by m (suc j) here) low ∙ ap (λ xs. set xs i (row_by m (suc j) here)) sw.rows_are
      ∙ ap (λ k. set (rows_from m r u 0 (found m r)) i (row_by m k here)) (sym (ap (level r (u + 1)) n ∙ level_there r u j i split low i (omega arith)))
      ∙ rows_set m r u (u + 1) 0 (found m r) i here at
      (λ p a b c.
      let l : p < r = omega (arith, sw.ends) in
      elim (cases_lt p i) [
        | inl d ↦ level_before r u j i split low p d ∙ sym (level_there r u j i split low p (omega arith))
        | inr d ↦ level_after r u j i split low p d l ∙ sym (level_later r u j i split low p (omega arith) l)
      ])

  -- the end of a sweep
  module _ (zero_left : (u + 1) % r ≡ 0) where
    whole : i + 1 ≡ r
    whole =
        elim (cases_lt (i + 1) r) [
          | inl l ↦
              let e : u + 1 ≡ suc j * r + (i + 1) = omega (arith, split) in
              let f = ap (λ k. k % r) e ∙ mod-mul-add (suc j) r (i + 1) l in
              absurd (omega (arith, f, zero_left))
          | inr l ↦ omega (arith, low)
        ]

    spent : u + 1 ≡ r * suc (suc j)
    spent = let a = suc-mul (suc j) r in let b = mul_comm (suc (suc j)) r in omega (arith, split, whole)

    not_past : j ≤ deep
    not_past =
        elim (cases_lt deep j) [
          | inl l ↦ let a = mul-le-mul_left {m = deep + 2} {n = suc j} r (omega arith) in let b = mul_comm (suc j) r in absurd (omega (arith, split, sw.early))
          | inr l ↦ l
        ]

    level_all : (p : ℕ) → p < r → level r (u + 1) p ≡ suc j
    level_all p l = level_there r u j i split low p (omega (arith, whole))

    gained_is : has_rank (suc j) (take v.plain.listed (visited m v i (suc j))) ≡ gains m j (found m r)
    gained_is =
        ap (λ k. has_rank (suc j) (take k (visited m v i (suc j)))) sw.listed_are ∙ ap (has_rank (suc j)) rows_after
        ∙ ap (has_rank (suc j)) (rows_level m r (u + 1) (suc j) 0 (found m r) (λ p a b. level_all p (omega (arith, sw.ends)))) ∙ rank_gains m j (found m r)

    first_row : slice_get (visited m v i (suc j)) 0 ≡ Some (row_by m (suc j) m.start)
    first_row =
        sym (nth_take r (visited m v i (suc j)) 0 ready) ∙ ap (λ xs. slice_get xs 0) rows_after ∙ rows_at m r (u + 1) 0 (found m r) 0 m.start (start_first m r)
        ∙ ap (λ k. Some (row_by m k m.start)) (level_all 0 ready)

    at_end : settle m (u + 1) r ≡ record { standing = outlook after (suc j) true; units = u + 1 }
    at_end = go (gains m j (found m r)) refl
      where
        settled : j ≡ deep → rank_by m (suc j) m.start ≡ rank_by m r m.start
        settled e =
            rank_stays m law r sw.ends 0 m.start (start_first m r) (suc j) (omega arith) ∙ sym (rank_stays m law r sw.ends 0 m.start (start_first m r) r (deepest_most m law r sw.ends))

        go : (b : Bool) → gains m j (found m r) ≡ b → settle m (u + 1) r ≡ record { standing = outlook after (suc j) true; units = u + 1 }
        go true g =
            let ne : j ≡ deep → ⊥ = λ e. clash (gains m deep (found m r)) (deepest_end m law r sw.ends) (subst (λ k. T (gains m k (found m r))) e (holds (gains m j (found m r)) g)) in
            let l : j < deep = elim (cases_eq j deep) [ inl e ↦ absurd (ne e) | inr e ↦ omega (arith, not_past) ] in
            let t = mul-lt-mul_of_pos_left {m = suc (suc j)} {n = deep + 2} {k = r} (omega arith) ready in
            settle_working m (u + 1) r (omega (arith, spent))
            ∙ ap (λ x. record { standing = x; units = u + 1 }) (sym (ap (λ b. cond b Working (standing_by (slice_get (visited m v i (suc j)) 0))) (gained_is ∙ g)))
        go false g =
            let l : deep ≤ j = elim (cases_lt j deep) [ inl d ↦ absurd (clash (gains m j (found m r)) g (deepest_each m law r sw.ends j d)) | inr d ↦ d ] in
            let e : j ≡ deep = omega (arith, not_past) in
            let x : suc (suc j) ≡ deep + 2 = omega arith in
            let t : u + 1 ≡ total m r = spent ∙ ap (λ k. r * k) x in
            settle_done m (u + 1) r (omega arith)
            ∙ ap (λ k. record { standing = standing_of (rank_by m r m.start); units = k }) (sym t)
            ∙ ap (λ x. record { standing = x; units = u + 1 })
            (sym (ap (λ b. cond b Working (standing_by (slice_get (visited m v i (suc j)) 0))) (gained_is ∙ g) ∙ ap standing_by first_row ∙ ap standing_of (settled e)))

  progress_after : progress m (places v) (u + 1) ≡ record { standing = outlook after (suc j) (eqb ((u + 1) % r) 0); units = u + 1 }
  progress_after =
      when_final m (places v) (u + 1) r sw.reach sw.ends
      ∙ elim (cases_eq ((u + 1) % r) 0) [
        | inl e ↦ at_end e ∙ ap (λ b. record { standing = outlook after (suc j) b; units = u + 1 }) (sym (eq-eqb ((u + 1) % r) 0 e))
        | inr e ↦
            let l : u + 1 < total m r =
            elim (cases_lt (u + 1) (total m r))
            [ inl d ↦ d | inr d ↦ let f : u + 1 ≡ total m r = omega (arith, sw.early) in absurd (e (ap (λ k. k % r) f ∙ mul-mod_right r (deep + 2))) ] in
            settle_working m (u + 1) r l ∙ ap (λ b. record { standing = outlook after (suc j) b; units = u + 1 }) (sym (ne_eqb ((u + 1) % r) 0 e))
      ]

  long_rows : length (visited m v i (suc j)) ≡ length v.rows
  long_rows = let x = visited_sets m v i (suc j) (row_by m 0 m.start) in ap length x.1 ∙ length-set v.rows i x.0

  pub visit_stands : Stands m (u + 1) (moved after (outlook after (suc j) (eqb ((u + 1) % r) 0)) (u + 1))
  visit_stands =
      stands_from m (places v) (u + 1) (found m r) (moved after (outlook after (suc j) (eqb ((u + 1) % r) 0)) (u + 1))
      (record {
        places_are = ap (λ k. min (min (length v.states) k) 4096) long_rows;
        known_are = known_final m (places v) (u + 1) r sw.reach sw.ends (omega (arith, sw.past));
        progress_is = sym progress_after;
        listed_is = sw.listed_are ∙ sym sw.ends;
        states_are = ap (λ k. take k v.states) sw.ends ∙ sw.states_are;
        rows_are =
            ap (λ k. take k (visited m v i (suc j))) sw.ends ∙ rows_after
            ∙ ap₂ (λ a b. rows_from m a b 0 (found m r)) (sym sw.ends) (sym (ap (λ x. x.units) progress_after));
        walk_is = unwalked m (places v) (progress m (places v) (u + 1)) v sw.no_walk;
      })

-- the session that a visit left, by its parts
pub keeps_visit : {S : Type 0} (m : Meaning S) (v w : View S) (i j : ℕ) → i < v.plain.listed → w.states ≡ v.states → w.rows ≡ visited m v i j → w.plain ≡ v.plain → Row → Keeps v w
keeps_visit m v w i j h a b c d =
    let x = visited_sets m v i j d in
    let e : w.rows ≡ set v.rows i x.0 = b ∙ x.1 in
    let n : w.plain.listed ≡ v.plain.listed = ap (λ p. p.listed) c in
    record {
      walk = ap (λ p. p.walk) c;
      grows = omega arith;
      rest =
          record {
            states_length = ap length a;
            rows_length = ap length e ∙ length-set v.rows i x.0;
            unused_states = ap (drop w.plain.listed) a;
            unused_rows = ap (drop w.plain.listed) e ∙ drop-set-lt w.plain.listed v.rows i x.0 (omega arith);
          };
    }
