-- Where a search stands after u units: expanding, full, or past the end of a final list. Assumes nothing.
use Rattle.std.proofs.Common.{◌≡◌, ℕ, zero, suc, ◌+◌, ◌-◌, ◌*◌, ◌<◌, ◌≤◌, Bool, true, false, cond, eqb, ltb, List, length, get_or, sym, refl, ap, ◌∙◌, subst, inl, inr, mul-add, arith}
use Rattle.std.proofs.lemmas.Option.{slice_get_past, slice_get-get_or}
use Rattle.std.proofs.lemmas.Bool.{lt-ltb, le-ltb, eq-eqb, ne_eqb, cases_lt, cases_eq}
use Rattle.session.specs.declared.plain.Standing.TheVariants.{Working, Full}
use Rattle.session.specs.declared.plain.Progress.{Progress}
use Rattle.planning.specs.Meaning.{Meaning}
use Rattle.planning.specs.Finding.{found, Final}
use Rattle.planning.specs.Ranks.{largest, rank_by}
use Rattle.planning.proofs.Lists.{none_some}
use Rattle.planning.proofs.Places.{Kept, kept_found}
use Rattle.session.specs.ClosedForm.{standing_of, settle, progress_from, progress}

abbrev pub working : ℕ → Progress
working u = record { standing = Working; units = u }

abbrev pub full_after : ℕ → Progress
full_after k = record { standing = Full k; units = k }

kept_length : {S : Type 0} (d : S) (xs ys : List S) → Kept xs ys → length xs ≤ length ys
kept_length d xs ys h =
    elim (cases_lt (length ys) (length xs)) [
      | inl l ↦ absurd (none_some (slice_get_past ys (length ys) (omega arith)) (h (length ys) (get_or xs (length ys) d) (slice_get-get_or xs (length ys) d l)))
      | inr l ↦ l
    ]

module _ {S : Type 0} (m : Meaning S) where
  abbrev pub total : ℕ → ℕ
  total r = r * (largest m (found m r) + 2)

  pub total_more : (r : ℕ) → 0 < r → r < total r
  total_more r h =
      let a : total r ≡ r * largest m (found m r) + r * 2 = mul-add r (largest m (found m r)) 2 in
      omega arith

  pub settle_working : (u r : ℕ) → u < total r → settle m u r ≡ working u
  settle_working u r h = ap (λ b. cond b (working u) (record { standing = standing_of (rank_by m r m.start); units = total r })) (lt-ltb u (total r) h)

  pub settle_done : (u r : ℕ) → total r ≤ u → settle m u r ≡ record { standing = standing_of (rank_by m r m.start); units = total r }
  settle_done u r h = ap (λ b. cond b (working u) (record { standing = standing_of (rank_by m r m.start); units = total r })) (le-ltb u (total r) h)

  pub longer : (j k : ℕ) → j ≤ k → length (found m j) ≤ length (found m k)
  longer j k h = kept_length m.start (found m j) (found m k) (kept_found m j k h)

  pub final_some : (r : ℕ) → Final m r → 0 < r
  final_some zero f = omega arith
  final_some (suc r) f = omega arith

module _ {S : Type 0} (m : Meaning S) (n : ℕ) where
  -- once k places are expanded, the list fits and is not final
  pub record Open (k : ℕ) : Type 0 where
    pub fits : length (found m k) ≤ n
    pub more : k < length (found m k)

  abbrev pub Reach : ℕ → Type 0
  Reach k = (i : ℕ) → i < k → Open i

  abbrev from_here : ℕ → ℕ → ℕ → Bool → Bool → Progress
  from_here u fuel k a b = cond a (cond (ltb u k) (working u) (full_after k)) (cond b (settle m u k) (progress_from m n u fuel (suc k)))

  pass : (u fuel k : ℕ) → Open k → progress_from m n u (suc fuel) k ≡ progress_from m n u fuel (suc k)
  pass u fuel k o =
      ap (λ a. from_here u fuel k a (eqb (length (found m k)) k)) (le-ltb n (length (found m k)) o.fits)
      ∙ ap (from_here u fuel k false) (ne_eqb (length (found m k)) k (λ e. omega (arith, o.more)))

  reach : (u k fuel : ℕ) → Reach k → progress_from m n u (k + fuel) 0 ≡ progress_from m n u fuel k
  reach u zero fuel h = let e : 0 + fuel ≡ fuel = omega arith in ap (λ f. progress_from m n u f 0) e
  reach u (suc k) fuel h =
      let e : suc k + fuel ≡ k + suc fuel = omega arith in
      ap (λ f. progress_from m n u f 0) e ∙ reach u k (suc fuel) (λ i l. h i (omega arith)) ∙ pass u fuel k (h k (omega arith))

  early : (u fuel k : ℕ) → u < k → progress_from m n u fuel k ≡ working u
  early u zero k h = refl
  early u (suc fuel) k h = go (early u fuel (suc k) (omega arith)) (ltb n (length (found m k))) (eqb (length (found m k)) k)
    where
      go : progress_from m n u fuel (suc k) ≡ working u → (a b : Bool) → from_here u fuel k a b ≡ working u
      go less true b = ap (λ c. cond c (working u) (full_after k)) (lt-ltb u k h)
      go less false true = settle_working m u k (omega (arith, total_more m k (omega arith)))
      go less false false = less

  pub reach_low : (k : ℕ) → Reach k → k ≤ n
  reach_low zero h = omega arith
  reach_low (suc k) h = let o = h k (omega arith) in omega (arith, o.fits, o.more)

  pub reach_long : (k : ℕ) → Reach k → k ≤ length (found m k)
  reach_long zero h = omega arith
  reach_long (suc k) h = omega (arith, (h k (omega arith)).more, longer m k (suc k) (omega arith))

  at : (u k : ℕ) → Reach k → progress m n u ≡ progress_from m n u (suc (n - k)) k
  at u k h = let l = reach_low k h in let e : suc n ≡ k + suc (n - k) = omega arith in ap (λ f. progress_from m n u f 0) e ∙ reach u k (suc (n - k)) h

  pub when_open : (u : ℕ) → Reach (suc u) → progress m n u ≡ working u
  when_open u h = at u (suc u) h ∙ early u (suc (n - suc u)) (suc u) (omega arith)

  pub when_full : (u k : ℕ) → Reach k → n < length (found m k) → k ≤ u → progress m n u ≡ full_after k
  when_full u k h o l =
      at u k h
      ∙ ap (λ a. from_here u (n - k) k a (eqb (length (found m k)) k)) (lt-ltb n (length (found m k)) o)
      ∙ ap (λ c. cond c (working u) (full_after k)) (le-ltb u k l)

  pub when_final : (u r : ℕ) → Reach r → Final m r → progress m n u ≡ settle m u r
  when_final u r h f =
      let l = reach_low r h in
      at u r h
      ∙ ap (λ a. from_here u (n - r) r a (eqb (length (found m r)) r)) (le-ltb n (length (found m r)) (omega arith))
      ∙ ap (from_here u (n - r) r false) (eq-eqb (length (found m r)) r f)

  pub data Phase (u : ℕ) : Type 0 where
    expanding : Reach (suc u) → Phase u
    full : (k : ℕ) → Reach k → n < length (found m k) → k ≤ u → Phase u
    final : (r : ℕ) → Reach r → Final m r → r ≤ u → Phase u

  pub more_reach : (k : ℕ) → Reach k → Open k → Reach (suc k)
  more_reach k h o i l = elim (cases_eq i k) [ inl e ↦ subst Open (sym e) o | inr e ↦ h i (omega arith) ]

  pub next : (k : ℕ) → Reach k → Phase k
  next k h =
      elim (cases_lt n (length (found m k))) [
        | inl o ↦ full k h o (omega arith)
        | inr o ↦
            elim (cases_eq (length (found m k)) k) [
              | inl e ↦ final k h e (omega arith)
              | inr e ↦ let l = reach_long k h in expanding (more_reach k h (record { fits = o; more = omega arith }))
            ]
      ]

  pub phase : (u : ℕ) → Phase u
  phase zero = next 0 (λ i l. absurd (omega arith))
  phase (suc u) = go (phase u)
    where
      go : Phase u → Phase (suc u)
      go (expanding h) = next (suc u) h
      go (full k h o l) = full k h o (omega arith)
      go (final r h f l) = final r h f (omega arith)
