-- No line of a session that stands over its book needs more than 64 bytes. Assumes nothing.
use Rattle.std.proofs.Common.{◌≡◌, ℕ, zero, suc, ◌+◌, ◌-◌, ◌*◌, ◌^◌, ◌<◌, ◌≤◌, cond, List, [], ◌∷◌, map, length, Some, None, Option, sym, refl, ◌∙◌, subst, inl, inr, div-le_self, arith}
use Rattle.std.specs.List.{slice_get}
use Rattle.std.proofs.lemmas.Nat.{mul-le}
use Rattle.std.proofs.lemmas.Fmt.{length-decimal-le}
use Rattle.std.proofs.lemmas.List.{length-append, length-take}
use Rattle.std.proofs.lemmas.Bool.{cases_lt}
use Rattle.std.proofs.lemmas.Option.{slice_get_within}
use Rattle.planning.specs.Meaning.{Meaning, Lawful}
use Rattle.planning.specs.Finding.{found, place_of}
use Rattle.planning.specs.Ranks.{act_of, brings, largest, rank_by, within}
use Rattle.planning.proofs.Deepest.{deepest_most}
use Rattle.planning.proofs.Ranking.{first_lowest}
use Rattle.planning.proofs.Seen.{placed}
use Rattle.session.specs.declared.plain.Standing.{Standing}
use Rattle.session.specs.declared.plain.Standing.TheVariants.{Working, NoPlan, Found, Full}
use Rattle.session.specs.ClosedForm.{known, known_rows, progress, row_by, standing_of}
use Rattle.session.specs.Calls.{concluded}
use Rattle.session.proofs.Levels.{level, rows_at}
use Rattle.session.proofs.Phases.{Phase, expanding, full, final, phase, reach_low, settle_done, settle_working, total, when_final, when_full, when_open}
use Rattle.session.proofs.Ranking.{rank_some}
use Rattle.lines.specs.Words.{first_words, line_text, number_word, outcome_words, place_words, sentence, spaced}

-- a number below a power of ten, or a dash
word_most : (k : ℕ) → 0 < k → (o : Option ℕ) → ((n : ℕ) → o ≡ Some n → (n < 10 ^ k) × (n < 2 ^ 64)) → length (number_word o) ≤ k
word_most k p None h = omega arith
word_most k p (Some n) h = length-decimal-le k n p (h n refl).0 (h n refl).1

spaced_most : {X : Type 0} (f : X → List ℕ) → ((x : X) → length (f x) ≤ 4) → (xs : List X) → length (spaced (map f xs)) ≤ 5 * length xs
spaced_most f h [] = omega arith
spaced_most f h (x ∷ xs) = let l = spaced_most f h xs in let k = h x in simp length-append (omega arith)

-- the numbers of a search that has ended are of at most 8 digits
abbrev Small : Standing → ℕ → Type 0
Small Working units = Unit {0}
Small NoPlan units = units < 10 ^ 8
Small (Found d) units = (d < 10 ^ 8) × (units < 10 ^ 8)
Small (Full f) units = f < 10 ^ 8

first_most : (st : Standing) (r units : ℕ) → r ≤ 4096 → Small st units → length (sentence (first_words st r units)) ≤ 64
first_most Working r units l h = omega arith
first_most NoPlan r units l h =
    let a = length-decimal-le 4 r (omega arith) (omega arith) (omega arith) in
    let b = length-decimal-le 8 units (omega arith) h (omega arith) in
    simp length-append (omega arith)
first_most (Found d) r units l h =
    let a = length-decimal-le 8 d (omega arith) h.0 (omega arith) in
    let b = length-decimal-le 4 r (omega arith) (omega arith) (omega arith) in
    let c = length-decimal-le 8 units (omega arith) h.1 (omega arith) in
    simp length-append (omega arith)
first_most (Full f) r units l h =
    let a = length-decimal-le 8 f (omega arith) h (omega arith) in
    simp length-append (omega arith)

module _ {S : Type 0} (m : Meaning S) (law : Lawful m) (n u : ℕ) (few : n ≤ 4096) where
  small : Small (progress m n u).standing (progress m n u).units
  small = go (phase m n u)
    where
      ends : (r : ℕ) (o : Option ℕ) → rank_by m r m.start ≡ o → r ≤ 4096 → total m r < 10 ^ 8 → Small (standing_of o) (total m r)
      ends r None e l h = h
      ends r (Some d) e l h = let k = (rank_some m r m.start d e).most in (omega arith, h)

      go : Phase m n u → Small (progress m n u).standing (progress m n u).units
      go (expanding h) = subst (λ p. Small p.standing p.units) (sym (when_open m n u h)) tt
      go (full k h o l) = subst (λ p. Small p.standing p.units) (sym (when_full m n u k h o l)) (let low = reach_low m n k h in omega arith)
      go (final r h f l) =
          elim (cases_lt u (total m r)) [
            | inl t ↦ subst (λ p. Small p.standing p.units) (sym (when_final m n u r h f ∙ settle_working m u r t)) tt
            | inr t ↦
                let low = reach_low m n r h in
                let deep = deepest_most m law r f in
                let most = mul-le r (largest m (found m r) + 2) 4096 4098 (omega arith) (omega arith) in
                subst (λ p. Small p.standing p.units) (sym (when_final m n u r h f ∙ settle_done m u r t)) (ends r (rank_by m r m.start) refl (omega arith) (omega arith))
          ]

  listed_most : length (known m n u) ≤ 4096
  listed_most = let e = length-take n (found m (progress m n u).units) in omega arith

  act_most : (s : S) (o : Option ℕ) → length (number_word (act_of m s o)) ≤ 2
  act_most s None = omega arith
  act_most s (Some zero) = omega arith
  act_most s (Some (suc j)) =
      word_most 2 (omega arith) (act_of m s (Some (suc j)))
      (λ a e. let b = (first_lowest (brings m (within m j) s) 0 m.acts a e).below in let l = law.few_acts in (omega arith, omega arith))

  outcomes_most : (s : S) (o : Option ℕ) → length (spaced (outcome_words m (known m n u) s o)) ≤ 40
  outcomes_most s None = omega arith
  outcomes_most s (Some a) =
      let f : S → List ℕ = λ o. number_word (place_of m (known m n u) o) in
      let h : (o : S) → length (f o) ≤ 4 =
      λ o. word_most 4 (omega arith) (place_of m (known m n u) o)
      (λ p e. let w = placed m o 0 (known m n u) p e in
      let q = w.is in
      let z : 0 + w.place ≡ p = cc in
      let b = slice_get_within (known m n u) w.place w.state w.at in
      let l = listed_most in (omega arith, omega arith)) in
      let k = spaced_most f h (m.outcomes s a) in
      let l = law.few_outcomes s a in
      omega arith

  place_most : (i : ℕ) → (progress m n u).units < 10 ^ 8 → length (sentence (place_words m (known m n u) i (slice_get (known m n u) i) (slice_get (known_rows m n u) i))) ≤ 64
  place_most i h = go (slice_get (known m n u) i) refl
    where
      j : ℕ
      j = level (length (known m n u)) (progress m n u).units (0 + i)

      ranked : (s : S) → length (number_word (rank_by m j s)) ≤ 8
      ranked s =
          word_most 8 (omega arith) (rank_by m j s)
          (λ k e. let most = (rank_some m j s k e).most in
          let l = div-le_self ((progress m n u).units - (0 + i + 1)) (length (known m n u)) in (omega arith, omega arith))

      go : (o : Option S) → slice_get (known m n u) i ≡ o → length (sentence (place_words m (known m n u) i o (slice_get (known_rows m n u) i))) ≤ 64
      go None e = omega arith
      go (Some s) e =
          let row = rows_at m (length (known m n u)) (progress m n u).units 0 (known m n u) i s e in
          let low = slice_get_within (known m n u) i s e in
          let l = listed_most in
          let a = length-decimal-le 4 i (omega arith) (omega arith) (omega arith) in
          let b = ranked s in
          let c = act_most s (rank_by m j s) in
          let d = outcomes_most s (act_of m s (rank_by m j s)) in
          let most : length (sentence (place_words m (known m n u) i (Some s) (Some (row_by m j s)))) ≤ 64 = simp length-append (omega arith) in
          subst (λ o. length (sentence (place_words m (known m n u) i (Some s) o)) ≤ 64) (sym row) most

  pub line_fits : (i : ℕ) → length (line_text m n u i) ≤ 64
  line_fits zero = first_most (progress m n u).standing (length (known m n u)) (progress m n u).units listed_most small
  line_fits (suc i) = go (progress m n u).standing small
    where
      go : (st : Standing) → Small st (progress m n u).units → length (sentence (cond (concluded st) (place_words m (known m n u) i (slice_get (known m n u) i) (slice_get (known_rows m n u) i)) [])) ≤ 64
      go Working h = omega arith
      go NoPlan h = place_most i h
      go (Found d) h = place_most i h.1
      go (Full f) h = omega arith
