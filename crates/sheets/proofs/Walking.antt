-- Pairs and sections of a sheet, one after another. Assumes nothing.
use Rattle.std.proofs.Common.{◌≡◌, ℕ, zero, suc, ◌+◌, ◌-◌, ◌*◌, ◌<◌, ◌≤◌, Bool, Option, true, false, cond, eqb, ltb, leb, List, [], ◌∷◌, map, length, get_or, Some, None, Ok, Err, Result, sym, refl, ap, ◌∙◌, inl, inr, arith}
use Rattle.std.specs.List.{range_with_len}
use Rattle.std.proofs.lemmas.Bool.{cases_lt, and_parts, and_from, ltb-true, lt-ltb, le-leb, eq-eqb, ne_eqb}
use Rattle.sheets.specs.declared.fault.SheetFault.{SheetFault}
use Rattle.sheets.specs.declared.fault.SheetFault.TheVariants.{Pair}
use Rattle.sheets.specs.Events.{Entry, events_of}
use Rattle.sheets.specs.Rules.{section_count, header_end, offset, ending, section_bytes}
use Rattle.sheets.specs.Sections.{Part, named, has_section, section_of, sections_within, sections_from}
use Rattle.sheets.specs.Reading.{then, ask, none_left, pair_fits, pairs_check, part_check, in_sheet, sections_check, section_numbers, Parts}

-- the numbers from k to an end, one on and at the end
pub counting_more : (k n : ℕ) → k < n → range_with_len k (n - k) ≡ k ∷ range_with_len (k + 1) (n - (k + 1))
counting_more k n h = let e : n - k ≡ suc (n - (k + 1)) = omega arith in ap (range_with_len k) e

pub counting_none : (k n : ℕ) → n ≤ k → range_with_len k (n - k) ≡ []
counting_none k n h = let e : n - k ≡ 0 = omega arith in ap (range_with_len k) e

-- the last number is the one before the end
last_number : (k n : ℕ) → k < n → none_left (range_with_len (k + 1) (n - (k + 1))) ≡ eqb (k + 1) n
last_number k n h =
    elim (cases_lt (k + 1) n) [
      | inl l ↦ ap none_left (counting_more (k + 1) n l) ∙ sym (ne_eqb (k + 1) n (λ e. omega arith))
      | inr l ↦ ap none_left (counting_none (k + 1) n l) ∙ sym (eq-eqb (k + 1) n (omega arith))
    ]

module _ (bs : List ℕ) (n k : ℕ) (h : k < n) where
  pairs_step : (end : ℕ) (b : Bool) → pair_fits bs end k (eqb (k + 1) n) ≡ b → pairs_check bs end (range_with_len k (n - k)) ≡ then (ask b (Pair k)) (pairs_check bs (ending bs k) (range_with_len (k + 1) (n - (k + 1))))
  pairs_step end b e =
      ap (pairs_check bs end) (counting_more k n h) ∙ ap (λ c. then (ask c (Pair k)) (pairs_check bs (ending bs k) (range_with_len (k + 1) (n - (k + 1))))) (ap (pair_fits bs end k) (last_number k n h) ∙ e)

  pub pair_bad : (end : ℕ) → pair_fits bs end k (eqb (k + 1) n) ≡ false → pairs_check bs end (range_with_len k (n - k)) ≡ Err (Pair k)
  pair_bad end e = pairs_step end false e

  pub pair_good : (end : ℕ) → pair_fits bs end k (eqb (k + 1) n) ≡ true → pairs_check bs end (range_with_len k (n - k)) ≡ pairs_check bs (ending bs k) (range_with_len (k + 1) (n - (k + 1)))
  pair_good end e = pairs_step end true e

-- acts counted from 0 are the sections counted from 2
acts_from : (bs : List ℕ) (n a m : ℕ) → a + m ≤ n → map (λ i. events_of (cond (ltb i n) (section_bytes bs (i + 2)) [])) (range_with_len a m) ≡ map (λ k. events_of (section_bytes bs k)) (range_with_len (a + 2) m)
acts_from bs n a zero h = refl
acts_from bs n a (suc m) h =
    let e : a + 1 + 2 ≡ a + 2 + 1 = omega arith in
    ap (λ b. events_of (cond b (section_bytes bs (a + 2)) []) ∷ map (λ i. events_of (cond (ltb i n) (section_bytes bs (i + 2)) [])) (range_with_len (a + 1) m)) (lt-ltb a n (omega arith)) ∙ ap (λ es. events_of (section_bytes bs (a + 2)) ∷ es) (acts_from bs n (a + 1) m (omega arith) ∙ ap (λ j. map (λ k. events_of (section_bytes bs k)) (range_with_len j m)) e)

pub acts_same : (bs : List ℕ) (n : ℕ) → map (λ i. events_of (cond (ltb i n) (section_bytes bs (i + 2)) [])) (range_with_len 0 n) ≡ map (λ k. events_of (section_bytes bs k)) (range_with_len 2 n)
acts_same bs n = acts_from bs n 0 n (omega arith)

-- parts are the same where each is
pub same_parts : {n n' m m' : ℕ} {g g' : List ℕ} {es es' : List (List Entry)} → n ≡ n' → m ≡ m' → g ≡ g' → es ≡ es' → ◌≡◌ {A = Parts} (record { features = n; start = m; goal = g; acts = es }) (record { features = n'; start = m'; goal = g'; acts = es' })
same_parts {n'} {m} {m'} {g} {g'} {es} a b c d =
    ap (λ x. record { features = x; start = m; goal = g; acts = es }) a ∙ ap (λ x. record { features = n'; start = x; goal = g; acts = es }) b ∙ ap (λ x. record { features = n'; start = m'; goal = x; acts = es }) c ∙ ap (λ x. record { features = n'; start = m'; goal = g'; acts = x }) d

-- the sections from an answer on
abbrev some_first : List ℕ → ℕ → ℕ → Option Part → List Part
some_first bs k n o = elim o [ Some p ↦ p ∷ sections_within bs (k + 1) n | None ↦ [] ]

none_within : (bs : List ℕ) (k n : ℕ) → has_section bs k ≡ false → sections_within bs k n ≡ []
none_within bs k zero h = refl
none_within bs k (suc n) h = ap (λ b. some_first bs k n (cond b (Some (named k (section_bytes bs k))) None)) h

-- the sections from one that is there are it and those after it
pub sections_more : (bs : List ℕ) (k : ℕ) → has_section bs k ≡ true → sections_from bs k ≡ named k (section_bytes bs k) ∷ sections_from bs (k + 1)
sections_more bs k h =
    let n = section_count (get_or bs 1 0) in
    let l : k < n = ltb-true k n (and_parts (ltb k n) (leb (2 + 4 * (k + 1)) (length bs)) h).0 in
    let e : n - k ≡ suc (n - (k + 1)) = omega arith in
    ap (sections_within bs k) e ∙ ap (λ b. some_first bs k (n - (k + 1)) (cond b (Some (named k (section_bytes bs k))) None)) h

-- there are none from one that is not there
pub sections_none : (bs : List ℕ) (k : ℕ) → has_section bs k ≡ false → sections_from bs k ≡ []
sections_none bs k h = none_within bs k (section_count (get_or bs 1 0) - k) h

-- sections one after another, from a number on: each is right, or the first fault
abbrev pub parts_judged : List ℕ → ℕ → List Part → Result (Unit {0}) SheetFault
parts_judged bs k [] = Ok tt
parts_judged bs k (p ∷ ps) = then (in_sheet (k + 1) (offset bs k) (part_check (get_or bs 0 0) p)) (parts_judged bs (k + 1) ps)

-- where the header is whole, every section is there
there : (bs : List ℕ) (k : ℕ) → header_end (get_or bs 1 0) ≤ length bs → k < section_count (get_or bs 1 0) → has_section bs k ≡ true
there bs k h l = and_from (ltb k (section_count (get_or bs 1 0))) (leb (2 + 4 * (k + 1)) (length bs)) (lt-ltb k (section_count (get_or bs 1 0)) l) (le-leb (2 + 4 * (k + 1)) (length bs) (omega arith))

judged_within : (bs : List ℕ) (k m : ℕ) → header_end (get_or bs 1 0) ≤ length bs → k + m ≡ section_count (get_or bs 1 0) → parts_judged bs k (sections_within bs k m) ≡ sections_check bs (range_with_len k m)
judged_within bs k zero h e = refl
judged_within bs k (suc m) h e =
    ap (λ b. parts_judged bs k (some_first bs k m (cond b (Some (named k (section_bytes bs k))) None))) (there bs k h (omega arith)) ∙ ap (then (in_sheet (k + 1) (offset bs k) (part_check (get_or bs 0 0) (named k (section_bytes bs k))))) (judged_within bs (k + 1) m h (omega arith))

-- the sections of a sheet are judged so
pub sections_judged : (bs : List ℕ) → header_end (get_or bs 1 0) ≤ length bs → parts_judged bs 0 (sections_from bs 0) ≡ sections_check bs (section_numbers bs)
sections_judged bs h =
    let n = section_count (get_or bs 1 0) in
    let e : n - 0 ≡ n = omega arith in
    ap (λ m. parts_judged bs 0 (sections_within bs 0 m)) e ∙ judged_within bs 0 n h (omega arith)

-- one section more
few_after : (bs : List ℕ) (k n : ℕ) → length (sections_within bs (k + 1) n) ≤ n → (o : Option Part) → length (some_first bs k n o) ≤ suc n
few_after bs k n h (Some p) = omega arith
few_after bs k n h None = omega arith

few_within : (bs : List ℕ) (k n : ℕ) → length (sections_within bs k n) ≤ n
few_within bs k zero = omega arith
few_within bs k (suc n) = few_after bs k n (few_within bs (k + 1) n) (section_of bs k)

-- there are no more sections than the counts say
pub sections_few : (bs : List ℕ) (k : ℕ) → length (sections_from bs k) ≤ section_count (get_or bs 1 0) - k
sections_few bs k = few_within bs k (section_count (get_or bs 1 0) - k)

-- before the first section
pub first_sections : (bs rs : List ℕ) (number end place : ℕ) → header_end (get_or bs 1 0) ≤ length bs → end ≡ section_count (get_or bs 1 0) → end < 258 → number ≡ 0 → rs ≡ bs → place ≡ 0 → record { can : Unit {0} × Unit {0}; ends : Unit {0}; same : parts_judged bs number (sections_from rs place) ≡ sections_check bs (section_numbers bs); within : number + length (sections_from rs place) ≤ end; few : end ≤ 257 }
first_sections bs rs number end place h c l e f g =
    let few = sections_few bs 0 in
    let same = ap (λ xs. sections_from xs place) f ∙ ap (sections_from bs) g in
    record { can = (tt, tt); ends = tt; same = ap (λ k. parts_judged bs k (sections_from rs place)) e ∙ ap (parts_judged bs 0) same ∙ sections_judged bs h; within = omega (arith, ap length same); few = omega arith }
