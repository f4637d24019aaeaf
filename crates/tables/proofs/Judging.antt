-- A row judged by two of the rows before it is judged by all of them. Assumes nothing.
use Rattle.std.proofs.Common.{zero, refl, below_more, ◌≡◌, ℕ, suc, ◌+◌, ◌-◌, ◌<◌, ◌≤◌, true, false, cond, not, leb, List, [], ◌∷◌, ◌++◌, length, get_or, take, Some, None, Option, sym, ap, ◌∙◌, subst, inl, inr, add-one, arith}
use Rattle.std.proofs.lemmas.List.{length-take-le, take_more}
use Rattle.std.proofs.lemmas.Option.{get_or_from_slice_get, slice_get_within}
use Rattle.std.proofs.lemmas.Bool.{cases_Bool, cases_lt, cond-true, cond-false, le-leb, leb-true, not-false, not_from_true, or_from, or_parts}
use Rattle.std.specs.List.{find, range_with_len, slice_get}
use Rattle.planning.proofs.Lists.{nth_take}
use Rattle.tables.specs.Checking.{wrong_beside, wrong_here}
use Rattle.tables.specs.Places.{back, passes}
use Rattle.tables.specs.Rows.{falls, fits, leads, rows_of}
use Rattle.tables.specs.Tables.{first_wrong, wrong, wrong_after}
use Rattle.tables.specs.declared.row.TableRow.{TableRow}
use Rattle.tables.proofs.Lists.{or_same, passes_if, rising_count}
use Rattle.tables.proofs.Sorting.{Ordered, Sorted, ordered_take, sorted_from, sorted_last, sorted_rising}

pub back_one : {A : Type 0} (xs : List A) (i : ℕ) → back xs 1 (suc i) ≡ slice_get xs i
back_one xs i = let e : suc i - 1 ≡ i = omega arith in cond-true (leb 1 (suc i)) _ _ (le-leb 1 (suc i) (omega arith)) ∙ ap (slice_get xs) e

-- a row that is not wrong fits, does not fall, and is no ninth
pub record Right (n : ℕ) (rows : List TableRow) (i : ℕ) (r : TableRow) : Type 0 where
  pub fit : fits n r ≡ true
  pub rise : passes (λ q. falls q r) (back rows 1 i) ≡ false
  pub few : leb 8 (length (rows_of (take i rows) r.from r.act)) ≡ false

module _ (n : ℕ) (rows : List TableRow) where
  pub right_from : (i : ℕ) (r : TableRow) → slice_get rows i ≡ Some r → wrong n rows i ≡ false → Right n rows i r
  right_from i r at h =
      let e : wrong_after n (back rows 1 i) (take i rows) r ≡ false = sym (ap (passes (wrong_after n (back rows 1 i) (take i rows))) at) ∙ h in
      let p = or_parts (not (fits n r)) _ e in
      let q = or_parts (passes (λ q. falls q r) (back rows 1 i)) _ p.1 in
      record { fit = not-false (fits n r) p.0; rise = q.0; few = q.1 }

  pub right_to : (i : ℕ) (r : TableRow) → slice_get rows i ≡ Some r → Right n rows i r → wrong n rows i ≡ false
  right_to i r at h =
      ap (passes (wrong_after n (back rows 1 i) (take i rows))) at
      ∙ or_from (not (fits n r)) _ (not_from_true (fits n r) h.fit) (or_from (passes (λ q. falls q r) (back rows 1 i)) _ h.rise h.few)

  -- the order of a row and the row before it
  pub rise_at : (i : ℕ) (r q : TableRow) → slice_get rows i ≡ Some r → passes (λ p. falls p q) (back rows 1 (suc i)) ≡ falls r q
  rise_at i r q at = ap (passes (λ p. falls p q)) (back_one rows i ∙ at)

  module _ (i : ℕ) (none : (j : ℕ) → j < i → wrong n rows j ≡ false) where
    -- the rows up to this one are in order
    ordered : (r : TableRow) → slice_get rows i ≡ Some r → passes (λ q. falls q r) (back rows 1 i) ≡ false → Ordered (take (i + 1) rows)
    ordered r at f =
        ordered_take rows (i + 1) (λ j p q l e g.
        elim (cases_lt (suc j) i) [
          | inl h ↦ sym (rise_at j p q e) ∙ (right_from (suc j) q g (none (suc j) h)).rise
          | inr h ↦
              let s : i ≡ suc j = omega arith in
              let o : Some r ≡ Some q = sym at ∙ ap (slice_get rows) s ∙ g in
              let k : r ≡ q = cc in
              sym (rise_at j p q e) ∙ ap (λ x. passes (λ p. falls p x) (back rows 1 (suc j))) (sym k) ∙ ap (λ x. passes (λ q. falls q r) (back rows 1 x)) (sym s) ∙ f
        ])

    ninth : (r : TableRow) → slice_get rows i ≡ Some r → passes (λ q. falls q r) (back rows 1 i) ≡ false → passes (leads r.from r.act) (back rows 8 i) ≡ leb 8 (length (rows_of (take i rows) r.from r.act))
    ninth r at f =
        let l : i < length rows = slice_get_within rows i r at in
        let k : get_or rows i r ≡ r = get_or_from_slice_get rows i r r at in
        let s : Sorted (take i rows ++ r ∷ []) = subst Sorted (take_more rows i r l ∙ ap (λ x. take i rows ++ x ∷ []) k) (sorted_from (take (i + 1) rows) (ordered r at f)) in
        let u = sorted_last (take i rows) r s in
        let c = rising_count (leads r.from r.act) 8 (omega arith) (take i rows) (sorted_rising (take i rows) r u.0 u.1) in
        let m : length (take i rows) ≡ i = length-take-le i rows (omega arith) in
        sym (c
        ∙ ap (λ x. cond (leb 8 x) (passes (leads r.from r.act) (slice_get (take i rows) (x - 8))) false) m
        ∙ passes_if (leads r.from r.act) (leb 8 i) (slice_get (take i rows) (i - 8)) (slice_get rows (i - 8)) (λ t. let h : 8 ≤ i = leb-true 8 i t in nth_take i rows (i - 8) (omega arith)))

    -- after rows that are right, two of them judge the next as all of them do
    here_is : wrong_here n rows i ≡ wrong n rows i
    here_is = by (slice_get rows i) refl
      where
        by : (o : Option TableRow) → slice_get rows i ≡ o → wrong_here n rows i ≡ wrong n rows i
        by None e = ap (passes (wrong_beside n (back rows 1 i) (back rows 8 i))) e ∙ sym (ap (passes (wrong_after n (back rows 1 i) (take i rows))) e)
        by (Some r) e =
            ap (passes (wrong_beside n (back rows 1 i) (back rows 8 i))) e
            ∙ or_same (not (fits n r)) _ _ (λ _. or_same (passes (λ q. falls q r) (back rows 1 i)) _ _ (ninth r e))
            ∙ sym (ap (passes (wrong_after n (back rows 1 i) (take i rows))) e)

  -- the search through the places from i on, before which no row is wrong
  pub found_first : (i k : ℕ) → ((j : ℕ) → j < i → wrong n rows j ≡ false) → find (wrong_here n rows) (range_with_len i k) ≡ first_wrong n rows i k
  found_first i zero none = refl
  found_first i (suc k) none =
      let e = here_is i none in
      elim (cases_Bool (wrong n rows i)) [
        | inl t ↦ cond-true (wrong_here n rows i) _ _ (e ∙ t) ∙ sym (cond-true (wrong n rows i) _ _ t)
        | inr f ↦
            cond-false (wrong_here n rows i) _ _ (e ∙ f)
            ∙ found_first (i + 1) k (below_more _ _ none f)
            ∙ ap (λ j. first_wrong n rows j k) (add-one i)
            ∙ sym (cond-false (wrong n rows i) _ _ f)
      ]
