-- In rows that are in order, the look-up finds all rows of a spot and an act. Assumes nothing.
use Rattle.std.proofs.Common.{◌≡◌, ℕ, zero, suc, ◌+◌, ◌-◌, ◌*◌, ◌^◌, ◌<◌, ◌≤◌, Bool, true, false, ltb, List, [], ◌∷◌, ◌++◌, length, take, drop, filter, sym, refl, ap, ◌∙◌, subst, inl, inr, pow-suc, arith}
use Rattle.std.proofs.lemmas.List.Elements.{filter-append}
use Rattle.std.proofs.lemmas.List.{take-append-drop}
use Rattle.std.proofs.lemmas.Option.{slice_get_past}
use Rattle.std.proofs.lemmas.Bool.{both_ways, cases_Bool, cases_lt, cond-false, cond-true}
use Rattle.std.proofs.ByRecursion.{All-weaker}
use Rattle.std.proofs.lemmas.Bool.Decides.{nat_tests}
use Rattle.std.specs.List.{AllByRecursion as All, slice_get}
use Rattle.tables.specs.Looking.{block, early, first_row, front, middle, seek}
use Rattle.tables.specs.Places.{passes}
use Rattle.tables.specs.Rows.{falls, leads, precedes, rows_of}
use Rattle.tables.specs.declared.spot.Spot.{Spot}
use Rattle.tables.specs.declared.row.TableRow.{TableRow}
use Rattle.tables.proofs.Lists.{all_from, cond_same, kept_none, nth_drop, taken}
use Rattle.tables.proofs.Seeking.{seek_down, seek_none, seek_up}
use Rattle.tables.proofs.Sorting.{Above, Sorted, sorted_drop}

module _ (s : Spot) (a : ℕ) where
  abbrev comes : TableRow → Bool
  comes r = precedes r.from r.act s a

  -- once a row does not come before act a in spot s, none after it does
  comes_not : (r : TableRow) (qs : List TableRow) → Above r qs → comes r ≡ false → (j : ℕ) → passes comes (slice_get qs j) ≡ false
  comes_not r [] k e j = refl
  comes_not r (q ∷ qs) k e zero = let f : falls r q ≡ false = k.0 in grind (arith, nat_tests)
  comes_not r (q ∷ qs) k e (suc j) = comes_not r qs k.1 e j

  early_not : (rows : List TableRow) → Sorted rows → (i j : ℕ) → i ≤ j → early rows s a i ≡ false → early rows s a j ≡ false
  early_not [] h i j l e = refl
  early_not (r ∷ rs) h zero zero l e = e
  early_not (r ∷ rs) h zero (suc j) l e = comes_not r rs h.0 e j
  early_not (r ∷ rs) h (suc i) zero l e = absurd (omega arith)
  early_not (r ∷ rs) h (suc i) (suc j) l e = early_not rs h.1 i j (omega arith) e

  front_all : (rows : List TableRow) → Sorted rows → All (λ r. comes r ≡ false) rows → front s a rows ≡ rows_of rows s a
  front_all [] h e = refl
  front_all (r ∷ rs) h e =
      elim (cases_Bool (leads s a r)) [
        | inl t ↦ cond-true (leads s a r) _ _ t ∙ ap (λ xs. r ∷ xs) (front_all rs h.1 e.1) ∙ sym (cond-true (leads s a r) _ _ t)
        | inr f ↦
            let g : comes r ≡ false = e.0 in
            let none : All (λ q. leads s a q ≡ false) rs = All-weaker (λ q. falls r q ≡ false) (λ q. leads s a q ≡ false) (λ q k. grind (arith, nat_tests)) rs h.0 in
            cond-false (leads s a r) _ _ f ∙ sym (cond-false (leads s a r) _ _ f ∙ kept_none (leads s a) rs none)
      ]

module _ (rows : List TableRow) (s : Spot) (a : ℕ) where
  -- the rows below place f come before act a in spot s, and no others do
  record Parts (f : ℕ) : Type 0 where
    before : (i : ℕ) → i < f → early rows s a i ≡ true
    after : (i : ℕ) → f ≤ i → early rows s a i ≡ false

  module _ (sorted : Sorted rows) where
    seek_parts : (n low high : ℕ) → high - low ≤ n → low ≤ high → ((i : ℕ) → i < low → early rows s a i ≡ true) → ((i : ℕ) → high ≤ i → early rows s a i ≡ false) → Parts (seek rows s a n low high)
    seek_parts zero low high k l b e = record { before = b; after = λ i h. e i (omega arith) }
    seek_parts (suc n) low high k l b e =
        elim (cases_lt low high) [
          | inl h ↦
              elim (cases_Bool (early rows s a (middle low high))) [
                | inl t ↦
                    let below : (i : ℕ) → i < middle low high + 1 → early rows s a i ≡ true =
                    λ i g.
                    elim (cases_Bool (early rows s a i)) [
                      | inl u ↦ u
                      | inr u ↦ absurd (both_ways (early rows s a (middle low high)) (early_not s a rows sorted i (middle low high) (omega arith) u) t)
                    ]
                    in
                    subst Parts (sym (seek_up rows s a n low high h t)) (seek_parts n (middle low high + 1) high (omega arith) (omega arith) below e)
                | inr f ↦
                    subst Parts (sym (seek_down rows s a n low high h f)) (seek_parts n low (middle low high) (omega arith) (omega arith) b (λ i g. early_not s a rows sorted (middle low high) i g f))
              ]
          | inr h ↦ subst Parts (sym (seek_none rows s a (suc n) low high h)) (record { before = b; after = λ i g. e i (omega arith) })
        ]

    parts : Parts (first_row rows s a)
    parts = seek_parts (length rows) 0 (length rows) (omega arith) (omega arith) (λ i h. absurd (omega arith)) (λ i h. ap (passes (comes s a)) (slice_get_past rows i h))

    -- the block found is all rows of the spot and act
    pub block_all : block rows s a ≡ rows_of rows s a
    block_all =
        let f = first_row rows s a in
        let none : filter (leads s a) (take f rows) ≡ [] =
        kept_none (leads s a) (take f rows) (all_from (λ r. leads s a r ≡ false) (take f rows) (λ i r e.
        let q = taken f rows i r e in
        let t : comes s a r ≡ true = sym (ap (passes (comes s a)) q.1) ∙ parts.before i q.0 in
        grind (arith, nat_tests)))
        in
        let rest : All (λ r. comes s a r ≡ false) (drop f rows) =
        all_from (λ r. comes s a r ≡ false) (drop f rows) (λ i r e. sym (ap (passes (comes s a)) (sym (nth_drop f rows i) ∙ e)) ∙ parts.after (f + i) (omega arith))
        in
        front_all s a (drop f rows) (sorted_drop (take f rows) (drop f rows) (subst Sorted (sym (take-append-drop f rows)) sorted)) rest
        ∙ sym (ap (filter (leads s a)) (sym (take-append-drop f rows)) ∙ filter-append (leads s a) (take f rows) (drop f rows) ∙ ap (λ xs. xs ++ filter (leads s a) (drop f rows)) none)

  -- more halvings than binary digits change nothing
  pub seek_enough : (k n low high : ℕ) → high - low < 2 ^ k → high - low ≤ n → seek rows s a k low high ≡ seek rows s a n low high
  seek_enough zero n low high p q = sym (seek_none rows s a n low high (omega arith))
  seek_enough (suc k) zero low high p q = seek_none rows s a (suc k) low high (omega arith)
  seek_enough (suc k) (suc n) low high p q =
      let e : 2 ^ suc k ≡ 2 ^ k * 2 = pow-suc 2 k in
      elim (cases_lt low high) [
        | inl h ↦ cond_same (ltb low high) (cond_same (early rows s a (middle low high)) (seek_enough k n (suc (middle low high)) high (omega arith) (omega arith)) (seek_enough k n low (middle low high) (omega arith) (omega arith))) refl
        | inr h ↦ seek_none rows s a (suc k) low high h ∙ sym (seek_none rows s a (suc n) low high h)
      ]
