-- The look-up: one halving after another, and then from row to row. Assumes nothing.
use Rattle.std.proofs.Common.{◌≡◌, ℕ, zero, suc, ◌+◌, ◌-◌, ◌<◌, ◌≤◌, min, Bool, true, false, ◌&&◌, ltb, List, [], ◌∷◌, length, get_or, drop, Some, None, Option, Bor, sym, refl, ap, ◌∙◌, add-one, inl, inr, arith}
use Rattle.std.proofs.lemmas.List.Sums.{take_while-cons}
use Rattle.std.proofs.lemmas.Option.{slice_get-get_or, slice_get-map}
use Rattle.std.proofs.lemmas.Bool.{and_from, cases_Bool, cases_lt, cond-true, cond-false, le-ltb, lt-ltb}
use Rattle.std.specs.List.{slice_get, take_while}
use Rattle.std.specs.Option.{option_map}
use Rattle.planning.proofs.Lists.{nth_take}
use Rattle.tables.specs.Books.{outcomes}
use Rattle.tables.specs.Looking.{block, early, first_row, front, middle, seek}
use Rattle.tables.specs.Places.{passes}
use Rattle.tables.specs.Rows.{leads, precedes, targets}
use Rattle.tables.specs.Spots.{within}
use Rattle.tables.specs.Tables.{Table}
use Rattle.tables.specs.declared.spot.Spot.{Spot}
use Rattle.tables.specs.declared.row.TableRow.{TableRow}
use Rattle.tables.proofs.Lists.{cond_same}

-- what a read past the rows would give
abbrev pub blank : TableRow
blank = record { from = record { zone = 0; level = 0 }; act = 0; to = record { zone = 0; level = 0 } }

module _ (rows : List TableRow) (s : Spot) (a : ℕ) where
  -- the search from low up to high, in n halvings, ends at f
  pub record Sought (f low high : ℕ) : Type 0 where
    pub fits : high ≤ length rows
    pub halvings : ℕ
    pub enough : high - low ≤ halvings
    pub ends : seek rows s a halvings low high ≡ f

  pub seek_none : (n low high : ℕ) → high ≤ low → seek rows s a n low high ≡ low
  seek_none zero low high h = refl
  seek_none (suc n) low high h = cond-false (ltb low high) _ _ (le-ltb low high h)

  module _ (n low high : ℕ) (h : low < high) where
    pub seek_up : early rows s a (middle low high) ≡ true → seek rows s a (suc n) low high ≡ seek rows s a n (middle low high + 1) high
    seek_up e =
        cond-true (ltb low high) _ _ (lt-ltb low high h)
        ∙ cond-true (early rows s a (middle low high)) _ _ e
        ∙ ap (λ k. seek rows s a n k high) (sym (add-one (middle low high)))

    pub seek_down : early rows s a (middle low high) ≡ false → seek rows s a (suc n) low high ≡ seek rows s a n low (middle low high)
    seek_down e = cond-true (ltb low high) _ _ (lt-ltb low high h) ∙ cond-false (early rows s a (middle low high)) _ _ e

  -- the row halfway, as it is read
  module _ (low high : ℕ) (h : low < high) (fits : high ≤ length rows) where
    early_at : early rows s a (middle low high) ≡ precedes (get_or rows (middle low high) blank).from (get_or rows (middle low high) blank).act s a
    early_at = ap (passes (λ r. precedes r.from r.act s a)) (slice_get-get_or rows (middle low high) blank (omega arith))

  module _ (f low high : ℕ) (b : Bool) (h : low < high) (e : b ≡ precedes (get_or rows (middle low high) blank).from (get_or rows (middle low high) blank).act s a) where
    pub sought_up : Sought f low high → b ≡ true → Sought f (middle low high + 1) high
    sought_up q t = by q.halvings q.enough q.ends
      where
        by : (n : ℕ) → high - low ≤ n → seek rows s a n low high ≡ f → Sought f (middle low high + 1) high
        by zero k r = absurd (omega arith)
        by (suc n) k r = record { fits = q.fits; halvings = n; enough = omega arith; ends = sym (seek_up n low high h (early_at low high h q.fits ∙ sym e ∙ t)) ∙ r }

    pub sought_down : Sought f low high → b ≡ false → Sought f low (middle low high)
    sought_down q t = by q.halvings q.enough q.ends
      where
        by : (n : ℕ) → high - low ≤ n → seek rows s a n low high ≡ f → Sought f low (middle low high)
        by zero k r = absurd (omega arith)
        by (suc n) k r = record { fits = omega (arith, q.fits); halvings = n; enough = omega arith; ends = sym (seek_down n low high h (early_at low high h q.fits ∙ sym e ∙ t)) ∙ r }

  pub sought_all : Sought (first_row rows s a) 0 (length rows)
  sought_all = record { fits = omega arith; halvings = length rows; enough = omega arith; ends = refl }

  -- the search ends within the rows, or just past them
  seek_bound : (n low high : ℕ) → low ≤ high → seek rows s a n low high ≤ high
  seek_bound zero low high l = l
  seek_bound (suc n) low high l =
      elim (cases_lt low high) [
        | inl h ↦
            elim (cases_Bool (early rows s a (middle low high))) [
              | inl t ↦ let e = seek_up n low high h t in omega (arith, seek_bound n (middle low high + 1) high (omega arith))
              | inr f ↦ let e = seek_down n low high h f in omega (arith, seek_bound n low (middle low high) (omega arith))
            ]
        | inr h ↦ let e = seek_none (suc n) low high h in omega arith
      ]

  pub first_bound : first_row rows s a ≤ length rows
  first_bound = seek_bound (length rows) 0 (length rows) (omega arith)

  pub sought_none : (f low high : ℕ) → high ≤ low → Sought f low high → low ≡ f
  sought_none f low high h q = sym (seek_none q.halvings low high h) ∙ q.ends

-- the library's word for the rows with which a list begins
front_is : (s : Spot) (a : ℕ) (rows : List TableRow) → front s a rows ≡ take_while (leads s a) rows
front_is s a [] = refl
front_is s a (r ∷ rs) = cond_same (leads s a r) (ap (λ xs. r ∷ xs) (front_is s a rs)) refl ∙ sym (take_while-cons (leads s a) r rs)

moved : (o : Option (Bor TableRow)) → option_map (λ r. r.now.to) o ≡ option_map (λ r. r.to) (option_map (λ r. r.now) o)
moved None = refl
moved (Some r) = refl

-- the row of number n among those found leads to the outcome of that number
pub outcome_at : (t : Table) (s : Spot) (a n : ℕ) (o : Option (Bor TableRow)) → within s ≡ true → a < min t.acts 16 → n < 8 → option_map (λ r. r.now) o ≡ slice_get (take_while (leads s a) (drop (first_row t.rows s a) t.rows)) n → option_map (λ r. r.now.to) o ≡ slice_get (outcomes t s a) n
outcome_at t s a n o w l k h =
    let found = block t.rows s a in
    moved o
    ∙ ap (option_map (λ r. r.to)) (h ∙ ap (λ rs. slice_get rs n) (sym (front_is s a (drop (first_row t.rows s a) t.rows))))
    ∙ sym (slice_get-map (λ r. r.to) found n)
    ∙ sym (nth_take 8 (targets found) n k)
    ∙ ap (λ ss. slice_get ss n) (sym (cond-true (within s && ltb a (min t.acts 16)) _ _ (and_from (within s) (ltb a (min t.acts 16)) w (lt-ltb a (min t.acts 16) l))))
