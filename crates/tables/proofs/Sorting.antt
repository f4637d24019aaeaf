-- Rows in order: a row never falls below any row before it. Assumes nothing.
use Rattle.std.proofs.Common.{◌≡◌, ℕ, suc, ◌<◌, true, false, List, [], ◌∷◌, ◌++◌, take, Some, refl, arith}
use Rattle.std.proofs.lemmas.Bool.Decides.{nat_tests}
use Rattle.std.specs.List.{AllByRecursion as All, slice_get}
use Rattle.tables.specs.Rows.{falls, leads}
use Rattle.tables.specs.declared.row.TableRow.{TableRow}
use Rattle.tables.proofs.Lists.{Rising, all_parts, taken}

-- no row falls below the row before it
abbrev pub Ordered : List TableRow → Type 0
Ordered rows = (i : ℕ) (r q : TableRow) → slice_get rows i ≡ Some r → slice_get rows (suc i) ≡ Some q → falls r q ≡ false

-- no row of the list falls below r
abbrev pub Above : TableRow → List TableRow → Type 0
Above r qs = All (λ q. falls r q ≡ false) qs

-- no row falls below any row before it
abbrev pub Sorted : List TableRow → Type 0
Sorted [] = Unit {0}
Sorted (r ∷ rs) = Above r rs × Sorted rs

above_from : (r : TableRow) (qs : List TableRow) → ((q : TableRow) → slice_get qs 0 ≡ Some q → falls r q ≡ false) → Ordered qs → Above r qs
above_from r [] h o = tt
above_from r (q ∷ qs) h o = (
  h q refl,
  above_from r qs (λ p e. let f : falls q p ≡ false = o 0 q p refl e in let g : falls r q ≡ false = h q refl in grind (arith, nat_tests)) (λ i p p' e f. o (suc i) p p' e f),
)

pub sorted_from : (rows : List TableRow) → Ordered rows → Sorted rows
sorted_from [] o = tt
sorted_from (r ∷ rs) o = (above_from r rs (λ q e. o 0 r q refl e) (λ i p q e f. o (suc i) p q e f), sorted_from rs (λ i p q e f. o (suc i) p q e f))

pub ordered_take : (rows : List TableRow) (n : ℕ) → ((i : ℕ) (r q : TableRow) → suc i < n → slice_get rows i ≡ Some r → slice_get rows (suc i) ≡ Some q → falls r q ≡ false) → Ordered (take n rows)
ordered_take rows n h i r q e f = let p = taken n rows i r e in let p' = taken n rows (suc i) q f in h i r q p'.0 p.1 p'.1

pub sorted_drop : (xs ys : List TableRow) → Sorted (xs ++ ys) → Sorted ys
sorted_drop [] ys h = h
sorted_drop (x ∷ xs) ys h = sorted_drop xs ys h.1

-- r falls below no row of the list
abbrev pub Below : List TableRow → TableRow → Type 0
Below ps r = All (λ p. falls p r ≡ false) ps

pub sorted_last : (ps : List TableRow) (r : TableRow) → Sorted (ps ++ r ∷ []) → Sorted ps × Below ps r
sorted_last [] r h = (tt, tt)
sorted_last (p ∷ ps) r h =
    let a = all_parts (λ q. falls p q ≡ false) ps (r ∷ []) h.0 in
    let s = sorted_last ps r h.1 in
    ((a.0, s.0), (a.1.0, s.1))

-- rows of r's spot and act come last among the rows before r
pub sorted_rising : (ps : List TableRow) (r : TableRow) → Sorted ps → Below ps r → Rising (leads r.from r.act) ps
sorted_rising [] r s b = tt
sorted_rising (p ∷ ps) r s b = (λ t. between t ps s.0 b.1, sorted_rising ps r s.1 b.1)
  where
    between : leads r.from r.act p ≡ true → (qs : List TableRow) → Above p qs → Below qs r → All (λ q. leads r.from r.act q ≡ true) qs
    between t [] a d = tt
    between t (q ∷ qs) a d = (let here : leads r.from r.act q ≡ true = grind (arith, nat_tests) in here, between t qs a.1 d.1)
