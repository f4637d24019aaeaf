-- The rows of a list after u units, place by place. Assumes nothing.
use Rattle.std.proofs.Common.{◌≡◌, ℕ, zero, suc, ◌+◌, ◌-◌, ◌*◌, ◌/◌, ◌<◌, ◌≤◌, List, [], ◌∷◌, map, length, set, Some, refl, ap, ◌∙◌, ap₂, suc-mul, arith}
use Rattle.std.specs.List.{slice_get}
use Rattle.std.proofs.lemmas.Nat.{div-mul-add}
use Rattle.planning.specs.Meaning.{Meaning}
use Rattle.session.specs.ClosedForm.{row_by, rows_from}

-- the sweep of the last visit of place p, over a list of r states after u units
abbrev pub level : ℕ → ℕ → ℕ → ℕ
level r u p = (u - (p + 1)) / r

pub level_is : (r u p q x : ℕ) → x < r → u - (p + 1) ≡ q * r + x → level r u p ≡ q
level_is r u p q x h e = ap (λ k. k / r) e ∙ div-mul-add q r x h

-- before the first sweep
pub level_none : (r u p : ℕ) → 0 < r → u ≤ r → level r u p ≡ 0
level_none r u p h k = level_is r u p 0 (u - (p + 1)) (omega arith) (omega arith)

-- in sweep j + 1, at place i
module _ (r u j i : ℕ) (split : u ≡ suc j * r + i) (low : i < r) where
  prod : suc j * r ≡ j * r + r
  prod = suc-mul j r

  pub level_before : (p : ℕ) → p < i → level r u p ≡ suc j
  level_before p h = level_is r u p (suc j) (i - (p + 1)) (omega arith) (omega arith)

  pub level_after : (p : ℕ) → i ≤ p → p < r → level r u p ≡ j
  level_after p h k = level_is r u p j (r + i - (p + 1)) (omega arith) (omega (arith, prod))

  pub level_there : (p : ℕ) → p ≤ i → level r (u + 1) p ≡ suc j
  level_there p h = level_is r (u + 1) p (suc j) (i - p) (omega arith) (omega arith)

  pub level_later : (p : ℕ) → i < p → p < r → level r (u + 1) p ≡ j
  level_later p h k = level_is r (u + 1) p j (r + i - p) (omega arith) (omega (arith, prod))

module _ {S : Type 0} (m : Meaning S) (r : ℕ) where
  pub rows_level : (u k q : ℕ) (ss : List S) → ((p : ℕ) → q ≤ p → p < q + length ss → level r u p ≡ k) → rows_from m r u q ss ≡ map (row_by m k) ss
  rows_level u k q [] h = refl
  rows_level u k q (s ∷ ss) h = ap₂ ◌∷◌ (ap (λ n. row_by m n s) (h q (omega arith) (omega arith))) (rows_level u k (suc q) ss (λ p a b. h p (omega arith) (omega arith)))

  pub rows_same : (u w q : ℕ) (ss : List S) → ((p : ℕ) → q ≤ p → p < q + length ss → level r u p ≡ level r w p) → rows_from m r u q ss ≡ rows_from m r w q ss
  rows_same u w q [] h = refl
  rows_same u w q (s ∷ ss) h = ap₂ ◌∷◌ (ap (λ n. row_by m n s) (h q (omega arith) (omega arith))) (rows_same u w (suc q) ss (λ p a b. h p (omega arith) (omega arith)))

  pub rows_at : (u q : ℕ) (ss : List S) (p : ℕ) (s : S) → slice_get ss p ≡ Some s → slice_get (rows_from m r u q ss) p ≡ Some (row_by m (level r u (q + p)) s)
  rows_at u q [] p s e = absurd (let z : ◌≡◌ {A = ℕ} 0 1 = cc in omega arith)
  rows_at u q (x ∷ xs) zero s e = let f : x ≡ s = cc in let n : q ≡ q + 0 = omega arith in ap Some (ap (λ k. row_by m (level r u k) x) n ∙ ap (row_by m (level r u (q + 0))) f)
  rows_at u q (x ∷ xs) (suc p) s e = let n : suc q + p ≡ q + suc p = omega arith in rows_at u (suc q) xs p s e ∙ ap (λ k. Some (row_by m (level r u k) s)) n

  -- one row is written, and the others stay
  pub rows_set : (u w q : ℕ) (ss : List S) (i : ℕ) (s : S) → slice_get ss i ≡ Some s → ((p : ℕ) → q ≤ p → p < q + length ss → (p ≡ q + i → ⊥) → level r u p ≡ level r w p) → set (rows_from m r u q ss) i (row_by m (level r w (q + i)) s) ≡ rows_from m r w q ss
  rows_set u w q [] i s e h = refl
  rows_set u w q (x ∷ xs) zero s e h =
      let f : s ≡ x = cc in
      let n : q + 0 ≡ q = omega arith in
      ap₂ ◌∷◌ (ap (λ k. row_by m (level r w k) s) n ∙ ap (row_by m (level r w q)) f) (rows_same u w (suc q) xs (λ p a b. h p (omega arith) (omega arith) (λ c. omega arith)))
  rows_set u w q (x ∷ xs) (suc i) s e h =
      let n : q + suc i ≡ suc q + i = omega arith in
      ap₂ ◌∷◌ (ap (λ k. row_by m k x) (h q (omega arith) (omega arith) (λ c. omega arith)))
      (ap (λ k. set (rows_from m r u (suc q) xs) i (row_by m (level r w k) s)) n ∙ rows_set u w (suc q) xs i s e (λ p a b c. h p (omega arith) (omega arith) (λ d. c (omega arith))))
