-- The check of a formula's text, one byte after another. Assumes nothing.
use Rattle.std.proofs.Common.{◌≡◌, ℕ, zero, suc, ◌+◌, ◌-◌, ◌<◌, ◌≤◌, Bool, true, false, cond, ◌&&◌, ◌||◌, eqb, ltb, leb, List, ◌∷◌, length, Some, None, Err, sym, ap, ◌∙◌, arith}
use Rattle.std.proofs.lemmas.Bool.{cond-true, cond-false, lt-ltb, le-ltb}
use Rattle.sheets.specs.declared.fault.FormulaFault.TheVariants.{TooLong, Wrong}
use Rattle.sheets.specs.Signs.{arity_over, letter_sign}
use Rattle.sheets.specs.Checks.{check_from, checked}
use Rattle.sheets.proofs.Splitting.{none_some}

-- no sign stands before more than two formulas
pub arity_most : (n s a : ℕ) → arity_over n s ≡ Some a → a ≤ 2
arity_most n s a e = go (letter_sign s && leb (97 + n) s) (eqb s 84 || letter_sign s) (eqb s 33 || (eqb s 75 || eqb s 77)) (eqb s 38 || eqb s 124) e
  where
    go : (p q r t : Bool) → cond p None (cond q (Some 0) (cond r (Some 1) (cond t (Some 2) None))) ≡ Some a → a ≤ 2
    go true q r t f = absurd (none_some f)
    go false true r t f = let g : ◌≡◌ {A = ℕ} 0 a = cc in omega arith
    go false false true t f = let g : ◌≡◌ {A = ℕ} 1 a = cc in omega arith
    go false false false true f = let g : ◌≡◌ {A = ℕ} 2 a = cc in omega arith
    go false false false false f = absurd (none_some f)

-- a sign is one of the formulas that are owed, and owes those that it stands before
pub check_on : (n i owed a s : ℕ) (bs : List ℕ) → 0 < owed → arity_over n s ≡ Some a → check_from n i owed (s ∷ bs) ≡ check_from n (i + 1) (owed - 1 + a) bs
check_on n i zero a s bs h e = absurd (omega arith)
check_on n i (suc k) a s bs h e =
    let p : suc i ≡ i + 1 = omega arith in
    let q : a + k ≡ suc k - 1 + a = omega arith in
    ap (λ o. elim o [ Some a ↦ check_from n (suc i) (a + k) bs | None ↦ Err (Wrong i) ]) e ∙ ap (λ j. check_from n j (a + k) bs) p ∙ ap (λ j. check_from n (i + 1) j bs) q

-- one turn of a check: what is left begins with a sign
pub check_turn : (n i j owed a s : ℕ) (bs cs : List ℕ) → bs ≡ s ∷ cs → j ≡ i + 1 → 0 < owed → arity_over n s ≡ Some a → check_from n j (owed - 1 + a) cs ≡ check_from n i owed bs
check_turn n i j owed a s bs cs e f h g = ap (λ k. check_from n k (owed - 1 + a) cs) f ∙ sym (check_on n i owed a s cs h g) ∙ sym (ap (check_from n i owed) e)

-- what is left begins with a byte that is no sign
pub check_wrong : (n i owed s : ℕ) (bs cs : List ℕ) → bs ≡ s ∷ cs → 0 < owed → arity_over n s ≡ None → check_from n i owed bs ≡ Err (Wrong i)
check_wrong n i zero s bs cs e h g = absurd (omega arith)
check_wrong n i (suc k) s bs cs e h g = ap (check_from n i (suc k)) e ∙ ap (λ o. elim o [ Some a ↦ check_from n (suc i) (a + k) cs | None ↦ Err (Wrong i) ]) g

-- a text too long is refused as such
pub checked_long : (n : ℕ) (bs : List ℕ) → 200 < length bs → checked n bs ≡ Err TooLong
checked_long n bs h = cond-true (ltb 200 (length bs)) (Err TooLong) (check_from n 0 1 bs) (lt-ltb 200 (length bs) h)

-- a text that is not too long is checked byte by byte
pub checked_short : (n : ℕ) (bs : List ℕ) → length bs ≤ 200 → checked n bs ≡ check_from n 0 1 bs
checked_short n bs h = cond-false (ltb 200 (length bs)) (Err TooLong) (check_from n 0 1 bs) (le-ltb 200 (length bs) h)
