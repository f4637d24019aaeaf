-- The check against the grammar: signs before what they govern, read by counting the formulas still owed. Assumes
-- nothing.
use Rattle.std.proofs.Common.{◌≡◌, ℕ, zero, suc, ◌+◌, ◌-◌, ◌<◌, ◌≤◌, Bool, true, false, cond, ◌&&◌, ◌||◌, eqb, leb, List, [], ◌∷◌, ◌++◌, length, take, replicate, Some, None, Ok, Err, Option, Result, sym, refl, ap, ◌∙◌, subst, inl, inr, zero-add, one-add, arith}
use Rattle.std.proofs.lemmas.List.{append-nil, append_assoc, length-append, take_at}
use Rattle.std.proofs.lemmas.Bool.{eqb-true, leb-true, leb-false, le-leb, lt-leb, and_parts, and_from, cases_lt}
use Rattle.sheets.specs.declared.fault.FormulaFault.{FormulaFault}
use Rattle.sheets.specs.declared.fault.FormulaFault.TheVariants.{Wrong, Spare, Unfinished}
use Rattle.sheets.specs.Formulas.{Formula, top, letter, neg, and, or, K, M, Spells, spells_top, spells_letter, spells_neg, spells_and, spells_or, spells_K, spells_M}
use Rattle.sheets.specs.Signs.{arity_over, letter_sign}
use Rattle.sheets.specs.Stops.{formula_place}
use Rattle.sheets.specs.Checks.{check_from, checked, IsFormula, BeginsFormula, Accepts, FirstFault, ToldFirst}
use Rattle.sheets.proofs.Splitting.{none_some, refused}
use Rattle.sheets.proofs.Checking.{checked_short, checked_long}

nil_cons : {s : ℕ} {bs : List ℕ} → [] ≡ s ∷ bs → ⊥
nil_cons e = let z : ◌≡◌ {A = ℕ} 0 1 = cc in omega arith

-- a sign makes a formula of as many as its arity says
data Builds (n s : ℕ) : ℕ → Type 0 where
  none : IsFormula n (s ∷ []) → Builds n s 0
  one : ((bs : List ℕ) → IsFormula n bs → IsFormula n (s ∷ bs)) → Builds n s 1
  two : ((bs cs : List ℕ) → IsFormula n bs → IsFormula n cs → IsFormula n (s ∷ (bs ++ cs))) → Builds n s 2

builds : (n s a : ℕ) → arity_over n s ≡ Some a → Builds n s a
builds n s a e = go (eqb s 84) (letter_sign s) (leb (97 + n) s) (eqb s 33) (eqb s 75) (eqb s 77) (eqb s 38) (eqb s 124) refl refl refl refl refl refl refl refl e
  where
    is_top : s ≡ 84 → Some 0 ≡ Some a → Builds n s a
    is_top h f = let g : ◌≡◌ {A = ℕ} 0 a = cc in subst (Builds n s) g (none (subst (λ x. IsFormula n (x ∷ [])) (sym h) (top, spells_top)))

    is_one : Some 1 ≡ Some a → ((bs : List ℕ) → IsFormula n bs → IsFormula n (s ∷ bs)) → Builds n s a
    is_one f b = let g : ◌≡◌ {A = ℕ} 1 a = cc in subst (Builds n s) g (one b)

    is_two : Some 2 ≡ Some a → ((bs cs : List ℕ) → IsFormula n bs → IsFormula n cs → IsFormula n (s ∷ (bs ++ cs))) → Builds n s a
    is_two f b = let g : ◌≡◌ {A = ℕ} 2 a = cc in subst (Builds n s) g (two b)

    is_letter : letter_sign s ≡ true → leb (97 + n) s ≡ false → Some 0 ≡ Some a → Builds n s a
    is_letter l p f =
        let g : ◌≡◌ {A = ℕ} 0 a = cc in
        let low = leb-true 97 s (and_parts (leb 97 s) (leb s 122) l).0 in
        let high = leb-false (97 + n) s p in
        let i : 97 + (s - 97) ≡ s = omega arith in
        subst (Builds n s) g (none (subst (λ x. IsFormula n (x ∷ [])) i (letter (s - 97), spells_letter (s - 97) (omega arith))))

    go : (p84 l past p33 p75 p77 p38 p124 : Bool) → eqb s 84 ≡ p84 → letter_sign s ≡ l → leb (97 + n) s ≡ past → eqb s 33 ≡ p33 → eqb s 75 ≡ p75 → eqb s 77 ≡ p77 → eqb s 38 ≡ p38 → eqb s 124 ≡ p124 → cond (l && past) None (cond (p84 || l) (Some 0) (cond (p33 || (p75 || p77)) (Some 1) (cond (p38 || p124) (Some 2) None))) ≡ Some a → Builds n s a
    go p84 true true p33 p75 p77 p38 p124 e84 el ep e33 e75 e77 e38 e124 f = absurd (none_some f)
    go true true false p33 p75 p77 p38 p124 e84 el ep e33 e75 e77 e38 e124 f = is_top (eqb-true s 84 e84) f
    go true false past p33 p75 p77 p38 p124 e84 el ep e33 e75 e77 e38 e124 f = is_top (eqb-true s 84 e84) f
    go false true false p33 p75 p77 p38 p124 e84 el ep e33 e75 e77 e38 e124 f = is_letter el ep f
    go false false past true p75 p77 p38 p124 e84 el ep e33 e75 e77 e38 e124 f =
        is_one f (λ bs g. subst (λ x. IsFormula n (x ∷ bs)) (sym (eqb-true s 33 e33)) (neg g.0, spells_neg g.1))
    go false false past false true p77 p38 p124 e84 el ep e33 e75 e77 e38 e124 f =
        is_one f (λ bs g. subst (λ x. IsFormula n (x ∷ bs)) (sym (eqb-true s 75 e75)) (K g.0, spells_K g.1))
    go false false past false false true p38 p124 e84 el ep e33 e75 e77 e38 e124 f =
        is_one f (λ bs g. subst (λ x. IsFormula n (x ∷ bs)) (sym (eqb-true s 77 e77)) (M g.0, spells_M g.1))
    go false false past false false false true p124 e84 el ep e33 e75 e77 e38 e124 f =
        is_two f (λ bs cs g h. subst (λ x. IsFormula n (x ∷ (bs ++ cs))) (sym (eqb-true s 38 e38)) (and g.0 h.0, spells_and g.1 h.1))
    go false false past false false false false true e84 el ep e33 e75 e77 e38 e124 f =
        is_two f (λ bs cs g h. subst (λ x. IsFormula n (x ∷ (bs ++ cs))) (sym (eqb-true s 124 e124)) (or g.0 h.0, spells_or g.1 h.1))
    go false false past false false false false false e84 el ep e33 e75 e77 e38 e124 f = absurd (none_some f)

-- so many texts of formulas, one after another
data Row (n : ℕ) : ℕ → List ℕ → Type 0 where
  done : Row n 0 []
  next : {k : ℕ} {bs cs : List ℕ} → IsFormula n bs → Row n k cs → Row n (suc k) (bs ++ cs)

module _ (n s : ℕ) where
  one_more : {k : ℕ} {bs : List ℕ} → ((bs : List ℕ) → IsFormula n bs → IsFormula n (s ∷ bs)) → Row n (suc k) bs → Row n (suc k) (s ∷ bs)
  one_more b (next {bs = cs} f r) = next (b cs f) r

  two_more : {k : ℕ} {bs : List ℕ} → ((bs cs : List ℕ) → IsFormula n bs → IsFormula n cs → IsFormula n (s ∷ (bs ++ cs))) → Row n (suc (suc k)) bs → Row n (suc k) (s ∷ bs)
  two_more {k} b (next {bs = cs} f (next {bs = ds} {cs = es} g r)) = subst (λ xs. Row n (suc k) (s ∷ xs)) (append_assoc cs ds es) (next (b cs ds f g) r)

  sign_more : {a : ℕ} → Builds n s a → (k : ℕ) (bs : List ℕ) → Row n (a + k) bs → Row n (suc k) (s ∷ bs)
  sign_more (none f) k bs r = next f (subst (λ j. Row n j bs) (zero-add k) r)
  sign_more (one b) k bs r = one_more b (subst (λ j. Row n j bs) (one-add k) r)
  sign_more (two b) k bs r = let e : 2 + k ≡ suc (suc k) = omega arith in two_more b (subst (λ j. Row n j bs) e r)

-- the check passes only rows of formulas
row_more : (n at k s : ℕ) (bs : List ℕ) → ((a : ℕ) → check_from n (suc at) (a + k) bs ≡ Ok tt → Row n (a + k) bs) → (o : Option ℕ) → arity_over n s ≡ o → ◌≡◌ {A = Result (Unit {0}) FormulaFault} (elim o [ Some a ↦ check_from n (suc at) (a + k) bs | None ↦ Err (Wrong at) ]) (Ok tt) → Row n (suc k) (s ∷ bs)
row_more n at k s bs h (Some a) e f = sign_more n s (builds n s a e) k bs (h a f)
row_more n at k s bs h None e f = absurd (refused f)

passes_row : (n at k : ℕ) (bs : List ℕ) → check_from n at k bs ≡ Ok tt → Row n k bs
passes_row n at zero [] e = done
passes_row n at zero (s ∷ bs) e = absurd (refused e)
passes_row n at (suc k) [] e = absurd (refused e)
passes_row n at (suc k) (s ∷ bs) e = row_more n at k s bs (λ a f. passes_row n (suc at) (a + k) bs f) (arity_over n s) refl e

row_of_one : (n : ℕ) {bs : List ℕ} → Row n 1 bs → IsFormula n bs
row_of_one n (next {bs = bs} f done) = subst (IsFormula n) (sym (append-nil bs)) f

pub passes_formula : (n : ℕ) (bs : List ℕ) → check_from n 0 1 bs ≡ Ok tt → IsFormula n bs
passes_formula n bs e = row_of_one n (passes_row n 0 1 bs e)

-- the check passes over the text of a formula, and one less is owed
reads : (n s a at k j : ℕ) (bs : List ℕ) → arity_over n s ≡ Some a → a + k ≡ j → check_from n at (suc k) (s ∷ bs) ≡ check_from n (suc at) j bs
reads n s a at k j bs e h = ap (λ o. elim o [ Some a ↦ check_from n (suc at) (a + k) bs | None ↦ Err (Wrong at) ]) e ∙ ap (λ i. check_from n (suc at) i bs) h

letter_arity : (n i : ℕ) → n ≤ 26 → i < n → arity_over n (97 + i) ≡ Some 0
letter_arity n i m h = go (letter_sign (97 + i)) (leb (97 + n) (97 + i)) (eqb (97 + i) 84) (and_from (leb 97 (97 + i)) (leb (97 + i) 122) (le-leb 97 (97 + i) (omega arith)) (le-leb (97 + i) 122 (omega arith))) (lt-leb (97 + n) (97 + i) (omega arith))
  where
    go : (l past p : Bool) → l ≡ true → past ≡ false → ◌≡◌ {A = Option ℕ} (cond (l && past) None (cond (p || l) (Some 0) (cond (eqb (97 + i) 33 || (eqb (97 + i) 75 || eqb (97 + i) 77)) (Some 1) (cond (eqb (97 + i) 38 || eqb (97 + i) 124) (Some 2) None)))) (Some 0)
    go true true p e f = let z : ◌≡◌ {A = ℕ} 0 1 = cc in absurd (omega arith)
    go true false true e f = refl
    go true false false e f = refl
    go false past p e f = let z : ◌≡◌ {A = ℕ} 0 1 = cc in absurd (omega arith)

module _ (n : ℕ) (m : n ≤ 26) where
  one_read : (s at k : ℕ) (bs cs : List ℕ) → arity_over n s ≡ Some 1 → ((at k : ℕ) (cs : List ℕ) → check_from n at (suc k) (bs ++ cs) ≡ check_from n (at + length bs) k cs) → check_from n at (suc k) (s ∷ (bs ++ cs)) ≡ check_from n (at + suc (length bs)) k cs
  one_read s at k bs cs e h =
      let p : suc at + length bs ≡ at + suc (length bs) = omega arith in
      reads n s 1 at k (suc k) (bs ++ cs) e (one-add k) ∙ h (suc at) k cs ∙ ap (λ i. check_from n i k cs) p

  two_read : (s at k : ℕ) (bs cs ds : List ℕ) → arity_over n s ≡ Some 2 → ((at k : ℕ) (cs : List ℕ) → check_from n at (suc k) (bs ++ cs) ≡ check_from n (at + length bs) k cs) → ((at k : ℕ) (ds : List ℕ) → check_from n at (suc k) (cs ++ ds) ≡ check_from n (at + length cs) k ds) → check_from n at (suc k) (s ∷ ((bs ++ cs) ++ ds)) ≡ check_from n (at + suc (length (bs ++ cs))) k ds
  two_read s at k bs cs ds e g h =
      let w : 2 + k ≡ suc (suc k) = omega arith in
      let p : suc at + length bs + length cs ≡ at + suc (length (bs ++ cs)) = omega (arith, length-append bs cs) in
      reads n s 2 at k (suc (suc k)) ((bs ++ cs) ++ ds) e w ∙ ap (check_from n (suc at) (suc (suc k))) (append_assoc bs cs ds) ∙ g (suc at) (suc k) (cs ++ ds) ∙ h (suc at + length bs) k ds ∙ ap (λ i. check_from n i k ds) p

  formula_read : {f : Formula} {bs : List ℕ} → Spells n f bs → (at k : ℕ) (cs : List ℕ) → check_from n at (suc k) (bs ++ cs) ≡ check_from n (at + length bs) k cs
  formula_read spells_top at k cs = let p : suc at ≡ at + 1 = omega arith in reads n 84 0 at k k cs refl (zero-add k) ∙ ap (λ i. check_from n i k cs) p
  formula_read (spells_letter i h) at k cs = let p : suc at ≡ at + 1 = omega arith in reads n (97 + i) 0 at k k cs (letter_arity n i m h) (zero-add k) ∙ ap (λ i. check_from n i k cs) p
  formula_read (spells_neg {bs = bs} s) at k cs = one_read 33 at k bs cs refl (λ i j ds. formula_read s i j ds)
  formula_read (spells_and {bs = bs} {cs = ds} s t) at k cs = two_read 38 at k bs ds cs refl (λ i j es. formula_read s i j es) (λ i j es. formula_read t i j es)
  formula_read (spells_or {bs = bs} {cs = ds} s t) at k cs = two_read 124 at k bs ds cs refl (λ i j es. formula_read s i j es) (λ i j es. formula_read t i j es)
  formula_read (spells_K {bs = bs} s) at k cs = one_read 75 at k bs cs refl (λ i j ds. formula_read s i j ds)
  formula_read (spells_M {bs = bs} s) at k cs = one_read 77 at k bs cs refl (λ i j ds. formula_read s i j ds)

  pub formula_passes : (bs : List ℕ) → IsFormula n bs → check_from n 0 1 bs ≡ Ok tt
  formula_passes bs f = ap (check_from n 0 1) (sym (append-nil bs)) ∙ formula_read f.1 0 0 []

formula_bytes : {n : ℕ} {f : Formula} {bs : List ℕ} → Spells n f bs → 1 ≤ length bs
formula_bytes spells_top = omega arith
formula_bytes (spells_letter i h) = omega arith
formula_bytes (spells_neg s) = omega arith
formula_bytes (spells_and s t) = omega arith
formula_bytes (spells_or s t) = omega arith
formula_bytes (spells_K s) = omega arith
formula_bytes (spells_M s) = omega arith

-- where the check stops: what it passed, what is owed there, and a byte that no formula goes on with
record Stopped (n at k : ℕ) (bs : List ℕ) (t : FormulaFault) : Type 0 where
  front : List ℕ
  back : List ℕ
  owed : ℕ
  whole : front ++ back ≡ bs
  place : formula_place t ≡ at + length front
  passed : (cs : List ℕ) → check_from n at k (front ++ cs) ≡ check_from n (at + length front) owed cs
  bars : (s : ℕ) (cs ds : List ℕ) → back ≡ s ∷ cs → (d : FormulaFault) × (check_from n (at + length front) owed (s ∷ ds) ≡ Err d)

module _ (n at : ℕ) where
  here : at + 0 ≡ at
  here = omega arith

  stopped_spare : (s : ℕ) (bs : List ℕ) → Stopped n at 0 (s ∷ bs) (Spare at)
  stopped_spare s bs = record { front = []; back = s ∷ bs; owed = 0; whole = refl; place = sym here; passed = λ cs. ap (λ i. check_from n i 0 cs) (sym here); bars = λ r cs ds e. (Spare (at + 0), refl) }

  stopped_short : (k : ℕ) → Stopped n at (suc k) [] (Unfinished at)
  stopped_short k = record { front = []; back = []; owed = suc k; whole = refl; place = sym here; passed = λ cs. ap (λ i. check_from n i (suc k) cs) (sym here); bars = λ s cs ds e. absurd (nil_cons e) }

  stopped_wrong : (k s : ℕ) (bs : List ℕ) → arity_over n s ≡ None → Stopped n at (suc k) (s ∷ bs) (Wrong at)
  stopped_wrong k s bs f = record { front = []; back = s ∷ bs; owed = suc k; whole = refl; place = sym here; passed = λ cs. ap (λ i. check_from n i (suc k) cs) (sym here); bars = λ r cs ds e. (Wrong (at + 0), let g : s ≡ r = cc in ap (λ o. elim o [ Some a ↦ check_from n (suc (at + 0)) (a + k) ds | None ↦ Err (Wrong (at + 0)) ]) (ap (arity_over n) (sym g) ∙ f)) }

  stopped_later : (k s a : ℕ) (bs : List ℕ) (t : FormulaFault) → arity_over n s ≡ Some a → Stopped n (suc at) (a + k) bs t → Stopped n at (suc k) (s ∷ bs) t
  stopped_later k s a bs t f w =
      let e : suc at + length w.front ≡ at + suc (length w.front) = omega arith in
      record {
        front = s ∷ w.front;
        back = w.back;
        owed = w.owed;
        whole = ap (λ xs. s ∷ xs) w.whole;
        place = w.place ∙ e;
        passed = λ cs. reads n s a at k (a + k) (w.front ++ cs) f refl ∙ w.passed cs ∙ ap (λ i. check_from n i w.owed cs) e;
        bars = λ r cs ds g. let b = w.bars r cs ds g in (b.0, ap (λ i. check_from n i w.owed (r ∷ ds)) (sym e) ∙ b.1);
      }

stops_more : (n at k s : ℕ) (bs : List ℕ) (t : FormulaFault) → ((a : ℕ) → check_from n (suc at) (a + k) bs ≡ Err t → Stopped n (suc at) (a + k) bs t) → (o : Option ℕ) → arity_over n s ≡ o → ◌≡◌ {A = Result (Unit {0}) FormulaFault} (elim o [ Some a ↦ check_from n (suc at) (a + k) bs | None ↦ Err (Wrong at) ]) (Err t) → Stopped n at (suc k) (s ∷ bs) t
stops_more n at k s bs t h (Some a) e f = stopped_later n at k s a bs t e (h a f)
stops_more n at k s bs t h None e f = let g : Wrong at ≡ t = cc in subst (Stopped n at (suc k) (s ∷ bs)) g (stopped_wrong n at k s bs e)

stops : (n at k : ℕ) (bs : List ℕ) (t : FormulaFault) → check_from n at k bs ≡ Err t → Stopped n at k bs t
stops n at zero [] t e = absurd (refused (sym e))
stops n at zero (s ∷ bs) t e = let g : Spare at ≡ t = cc in subst (Stopped n at 0 (s ∷ bs)) g (stopped_spare n at s bs)
stops n at (suc k) [] t e = let g : Unfinished at ≡ t = cc in subst (Stopped n at (suc k) []) g (stopped_short n at k)
stops n at (suc k) (s ∷ bs) t e = stops_more n at k s bs t (λ a f. stops n (suc at) (a + k) bs t f) (arity_over n s) refl e

-- what is owed can be paid with `T`
paid : (n at k : ℕ) → check_from n at k (replicate k 84) ≡ Ok tt
paid n at zero = refl
paid n at (suc k) = reads n 84 0 at k k (replicate k 84) refl (zero-add k) ∙ paid n (suc at) k

back_byte : (p : ℕ) (front back bs : List ℕ) → front ++ back ≡ bs → p ≡ length front → p < length bs → (s : ℕ) × ((cs : List ℕ) × (back ≡ s ∷ cs))
back_byte p front [] bs w e h = absurd (omega (arith, length-append front [], ap length w))
back_byte p front (s ∷ cs) bs w e h = (s, (cs, refl))

module _ (n : ℕ) (bs : List ℕ) (t : FormulaFault) (m : n ≤ 26) (e : check_from n 0 1 bs ≡ Err t) where
  fault_first : FirstFault n bs (formula_place t)
  fault_first =
      let w = stops n 0 1 bs t e in
      let p : formula_place t ≡ length w.front = w.place ∙ zero-add (length w.front) in
      let l = length-append w.front w.back in
      let z : take (formula_place t) bs ≡ w.front = ap (take (formula_place t)) (sym w.whole) ∙ take_at w.front w.back (formula_place t) (sym p) in
      record {
        within = omega (arith, ap length w.whole);
        before = subst (BeginsFormula n) (sym z) (replicate w.owed 84, passes_formula n (w.front ++ replicate w.owed 84) (w.passed (replicate w.owed 84) ∙ paid n (0 + length w.front) w.owed));
        not_on = λ h b. not_on w p (back_byte (formula_place t) w.front w.back bs w.whole p h) b;
        not_done = λ h f. refused (sym e ∙ formula_passes n m bs f);
      }
    where
      not_on : (w : Stopped n 0 1 bs t) → formula_place t ≡ length w.front → (s : ℕ) × ((cs : List ℕ) × (w.back ≡ s ∷ cs)) → BeginsFormula n (take (formula_place t + 1) bs) → ⊥
      not_on w p (s, (cs, b)) g =
          let whole : (w.front ++ s ∷ []) ++ cs ≡ bs = append_assoc w.front (s ∷ []) cs ∙ ap (λ xs. w.front ++ xs) (sym b) ∙ w.whole in
          let l : length (w.front ++ s ∷ []) ≡ formula_place t + 1 = length-append w.front (s ∷ []) ∙ omega arith in
          let z : take (formula_place t + 1) bs ≡ w.front ++ s ∷ [] = ap (take (formula_place t + 1)) (sym whole) ∙ take_at (w.front ++ s ∷ []) cs (formula_place t + 1) l in
          let rest = g.0 in
          let q : take (formula_place t + 1) bs ++ rest ≡ w.front ++ (s ∷ rest) = ap (λ xs. xs ++ rest) z ∙ append_assoc w.front (s ∷ []) rest in
          let d = w.bars s cs rest b in
          refused (sym d.1 ∙ sym (w.passed (s ∷ rest)) ∙ ap (check_from n 0 1) (sym q) ∙ formula_passes n m (take (formula_place t + 1) bs ++ rest) g.1)

pub checked_ok : (n : ℕ) (bs : List ℕ) → checked n bs ≡ Ok tt → length bs ≤ 200
checked_ok n bs e = elim (cases_lt 200 (length bs)) [ inl h ↦ absurd (refused (sym (checked_long n bs h) ∙ e)) | inr h ↦ h ]

pub check_accepts : (n : ℕ) (bs : List ℕ) (r : Result (Unit {0}) FormulaFault) → r ≡ checked n bs → n ≤ 26 → Accepts n bs r
check_accepts n bs r e m =
    record {
      only = λ ok. let h = checked_ok n bs (sym e ∙ ok) in let f = passes_formula n bs (sym (checked_short n bs h) ∙ sym e ∙ ok) in (f, formula_bytes f.1, h);
      all = λ f h. e ∙ checked_short n bs h ∙ formula_passes n m bs f;
    }

pub check_told : (n : ℕ) (bs : List ℕ) (r : Result (Unit {0}) FormulaFault) → r ≡ checked n bs → n ≤ 26 → ToldFirst n bs r
check_told n bs r e m t f h = fault_first n bs t m (sym (checked_short n bs h) ∙ sym e ∙ f)
