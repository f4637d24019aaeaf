-- How a formula is read sign by sign, and that the text of a formula is read as that formula. Assumes nothing.
use Rattle.std.proofs.Common.{◌≡◌, ℕ, zero, suc, ◌+◌, ◌-◌, ◌<◌, ◌≤◌, cond, ◌&&◌, eqb, ltb, leb, List, [], ◌∷◌, ◌++◌, length, get_or, take, drop, sym, refl, ap, ◌∙◌, append_assoc, append-nil, arith, length-drop, length-take}
use Rattle.std.proofs.lemmas.Slice.{first_rest}
use Rattle.std.proofs.lemmas.Bool.{ne_eqb, le-leb, lt-ltb, cond-true, cond-false, and_from}
use Rattle.sheets.specs.Formulas.{Formula, top, letter, neg, and, or, K, M, Spells, spells_top, spells_letter, spells_neg, spells_and, spells_or, spells_K, spells_M}
use Rattle.knowledge.specs.Texts.{Read, never, atom, Sign, alone, one, two, sign, governed, read_within, read}

module _ (n : ℕ) where
  -- what is left is no longer than the text
  governed_shorter : (after : List ℕ → Read) → ((bs : List ℕ) → length (after bs).rest ≤ length bs) → (bs : List ℕ) (s : Sign) → length (governed after bs s).rest ≤ length bs
  governed_shorter after h bs (alone f) = omega arith
  governed_shorter after h bs (one g) = h bs
  governed_shorter after h bs (two g) = omega (arith, h bs, h (after bs).rest)

  within_shorter : (k : ℕ) (bs : List ℕ) → length (read_within n k bs).rest ≤ length bs
  within_shorter zero bs = omega arith
  within_shorter (suc k) [] = omega arith
  within_shorter (suc k) (b ∷ bs) =
      omega (arith, governed_shorter (read_within n k) (within_shorter k) bs (sign n b))

  rest_shorter : (bs : List ℕ) → length (read n bs).rest ≤ length bs
  rest_shorter bs = within_shorter (length bs) bs

  -- as many steps as there are bytes are enough
  governed_same : (f g : List ℕ → Read) (bs : List ℕ) → length (f bs).rest ≤ length bs → ((cs : List ℕ) → length cs ≤ length bs → f cs ≡ g cs) → (s : Sign) → governed f bs s ≡ governed g bs s
  governed_same f g bs short h (alone x) = refl
  governed_same f g bs short h (one x) = ap (λ r. record { formula = x r.formula; rest = r.rest }) (h bs (omega arith))
  governed_same f g bs short h (two x) =
      let e = h bs (omega arith) in
      let d : f (f bs).rest ≡ g (g bs).rest = h (f bs).rest short ∙ ap (λ r. g r.rest) e in
      ap (λ r. record { formula = x r.formula (f (f bs).rest).formula; rest = (f (f bs).rest).rest }) e
      ∙ ap (λ r. record { formula = x (g bs).formula r.formula; rest = r.rest }) d

  enough : (k j : ℕ) (bs : List ℕ) → length bs ≤ k → length bs ≤ j → read_within n k bs ≡ read_within n j bs
  enough zero zero bs h l = refl
  enough zero (suc j) [] h l = refl
  enough zero (suc j) (b ∷ bs) h l = absurd (omega arith)
  enough (suc k) zero [] h l = refl
  enough (suc k) zero (b ∷ bs) h l = absurd (omega arith)
  enough (suc k) (suc j) [] h l = refl
  enough (suc k) (suc j) (b ∷ bs) h l =
      governed_same (read_within n k) (read_within n j) bs (within_shorter k bs) (λ cs s. enough k j cs (omega arith) (omega arith)) (sign n b)

  -- a text is read by its first sign
  read_sign : (b : ℕ) (bs : List ℕ) (s : Sign) → sign n b ≡ s → read n (b ∷ bs) ≡ governed (read n) bs s
  read_sign b bs s e =
      ap (governed (read_within n (length bs)) bs) e
      ∙ governed_same (read_within n (length bs)) (read n) bs (within_shorter (length bs) bs) (λ cs l. enough (length bs) (length cs) cs l (omega arith)) s

  -- a byte that governs nothing
  pub other_sign : (b : ℕ) → (b ≡ 33 → ⊥) → (b ≡ 75 → ⊥) → (b ≡ 77 → ⊥) → (b ≡ 38 → ⊥) → (b ≡ 124 → ⊥) → sign n b ≡ alone (atom n b)
  other_sign b p q r s t =
      let after-or = cond (eqb b 124) (two or) (alone (atom n b)) in
      let after-and = cond (eqb b 38) (two and) after-or in
      let after-M = cond (eqb b 77) (one M) after-and in
      let after-K = cond (eqb b 75) (one K) after-M in
      cond-false (eqb b 33) (one neg) after-K (ne_eqb b 33 p)
      ∙ cond-false (eqb b 75) (one K) after-M (ne_eqb b 75 q)
      ∙ cond-false (eqb b 77) (one M) after-and (ne_eqb b 77 r)
      ∙ cond-false (eqb b 38) (two and) after-or (ne_eqb b 38 s)
      ∙ cond-false (eqb b 124) (two or) (alone (atom n b)) (ne_eqb b 124 t)

  letter_atom : (i : ℕ) → i < n → atom n (97 + i) ≡ letter i
  letter_atom i h =
      let same : (97 + i) - 97 ≡ i = omega arith in
      let is_letter = leb 97 (97 + i) && ltb ((97 + i) - 97) n in
      cond-false (eqb (97 + i) 84) top (cond is_letter (letter ((97 + i) - 97)) never) (ne_eqb (97 + i) 84 (λ e. omega arith))
      ∙ cond-true is_letter (letter ((97 + i) - 97)) never (and_from (leb 97 (97 + i)) (ltb ((97 + i) - 97) n) (le-leb 97 (97 + i) (omega arith)) (lt-ltb ((97 + i) - 97) n (omega arith)))
      ∙ ap letter same

  both : (b : ℕ) (join : Formula → Formula → Formula) → sign n b ≡ two join → (f g : Formula) (bs ds cs : List ℕ) → read n (bs ++ (ds ++ cs)) ≡ record { formula = f; rest = ds ++ cs } → read n (ds ++ cs) ≡ record { formula = g; rest = cs } → read n (b ∷ ((bs ++ ds) ++ cs)) ≡ record { formula = join f g; rest = cs }
  both b join is f g bs ds cs first second =
      let whole : read n ((bs ++ ds) ++ cs) ≡ record { formula = f; rest = ds ++ cs } = ap (read n) (append_assoc bs ds cs) ∙ first in
      read_sign b ((bs ++ ds) ++ cs) (two join) is
      ∙ ap (λ r. record { formula = join r.formula (read n r.rest).formula; rest = (read n r.rest).rest }) whole
      ∙ ap (λ r. record { formula = join f r.formula; rest = r.rest }) second

  -- the text of a formula, with any bytes after it, is read as that formula
  pub read_spelled : n ≤ 6 → {f : Formula} {bs : List ℕ} → Spells n f bs → (cs : List ℕ) → read n (bs ++ cs) ≡ record { formula = f; rest = cs }
  read_spelled few spells_top cs = read_sign 84 cs (alone top) refl
  read_spelled few (spells_letter i h) cs =
      read_sign (97 + i) cs (alone (letter i))
      (other_sign (97 + i) (λ e. omega arith) (λ e. omega arith) (λ e. omega arith) (λ e. omega arith) (λ e. omega arith) ∙ ap alone (letter_atom i h))
  read_spelled few (spells_neg {f = f} {bs = bs} s) cs = read_sign 33 (bs ++ cs) (one neg) refl ∙ ap (λ r. record { formula = neg r.formula; rest = r.rest }) (read_spelled few s cs)
  read_spelled few (spells_K {f = f} {bs = bs} s) cs = read_sign 75 (bs ++ cs) (one K) refl ∙ ap (λ r. record { formula = K r.formula; rest = r.rest }) (read_spelled few s cs)
  read_spelled few (spells_M {f = f} {bs = bs} s) cs = read_sign 77 (bs ++ cs) (one M) refl ∙ ap (λ r. record { formula = M r.formula; rest = r.rest }) (read_spelled few s cs)
  read_spelled few (spells_and {f = f} {g = g} {bs = bs} {cs = ds} s t) cs =
      both 38 and refl f g bs ds cs (read_spelled few s (ds ++ cs)) (read_spelled few t cs)
  read_spelled few (spells_or {f = f} {g = g} {bs = bs} {cs = ds} s t) cs =
      both 124 or refl f g bs ds cs (read_spelled few s (ds ++ cs)) (read_spelled few t cs)

-- a text is read by its first byte
pub read_first : (n b : ℕ) (s : Sign) (bs : List ℕ) → 1 ≤ length bs → get_or bs 0 0 ≡ b → sign n b ≡ s → read n bs ≡ governed (read n) (take (length bs - 1) (drop 1 bs)) s
read_first n b s bs h is e =
    let rest = take (length bs - 1) (drop 1 bs) in
    ap (read n) (first_rest bs 0 h ∙ ap (λ x. x ∷ rest) is) ∙ read_sign n b rest s e

-- what is left after the first of two formulas is shorter than the text that their sign begins
pub left_shorter : (n : ℕ) (bs rest : List ℕ) → 1 ≤ length bs → rest ≡ (read n (take (length bs - 1) (drop 1 bs))).rest → length rest < length bs
left_shorter n bs rest some is =
    omega (arith, ap length is, rest_shorter n (take (length bs - 1) (drop 1 bs)), length-take (length bs - 1) (drop 1 bs), length-drop 1 bs, some)

-- the whole text of a formula is read as that formula, and nothing is left
pub read_whole : (n : ℕ) → n ≤ 6 → {f : Formula} {bs : List ℕ} → Spells n f bs → read n bs ≡ record { formula = f; rest = [] }
read_whole n few {f} {bs} s = ap (read n) (sym (append-nil bs)) ∙ read_spelled n few s []
