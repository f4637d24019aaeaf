-- Pairs of a header and the sections that they point at. Assumes nothing.
use Rattle.std.proofs.Common.{◌≡◌, ℕ, zero, suc, ◌+◌, ◌-◌, ◌*◌, ◌≤◌, Bool, true, false, not, ◌||◌, leb, List, [], ◌∷◌, ◌++◌, map, length, get_or, take, drop, Ok, sym, refl, ap, ◌∙◌, subst, arith, length-drop}
use Rattle.std.specs.List.{range_with_len}
use Rattle.std.proofs.lemmas.List.{append_assoc, length-append, drop_more, drop-drop, drop_at, take_at, take-append-drop, length-take-le, get_or-append-add}
use Rattle.std.proofs.lemmas.Bool.{and_parts, and_from, le-leb, leb-true, or_right}
use Rattle.sheets.specs.declared.fault.SheetFault.TheVariants.{Pair}
use Rattle.sheets.specs.Rules.{offset, size, ending, section_bytes}
use Rattle.sheets.specs.Reading.{then, ask, none_left, pair_fits, pairs_check}
use Rattle.sheets.specs.Layout.{PairsSpelled, no_pair, a_pair, Spread, any_rest, a_section}
use Rattle.sheets.proofs.Judging.{then_parts, ask_true}

-- the pair of section k
abbrev pub pair_of : List ℕ → ℕ → ℕ × ℕ
pair_of bs k = (offset bs k, size bs k)

-- four bytes and what follows them
four_more : (xs : List ℕ) (i : ℕ) → i + 4 ≤ length xs → drop i xs ≡ get_or xs i 0 ∷ get_or xs (i + 1) 0 ∷ get_or xs (i + 2) 0 ∷ get_or xs (i + 2 + 1) 0 ∷ drop (i + 4) xs
four_more xs i h =
    let a = drop_more xs i 0 (omega arith) in
    let b = drop_more xs (i + 1) 0 (omega arith) in
    let c = drop_more xs (i + 2) 0 (omega arith) in
    let d = drop_more xs (i + 2 + 1) 0 (omega arith) in
    let e : i + 1 + 1 ≡ i + 2 = omega arith in
    let f : i + 2 + 1 + 1 ≡ i + 4 = omega arith in
    a ∙ ap (λ ys. get_or xs i 0 ∷ ys) (b ∙ ap (λ ys. get_or xs (i + 1) 0 ∷ ys) (ap (λ j. drop j xs) e ∙ c ∙ ap (λ ys. get_or xs (i + 2) 0 ∷ ys) (d ∙ ap (λ j. get_or xs (i + 2 + 1) 0 ∷ drop j xs) f)))

-- the pairs that a header's bytes spell are those that are read there
pub pairs_here : (bs : List ℕ) (k m : ℕ) → 2 + 4 * k + 4 * m ≤ length bs → PairsSpelled (map (pair_of bs) (range_with_len k m)) (take (4 * m) (drop (2 + 4 * k) bs))
pairs_here bs k zero h = no_pair
pairs_here bs k (suc m) h =
    let f = four_more bs (2 + 4 * k) (omega arith) in
    let g : 4 * suc m ≡ suc (suc (suc (suc (4 * m)))) = omega arith in
    let e : 2 + 4 * k + 4 ≡ 2 + 4 * (k + 1) = omega arith in
    let rest = pairs_here bs (k + 1) m (omega arith) in
    subst (λ xs. PairsSpelled (map (pair_of bs) (range_with_len k (suc m))) (take (4 * suc m) xs)) (sym f) (subst (λ j. PairsSpelled (map (pair_of bs) (range_with_len k (suc m))) (take j (get_or bs (2 + 4 * k) 0 ∷ get_or bs (2 + 4 * k + 1) 0 ∷ get_or bs (2 + 4 * k + 2) 0 ∷ get_or bs (2 + 4 * k + 2 + 1) 0 ∷ drop (2 + 4 * k + 4) bs))) (sym g) (a_pair (subst (λ j. PairsSpelled (map (pair_of bs) (range_with_len (k + 1) m)) (take (4 * m) (drop j bs))) (sym e) rest)))

-- what pairs that pass say of the first of them
last_within : (bs : List ℕ) (k : ℕ) (b : Bool) → b ≡ true → (not b || leb (ending bs k) (length bs)) ≡ true → ending bs k ≤ length bs
last_within bs k true e f = leb-true (ending bs k) (length bs) f
last_within bs k false e f = let z : ◌≡◌ {A = ℕ} 0 1 = cc in absurd (omega arith)

pub first_pair : (m : ℕ) (bs : List ℕ) (k end : ℕ) → pairs_check bs end (range_with_len k (suc m)) ≡ Ok tt → (end ≤ offset bs k) × (ending bs k ≤ length bs) × (pairs_check bs (ending bs k) (range_with_len (k + 1) m) ≡ Ok tt)
first_pair zero bs k end e =
    let p = then_parts (ask (pair_fits bs end k true) (Pair k)) (pairs_check bs (ending bs k) []) e in
    let q = and_parts (leb end (offset bs k)) (not true || leb (ending bs k) (length bs)) (ask_true (pair_fits bs end k true) (Pair k) p.0) in
    (leb-true end (offset bs k) q.0, last_within bs k true refl q.1, p.1)
first_pair (suc m) bs k end e =
    let p = then_parts (ask (pair_fits bs end k false) (Pair k)) (pairs_check bs (ending bs k) (range_with_len (k + 1) (suc m))) e in
    let q = and_parts (leb end (offset bs k)) (not false || leb (ending bs k) (length bs)) (ask_true (pair_fits bs end k false) (Pair k) p.0) in
    let r = first_pair m bs (k + 1) (ending bs k) p.1 in
    (leb-true end (offset bs k) q.0, omega arith, p.1)

-- pairs that pass spread their sections
pub spreads : (bs : List ℕ) (k m end : ℕ) → pairs_check bs end (range_with_len k m) ≡ Ok tt → Spread end (map (pair_of bs) (range_with_len k m)) (map (section_bytes bs) (range_with_len k m)) (drop end bs)
spreads bs k zero end e = any_rest
spreads bs k (suc m) end e =
    let f = first_pair m bs k end e in
    let o = offset bs k in
    let l = size bs k in
    let gap = take (o - end) (drop end bs) in
    let s = section_bytes bs k in
    let room = length-drop end bs in
    let room' = length-drop o bs in
    let gap-size : length gap ≡ o - end = length-take-le (o - end) (drop end bs) (omega arith) in
    let s-size : length s ≡ l = length-take-le l (drop o bs) (omega arith) in
    let past : end + (o - end) ≡ o = omega arith in
    let here : o ≡ end + length gap = omega arith in
    let after : drop o bs ≡ s ++ drop (o + l) bs = sym (take-append-drop l (drop o bs)) ∙ ap (λ xs. s ++ xs) (drop-drop l o bs) in
    let whole : drop end bs ≡ gap ++ (s ++ drop (o + l) bs) = sym (take-append-drop (o - end) (drop end bs)) ∙ ap (λ xs. gap ++ xs) (drop-drop (o - end) end bs ∙ ap (λ j. drop j bs) past ∙ after) in
    subst (λ xs. Spread end (map (pair_of bs) (range_with_len k (suc m))) (map (section_bytes bs) (range_with_len k (suc m))) xs) (sym whole) (a_section gap here (sym s-size) (spreads bs (k + 1) m (o + l) f.2))

-- bytes after a front
read_after : (pre ys : List ℕ) (i j : ℕ) → i ≡ length pre + j → get_or (pre ++ ys) i 0 ≡ get_or ys j 0
read_after pre ys i j e = ap (λ x. get_or (pre ++ ys) x 0) e ∙ get_or-append-add pre ys j 0

-- pairs read where a header's bytes spell them
pub pairs_read : {ps : List (ℕ × ℕ)} {hs : List ℕ} → PairsSpelled ps hs → (pre body : List ℕ) (k : ℕ) → length pre ≡ 2 + 4 * k → map (pair_of (pre ++ (hs ++ body))) (range_with_len k (length ps)) ≡ ps
pairs_read no_pair pre body k e = refl
pairs_read (a_pair {a = a} {b = b} {c = c} {d = d} {ps = ps} {bs = hs} r) pre body k e =
    let ys = a ∷ b ∷ c ∷ d ∷ (hs ++ body) in
    let bs = pre ++ ys in
    let ea = read_after pre ys (2 + 4 * k) 0 (omega arith) in
    let eb = read_after pre ys (2 + 4 * k + 1) 1 (omega arith) in
    let ec = read_after pre ys (2 + 4 * k + 2) 2 (omega arith) in
    let ed = read_after pre ys (2 + 4 * k + 2 + 1) 3 (omega arith) in
    let o : offset bs k ≡ a + 256 * b = ap (λ x. x + 256 * get_or bs (2 + 4 * k + 1) 0) ea ∙ ap (λ x. a + 256 * x) eb in
    let l : size bs k ≡ c + 256 * d = ap (λ x. x + 256 * get_or bs (2 + 4 * k + 2 + 1) 0) ec ∙ ap (λ x. c + 256 * x) ed in
    let front = pre ++ (a ∷ b ∷ c ∷ d ∷ []) in
    let whole : front ++ (hs ++ body) ≡ bs = append_assoc pre (a ∷ b ∷ c ∷ d ∷ []) (hs ++ body) in
    let far : length front ≡ 2 + 4 * (k + 1) = length-append pre (a ∷ b ∷ c ∷ d ∷ []) ∙ omega arith in
    let rest = ap (λ xs. map (pair_of xs) (range_with_len (k + 1) (length ps))) (sym whole) ∙ pairs_read r front body (k + 1) far in
    ap (λ x. (x, size bs k) ∷ map (pair_of bs) (range_with_len (k + 1) (length ps))) o ∙ ap (λ x. (a + 256 * b, x) ∷ map (pair_of bs) (range_with_len (k + 1) (length ps))) l ∙ ap (λ xs. (a + 256 * b, c + 256 * d) ∷ xs) rest

pub header_size : {ps : List (ℕ × ℕ)} {hs : List ℕ} → PairsSpelled ps hs → length hs ≡ 4 * length ps
header_size no_pair = refl
header_size (a_pair r) = omega (arith, header_size r)

pub spread_count : {at : ℕ} {ps : List (ℕ × ℕ)} {ss : List (List ℕ)} {xs : List ℕ} → Spread at ps ss xs → length ps ≡ length ss
spread_count any_rest = refl
spread_count (a_section gap o l r) = ap suc (spread_count r)

head_pair : {p q : ℕ × ℕ} {ps qs : List (ℕ × ℕ)} → p ∷ ps ≡ q ∷ qs → (p.0 ≡ q.0) × (p.1 ≡ q.1) × (ps ≡ qs)
head_pair {p} {q} e = let f : p ≡ q = cc in (ap (λ x. x.0) f, ap (λ x. x.1) f, cc)

-- sections that are spread are found where the pairs point, and the pairs pass
module _ (bs : List ℕ) where
  pub spread_found : {at : ℕ} {ps : List (ℕ × ℕ)} {ss : List (List ℕ)} {xs : List ℕ} → Spread at ps ss xs → (k : ℕ) → drop at bs ≡ xs → at ≤ length bs → map (pair_of bs) (range_with_len k (length ps)) ≡ ps → (pairs_check bs at (range_with_len k (length ps)) ≡ Ok tt) × (map (section_bytes bs) (range_with_len k (length ps)) ≡ ss)
  spread_found any_rest k e h f = (refl, refl)
  spread_found {at} (a_section {offset = o} {size = l} {section = s} {bs = ys} {ps = ps} gap eo el r) k e h f =
      let q = head_pair f in
      let here : drop o bs ≡ s ++ ys = ap (λ i. drop i bs) eo ∙ sym (drop-drop (length gap) at bs) ∙ ap (drop (length gap)) e ∙ drop_at gap (s ++ ys) (length gap) refl in
      let after : drop (o + l) bs ≡ ys = sym (drop-drop l o bs) ∙ ap (drop l) here ∙ drop_at s ys l (sym el) in
      let n = length-drop at bs in
      let n' = ap length e in
      let n'' = length-append gap (s ++ ys) in
      let n''' = length-append s ys in
      let within : o + l ≤ length bs = omega arith in
      let end : ending bs k ≡ o + l = ap (λ x. x + size bs k) q.0 ∙ ap (λ x. o + x) q.1 in
      let i = spread_found r (k + 1) after within q.2 in
      let low : leb at (offset bs k) ≡ true = le-leb at (offset bs k) (omega (arith, q.0)) in
      let high : leb (ending bs k) (length bs) ≡ true = le-leb (ending bs k) (length bs) (omega arith) in
      let last = none_left (range_with_len (k + 1) (length ps)) in
      let fits : pair_fits bs at k last ≡ true = and_from (leb at (offset bs k)) (not last || leb (ending bs k) (length bs)) low (or_right (not last) (leb (ending bs k) (length bs)) high) in
      let found : section_bytes bs k ≡ s = ap (λ x. take x (drop (offset bs k) bs)) q.1 ∙ ap (λ x. take l (drop x bs)) q.0 ∙ ap (take l) here ∙ take_at s ys l (sym el) in
      (ap (λ b. then (ask b (Pair k)) (pairs_check bs (ending bs k) (range_with_len (k + 1) (length ps)))) fits ∙ ap (λ x. pairs_check bs x (range_with_len (k + 1) (length ps))) end ∙ i.0, ap (λ x. x ∷ map (section_bytes bs) (range_with_len (k + 1) (length ps))) found ∙ ap (λ xs. s ∷ xs) i.1)
