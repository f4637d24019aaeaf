-- A sheet is accepted exactly if it is laid out by the rules. Assumes nothing.
use Rattle.std.proofs.Common.{◌≡◌, ℕ, zero, suc, ◌+◌, ◌*◌, ◌≤◌, true, ◌&&◌, eqb, leb, List, [], ◌∷◌, ◌++◌, map, length, get_or, take, drop, Ok, Err, Result, sym, refl, ap, ◌∙◌, subst, arith}
use Rattle.std.specs.List.{range_with_len}
use Rattle.std.proofs.lemmas.List.FromFn.{length-map-range_with_len}
use Rattle.std.proofs.lemmas.List.{length-append, drop-drop, drop_at, take_all, take-append-drop, length-take-le}
use Rattle.std.proofs.lemmas.Bool.{and_parts, and_from, le-leb, leb-true, eqb-true, eq-eqb}
use Rattle.sheets.specs.declared.fault.SectionFault.{SectionFault}
use Rattle.sheets.specs.declared.fault.SectionFault.TheVariants as section_fault
use Rattle.sheets.specs.declared.fault.SheetFault.{SheetFault}
use Rattle.sheets.specs.declared.fault.SheetFault.TheVariants as sheet_fault
use Rattle.sheets.specs.Events.{Entry, events_of}
use Rattle.sheets.specs.Rules.{features_fit, acts_fit, start_fits, low_first, mask_of, section_count, header_end, offset, section_bytes}
use Rattle.sheets.specs.Sections.{act, named}
use Rattle.sheets.specs.Reading.{then, ask, start_check, formula_check, act_check, part_check, in_sheet, sections_check, pairs_check, header_check, section_numbers, sheet_check, Parts, parts_at, read_sheet}
use Rattle.sheets.specs.Layout.{ActsSpelled, no_act, an_act, Spread, LaidOut, AcceptsLayout}
use Rattle.sheets.proofs.Splitting.{refused}
use Rattle.sheets.proofs.Judging.{then_parts, ask_true}
use Rattle.sheets.proofs.Acting.{formula_only, formula_all, act_only, act_all}
use Rattle.sheets.proofs.Spreading.{pair_of, pairs_here, spreads, pairs_read, header_size, spread_count, spread_found}
use Rattle.sheets.proofs.Walking.{same_parts}

few_letters : (n : ℕ) → features_fit n ≡ true → n ≤ 26
few_letters n e = let l = leb-true n 6 (and_parts (leb 1 n) (leb n 6) e).1 in omega arith

in_sheet_passed : (s at : ℕ) (r : Result (Unit {0}) SectionFault) → in_sheet s at r ≡ Ok tt → r ≡ Ok tt
in_sheet_passed s at (Ok tt) e = refl
in_sheet_passed s at (Err t) e = absurd (refused e)

-- the first of the sections that pass, and the others
first_passed : (bs : List ℕ) (k : ℕ) (ks : List ℕ) → sections_check bs (k ∷ ks) ≡ Ok tt → (part_check (get_or bs 0 0) (named k (section_bytes bs k)) ≡ Ok tt) × (sections_check bs ks ≡ Ok tt)
first_passed bs k ks e =
    let p = then_parts (in_sheet (k + 1) (offset bs k) (part_check (get_or bs 0 0) (named k (section_bytes bs k)))) (sections_check bs ks) e in
    (in_sheet_passed (k + 1) (offset bs k) (part_check (get_or bs 0 0) (named k (section_bytes bs k))) p.0, p.1)

first_passes : (bs : List ℕ) (k : ℕ) (ks : List ℕ) → part_check (get_or bs 0 0) (named k (section_bytes bs k)) ≡ Ok tt → sections_check bs ks ≡ Ok tt → sections_check bs (k ∷ ks) ≡ Ok tt
first_passes bs k ks e f = ap (λ r. then (in_sheet (k + 1) (offset bs k) r) (sections_check bs ks)) e ∙ f

act_named : (k : ℕ) (bs : List ℕ) → 2 ≤ k → named k bs ≡ act bs
act_named zero bs h = absurd (omega arith)
act_named (suc zero) bs h = absurd (omega arith)
act_named (suc (suc k)) bs h = refl

module _ (bs : List ℕ) (l : get_or bs 0 0 ≤ 26) where
  acts_only : (k m : ℕ) → 2 ≤ k → sections_check bs (range_with_len k m) ≡ Ok tt → ActsSpelled (get_or bs 0 0) (map (section_bytes bs) (range_with_len k m)) (map (λ k. events_of (section_bytes bs k)) (range_with_len k m))
  acts_only k zero h e = no_act
  acts_only k (suc m) h e =
      let p = first_passed bs k (range_with_len (k + 1) m) e in
      an_act (act_only (get_or bs 0 0) l (section_bytes bs k) (sym (ap (part_check (get_or bs 0 0)) (act_named k (section_bytes bs k) h)) ∙ p.0)) (acts_only (k + 1) m (omega arith) p.1)

  acts_all : {texts : List (List ℕ)} {acts : List (List Entry)} → ActsSpelled (get_or bs 0 0) texts acts → (k : ℕ) → 2 ≤ k → map (section_bytes bs) (range_with_len k (length acts)) ≡ texts → (sections_check bs (range_with_len k (length acts)) ≡ Ok tt) × (map (λ k. events_of (section_bytes bs k)) (range_with_len k (length acts)) ≡ acts)
  acts_all no_act k h e = (refl, refl)
  acts_all (an_act {bs = xs} {es = es} {texts = texts} {acts = acts} r rs) k h e =
      let here : section_bytes bs k ≡ xs = cc in
      let rest : map (section_bytes bs) (range_with_len (k + 1) (length acts)) ≡ texts = cc in
      let i = acts_all rs (k + 1) (omega arith) rest in
      let a = act_all (get_or bs 0 0) l xs es r in
      (first_passes bs k (range_with_len (k + 1) (length acts)) (ap (part_check (get_or bs 0 0)) (act_named k (section_bytes bs k) h) ∙ ap (act_check (get_or bs 0 0)) here ∙ a.0) i.0, ap (λ x. events_of x ∷ map (λ k. events_of (section_bytes bs k)) (range_with_len (k + 1) (length acts))) here ∙ ap (λ x. x ∷ map (λ k. events_of (section_bytes bs k)) (range_with_len (k + 1) (length acts))) a.1 ∙ ap (λ x. es ∷ x) i.1)

acts_count : {n : ℕ} {texts : List (List ℕ)} {acts : List (List Entry)} → ActsSpelled n texts acts → length texts ≡ length acts
acts_count no_act = refl
acts_count (an_act r rs) = ap suc (acts_count rs)

-- what a header that passes says
record HeaderRight (bs : List ℕ) : Type 0 where
  low : 2 ≤ length bs
  high : length bs ≤ 16384
  features : features_fit (get_or bs 0 0) ≡ true
  acts : acts_fit (get_or bs 1 0) ≡ true
  room : header_end (get_or bs 1 0) ≤ length bs

header_only : (bs : List ℕ) → header_check bs ≡ Ok tt → HeaderRight bs
header_only bs e =
    let sized = leb 2 (length bs) && leb (length bs) 16384 in
    let room = leb (header_end (get_or bs 1 0)) (length bs) in
    let last = then (ask (acts_fit (get_or bs 1 0)) sheet_fault.Acts) (ask room sheet_fault.Header) in
    let p = then_parts (ask sized sheet_fault.Size) (then (ask (features_fit (get_or bs 0 0)) sheet_fault.Features) last) e in
    let q = then_parts (ask (features_fit (get_or bs 0 0)) sheet_fault.Features) last p.1 in
    let r = then_parts (ask (acts_fit (get_or bs 1 0)) sheet_fault.Acts) (ask room sheet_fault.Header) q.1 in
    let s = and_parts (leb 2 (length bs)) (leb (length bs) 16384) (ask_true sized sheet_fault.Size p.0) in
    record {
      low = leb-true 2 (length bs) s.0;
      high = leb-true (length bs) 16384 s.1;
      features = ask_true (features_fit (get_or bs 0 0)) sheet_fault.Features q.0;
      acts = ask_true (acts_fit (get_or bs 1 0)) sheet_fault.Acts r.0;
      room = leb-true (header_end (get_or bs 1 0)) (length bs) (ask_true room sheet_fault.Header r.1);
    }

header_all : (bs : List ℕ) → HeaderRight bs → header_check bs ≡ Ok tt
header_all bs h =
    let room = leb (header_end (get_or bs 1 0)) (length bs) in
    let last = then (ask (acts_fit (get_or bs 1 0)) sheet_fault.Acts) (ask room sheet_fault.Header) in
    ap (λ b. then (ask b sheet_fault.Size) (then (ask (features_fit (get_or bs 0 0)) sheet_fault.Features) last)) (and_from (leb 2 (length bs)) (leb (length bs) 16384) (le-leb 2 (length bs) h.low) (le-leb (length bs) 16384 h.high)) ∙ ap (λ b. then (ask b sheet_fault.Features) last) h.features ∙ ap (λ b. then (ask b sheet_fault.Acts) (ask room sheet_fault.Header)) h.acts ∙ ap (λ b. ask b sheet_fault.Header) (le-leb (header_end (get_or bs 1 0)) (length bs) h.room)

-- the start, from its check and to it
start_only : (n : ℕ) (bs : List ℕ) → start_check n bs ≡ Ok tt → (length bs ≡ 8) × (start_fits n (mask_of bs) ≡ true)
start_only n bs e =
    let p = and_parts (eqb (length bs) 8) (start_fits n (mask_of bs)) (ask_true (eqb (length bs) 8 && start_fits n (mask_of bs)) section_fault.Start e) in
    (eqb-true (length bs) 8 p.0, p.1)

start_all : (n : ℕ) (bs : List ℕ) → length bs ≡ 8 → start_fits n (mask_of bs) ≡ true → start_check n bs ≡ Ok tt
start_all n bs e f = ap (λ b. ask b section_fault.Start) (and_from (eqb (length bs) 8) (start_fits n (mask_of bs)) (eq-eqb (length bs) 8 e) f)

mask_whole : (bs : List ℕ) → length bs ≡ 8 → mask_of bs ≡ low_first bs
mask_whole bs e = ap low_first (take_all 8 bs (omega arith))

-- the start and the goal are before the acts
numbers_are : (a : ℕ) → range_with_len 0 (section_count a) ≡ 0 ∷ 1 ∷ range_with_len 2 a
numbers_are a = let e : a + 2 ≡ suc (suc a) = omega arith in ap (range_with_len 0) e

record Passed (bs : List ℕ) : Type 0 where
  header : HeaderRight bs
  pairs : pairs_check bs (header_end (get_or bs 1 0)) (0 ∷ 1 ∷ range_with_len 2 (get_or bs 1 0)) ≡ Ok tt
  start : start_check (get_or bs 0 0) (section_bytes bs 0) ≡ Ok tt
  goal : formula_check (get_or bs 0 0) 0 (section_bytes bs 1) ≡ Ok tt
  acts : sections_check bs (range_with_len 2 (get_or bs 1 0)) ≡ Ok tt

passed_only : (bs : List ℕ) → sheet_check bs ≡ Ok tt → Passed bs
passed_only bs e =
    let a = get_or bs 1 0 in
    let p = then_parts (header_check bs) (then (pairs_check bs (header_end a) (section_numbers bs)) (sections_check bs (section_numbers bs))) e in
    let q = then_parts (pairs_check bs (header_end a) (section_numbers bs)) (sections_check bs (section_numbers bs)) p.1 in
    let s = sym (ap (sections_check bs) (numbers_are a)) ∙ q.1 in
    let t = first_passed bs 0 (1 ∷ range_with_len 2 a) s in
    let u = first_passed bs 1 (range_with_len 2 a) t.1 in
    record {
      header = header_only bs p.0;
      pairs = sym (ap (pairs_check bs (header_end a)) (numbers_are a)) ∙ q.0;
      start = t.0;
      goal = u.0;
      acts = u.1;
    }

passed_all : (bs : List ℕ) → Passed bs → sheet_check bs ≡ Ok tt
passed_all bs p =
    let a = get_or bs 1 0 in
    let s = ap (sections_check bs) (numbers_are a) ∙ first_passes bs 0 (1 ∷ range_with_len 2 a) p.start (first_passes bs 1 (range_with_len 2 a) p.goal p.acts) in
    let q = ap (pairs_check bs (header_end a)) (numbers_are a) ∙ p.pairs in
    ap (λ r. then r (then (pairs_check bs (header_end a) (section_numbers bs)) (sections_check bs (section_numbers bs)))) (header_all bs p.header) ∙ ap (λ r. then r (sections_check bs (section_numbers bs))) q ∙ s

-- a sheet that passes is laid out
laid : (bs : List ℕ) → Passed bs → LaidOut bs (parts_at bs)
laid [] p = absurd (omega (arith, p.header.low))
laid (_ ∷ []) p = absurd (omega (arith, p.header.low))
laid (n ∷ a ∷ xs) p =
    let bs = n ∷ a ∷ xs in
    let h = p.header in
    let m = few_letters n h.features in
    let size = 4 * suc (suc a) in
    let acts = length-map-range_with_len (λ k. events_of (section_bytes bs k)) 2 a in
    let long : length (take size xs) ≡ size = length-take-le size xs (omega (arith, h.room)) in
    let place : header_end a ≡ 2 + length (take size xs) = omega arith in
    let behind : drop (2 + size) bs ≡ drop size xs = sym (drop-drop size 2 bs) in
    let at : header_end a ≡ 2 + size = omega arith in
    let s = start_only n (section_bytes bs 0) p.start in
    let g = formula_only n m 0 (section_bytes bs 1) p.goal in
    record {
      pairs = map (pair_of bs) (range_with_len 0 (suc (suc a)));
      header = take size xs;
      body = drop size xs;
      mask = section_bytes bs 0;
      texts = map (section_bytes bs) (range_with_len 2 a);
      whole = ap (λ ys. n ∷ a ∷ ys) (sym (take-append-drop size xs)) ∙ ap (λ k. n ∷ k ∷ (take size xs ++ drop size xs)) (sym acts);
      short = h.high;
      features = h.features;
      acts = ap acts_fit acts ∙ h.acts;
      header_spelled = pairs_here bs 0 (suc (suc a)) (omega (arith, h.room));
      spread = subst (λ i. Spread i (map (pair_of bs) (range_with_len 0 (suc (suc a)))) (map (section_bytes bs) (range_with_len 0 (suc (suc a)))) (drop size xs)) place (subst (Spread (header_end a) (map (pair_of bs) (range_with_len 0 (suc (suc a)))) (map (section_bytes bs) (range_with_len 0 (suc (suc a))))) (ap (λ i. drop i bs) at ∙ behind) (spreads bs 0 (suc (suc a)) (header_end a) p.pairs));
      mask_size = s.0;
      mask_is = sym (mask_whole (section_bytes bs 0) s.0);
      start = s.1;
      goal = g.0;
      goal_short = g.1;
      acts_spelled = acts_only bs m 2 a (omega arith) p.acts;
    }

-- a sheet that is laid out passes, and says its parts
module _ (bs : List ℕ) (p : Parts) (l : LaidOut bs p) where
  sheet : List ℕ
  sheet = p.features ∷ length p.acts ∷ (l.header ++ l.body)

  letters : p.features ≤ 26
  letters = few_letters p.features l.features

  count : length l.pairs ≡ suc (suc (length p.acts))
  count = spread_count l.spread ∙ ap (λ k. suc (suc k)) (acts_count l.acts_spelled)

  header_long : length l.header ≡ 4 * suc (suc (length p.acts))
  header_long = header_size l.header_spelled ∙ ap (λ k. 4 * k) count

  found : (pairs_check sheet (header_end (length p.acts)) (0 ∷ 1 ∷ range_with_len 2 (length p.acts)) ≡ Ok tt) × (map (section_bytes sheet) (0 ∷ 1 ∷ range_with_len 2 (length p.acts)) ≡ l.mask ∷ p.goal ∷ l.texts)
  unfolding sheet
  found =
      let end = 2 + length l.header in
      let long = header_long in
      let size = length-append l.header l.body in
      let behind : drop end sheet ≡ l.body = sym (drop-drop (length l.header) 2 sheet) ∙ drop_at l.header l.body (length l.header) refl in
      let f = spread_found sheet l.spread 0 behind (omega arith) (pairs_read l.header_spelled (p.features ∷ length p.acts ∷ []) l.body 0 refl) in
      let at : end ≡ header_end (length p.acts) = omega arith in
      (ap (λ i. pairs_check sheet i (0 ∷ 1 ∷ range_with_len 2 (length p.acts))) (sym at) ∙ ap (λ k. pairs_check sheet end (range_with_len 0 k)) (sym count) ∙ f.0, ap (λ k. map (section_bytes sheet) (range_with_len 0 k)) (sym count) ∙ f.1)

  mask_here : section_bytes sheet 0 ≡ l.mask
  mask_here = let f = found.1 in cc

  goal_here : section_bytes sheet 1 ≡ p.goal
  goal_here = let f = found.1 in cc

  acts_here : (sections_check sheet (range_with_len 2 (length p.acts)) ≡ Ok tt) × (map (λ k. events_of (section_bytes sheet k)) (range_with_len 2 (length p.acts)) ≡ p.acts)
  unfolding sheet
  acts_here = let f = found.1 in let rest : map (section_bytes sheet) (range_with_len 2 (length p.acts)) ≡ l.texts = cc in acts_all sheet letters l.acts_spelled 2 (omega arith) rest

  start_here : mask_of (section_bytes sheet 0) ≡ p.start
  start_here = ap mask_of mask_here ∙ mask_whole l.mask l.mask_size ∙ l.mask_is

  passed : Passed sheet
  unfolding sheet
  passed =
      let long = header_long in
      let size = length-append l.header l.body in
      let w = ap length l.whole in
      record {
        header = record { low = omega arith; high = omega (arith, l.short); features = l.features; acts = l.acts; room = omega arith };
        pairs = found.0;
        start = start_all p.features (section_bytes sheet 0) (ap length mask_here ∙ l.mask_size) (ap (start_fits p.features) start_here ∙ l.start);
        goal = ap (formula_check p.features 0) goal_here ∙ formula_all p.features letters 0 p.goal l.goal l.goal_short;
        acts = acts_here.0;
      }

  read_here : read_sheet sheet ≡ Ok p
  unfolding sheet
  read_here = ap (λ r. elim r [ Ok _ ↦ Ok (parts_at sheet) | Err t ↦ Err t ]) (passed_all sheet passed) ∙ ap Ok (same_parts refl start_here goal_here acts_here.1)

  laid_read : read_sheet bs ≡ Ok p
  unfolding sheet
  laid_read = ap read_sheet l.whole ∙ read_here

read_only : (bs : List ℕ) (p : Parts) → read_sheet bs ≡ Ok p → LaidOut bs p
read_only bs p e = go (sheet_check bs) refl e
  where
    go : (r : Result (Unit {0}) SheetFault) → sheet_check bs ≡ r → ◌≡◌ {A = Result Parts SheetFault} (elim r [ Ok _ ↦ Ok (parts_at bs) | Err t ↦ Err t ]) (Ok p) → LaidOut bs p
    go (Ok tt) f g = let q : parts_at bs ≡ p = cc in subst (LaidOut bs) q (laid bs (passed_only bs f))
    go (Err t) f g = absurd (refused g)

pub accepts_layout : (bs : List ℕ) (r : Result Parts SheetFault) → r ≡ read_sheet bs → AcceptsLayout bs r
accepts_layout bs r e = record { only = λ p f. read_only bs p (sym e ∙ f); all = λ p l. e ∙ laid_read bs p l }
