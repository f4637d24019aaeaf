-- An act judged by the list of its events. Assumes nothing.
use Rattle.std.proofs.Common.{◌≡◌, ℕ, zero, suc, ◌+◌, ◌-◌, ◌*◌, ◌<◌, ◌≤◌, ◌≢◌, Bool, true, false, eqb, List, [], ◌∷◌, length, Some, None, Ok, Err, Option, Result, sym, refl, ap, ◌∙◌, inl, inr, arith}
use Rattle.std.proofs.lemmas.Bool.{cases_eq, eq-eqb, ne_eqb, eqb-true}
use Rattle.std.proofs.lemmas.List.{length-append, nil_from_length}
use Rattle.sheets.specs.declared.fault.SectionFault.{SectionFault}
use Rattle.sheets.specs.declared.fault.SectionFault.TheVariants.{Event}
use Rattle.sheets.specs.Events.{Entry, first_event, events_within, events_of}
use Rattle.sheets.specs.Reading.{then, ask, event_check, events_check, act_check}
use Rattle.sheets.proofs.Splitting.{events_more, events_none, within_step, within_end}
use Rattle.sheets.proofs.Judging.{some_byte, events_step, act_some}
use Rattle.sheets.proofs.Acting.{first_is}

-- how many bytes events have
abbrev pub total : List Entry → ℕ
total [] = 0
total (e ∷ es) = 4 + length e.condition + total es

-- events from a place of the section on are right, and no more than so many, and no byte is spare after them
abbrev pub judged : ℕ → ℕ → ℕ → ℕ → List Entry → Result (Unit {0}) SectionFault
judged n at left spare [] = ask (eqb spare 0) (Event at)
judged n at zero spare (_ ∷ _) = Err (Event at)
judged n at (suc left) spare (e ∷ es) = then (event_check n at e) (judged n (at + 4 + length e.condition) left spare es)

-- where the first event is whole, its bytes and those after it are all
size_more : (bs : List ℕ) (e : Entry) (rest : List ℕ) → first_event bs ≡ Some (e, rest) → 4 + length e.condition + length rest ≡ length bs
size_more bs e rest f =
    let h = ap length (first_is bs e rest f) in
    let l = length-append e.condition rest in
    omega arith

-- bytes that are not empty, and whose first event is cut short
cut_short : (n at left spare : ℕ) (bs : List ℕ) → 0 < length bs → total (events_of bs) + spare ≡ length bs → first_event bs ≡ None → Err (Event at) ≡ judged n at left spare (events_of bs)
cut_short n at left spare bs h e f =
    let g = events_none bs f in
    let t = ap total g in
    let s : spare ≢ 0 = λ z. omega arith in
    sym (ap (judged n at left spare) g ∙ ap (λ b. ask b (Event at)) (ne_eqb spare 0 s))

judged_more : (n left at : ℕ) (bs : List ℕ) (spare : ℕ) → 0 < length bs → total (events_of bs) + spare ≡ length bs → ((at : ℕ) (rest : List ℕ) → total (events_of rest) + spare ≡ length rest → events_check n at left rest ≡ judged n at left spare (events_of rest)) → (o : Option (Entry × List ℕ)) → first_event bs ≡ o → events_check n at (suc left) bs ≡ judged n at (suc left) spare (events_of bs)
judged_more n left at bs spare h e i (Some p) f =
    let g = events_more bs p.0 p.1 f in
    let t = ap total g in
    let s = size_more bs p.0 p.1 f in
    let l : suc left - 1 ≡ left = omega arith in
    let next = at + 4 + length p.0.condition in
    events_step n at (suc left) bs h (omega arith) (Some p) f ∙ ap (λ k. then (event_check n at p.0) (events_check n next k p.1)) l ∙ ap (then (event_check n at p.0)) (i next p.1 (omega arith)) ∙ sym (ap (judged n at (suc left) spare) g)
judged_more n left at bs spare h e i None f = events_step n at (suc left) bs h (omega arith) None f ∙ cut_short n at (suc left) spare bs h e f

-- the bytes of an act are judged so
pub judged_same : (n left at : ℕ) (bs : List ℕ) (spare : ℕ) → total (events_of bs) + spare ≡ length bs → events_check n at left bs ≡ judged n at left spare (events_of bs)
judged_same n left at [] spare e = let z : spare ≡ 0 = omega arith in sym (ap (λ b. ask b (Event at)) (eq-eqb spare 0 z))
judged_same n zero at (b ∷ bs) spare e = go (first_event (b ∷ bs)) refl
  where
    go : (o : Option (Entry × List ℕ)) → first_event (b ∷ bs) ≡ o → Err (Event at) ≡ judged n at zero spare (events_of (b ∷ bs))
    go (Some p) f = sym (ap (judged n at zero spare) (events_more (b ∷ bs) p.0 p.1 f))
    go None f = cut_short n at zero spare (b ∷ bs) (omega arith) e f
judged_same n (suc left) at (b ∷ bs) spare e = judged_more n left at (b ∷ bs) spare (omega arith) e (λ at rest f. judged_same n left at rest spare f) (first_event (b ∷ bs)) refl

-- the events have no more bytes than there are
total_after : (k : ℕ) (bs : List ℕ) → ((rest : List ℕ) → total (events_within k rest) ≤ length rest) → (o : Option (Entry × List ℕ)) → first_event bs ≡ o → total (events_within (suc k) bs) ≤ length bs
total_after k bs h (Some p) f = omega (arith, size_more bs p.0 p.1 f, h p.1, ap total (within_step k bs p.0 p.1 f))
total_after k bs h None f = omega (arith, ap total (within_end (suc k) bs f))

total_few : (k : ℕ) (bs : List ℕ) → total (events_within k bs) ≤ length bs
total_few zero bs = omega arith
total_few (suc k) bs = total_after k bs (λ rest. total_few k rest) (first_event bs) refl

total_most : (bs : List ℕ) → total (events_of bs) ≤ length bs
total_most bs = total_few (length bs) bs

-- before the first event
pub begun : (n : ℕ) (bs rest : List ℕ) (left : ℕ) → rest ≡ bs → left ≡ 16 → record { can : Unit {0}; ends : Unit {0}; same : judged n 0 left (length bs - total (events_of bs)) (events_of rest) ≡ events_check n 0 16 bs; whole : 0 + total (events_of rest) + (length bs - total (events_of bs)) ≡ length bs; small : 0 + 204 * left ≤ 3264 }
begun n bs rest left e f =
    let spare = length bs - total (events_of bs) in
    let most = total_most bs in
    record {
      can = tt;
      ends = tt;
      same = ap (λ xs. judged n 0 left spare (events_of xs)) e ∙ ap (λ k. judged n 0 k spare (events_of bs)) f ∙ sym (judged_same n 16 0 bs spare (omega arith));
      whole = omega (arith, ap (λ xs. total (events_of xs)) e);
      small = omega arith;
    }

-- one event on
pub judged_on : (n at left more spare : ℕ) (e : Entry) (es fs : List Entry) → fs ≡ e ∷ es → more + 1 ≡ left → event_check n at e ≡ Ok tt → judged n (at + 4 + length e.condition) more spare es ≡ judged n at left spare fs
judged_on n at left more spare e es fs f l g =
    let k : left ≡ suc more = omega arith in
    sym (ap (judged n at left spare) f ∙ ap (λ j. judged n at j spare (e ∷ es)) k ∙ ap (λ r. then r (judged n (at + 4 + length e.condition) more spare es)) g)

-- where no event is left, or none may follow, all is right exactly if the events end where the bytes do
judged_end : (n at left spare m : ℕ) (es : List Entry) → (0 < left → es ≡ []) → at + total es + spare ≡ m → judged n at left spare es ≡ ask (eqb at m) (Event at)
judged_end n at left spare m [] d e =
    elim (cases_eq spare 0) [
      | inl z ↦ ap (λ b. ask b (Event at)) (eq-eqb spare 0 z ∙ sym (eq-eqb at m (omega arith)))
      | inr z ↦ ap (λ b. ask b (Event at)) (ne_eqb spare 0 z ∙ sym (ne_eqb at m (λ y. z (omega arith))))
    ]
judged_end n at zero spare m (x ∷ es) d e = sym (ap (λ b. ask b (Event at)) (ne_eqb at m (λ y. omega arith)))
judged_end n at (suc left) spare m (x ∷ es) d e = let z = ap length (d (omega arith)) in absurd (omega arith)

module _ (n at left spare : ℕ) (bs : List ℕ) (es : List Entry) (same : judged n at left spare es ≡ events_check n 0 16 bs) (ended : 0 < left → es ≡ []) (whole : at + total es + spare ≡ length bs) where
  act_told : (b : Bool) → false ≡ eqb (length bs) 0 → eqb at (length bs) ≡ b → ask b (Event at) ≡ act_check n bs
  act_told b h e = sym (act_some n bs (some_byte bs h) ∙ sym same ∙ judged_end n at left spare (length bs) es ended whole ∙ ap (λ c. ask c (Event at)) e)

  -- an act whose events end where it does is right
  pub act_right : false ≡ eqb (length bs) 0 → at ≡ length bs → Ok tt ≡ act_check n bs
  act_right h e = act_told true h (eq-eqb at (length bs) e)

  -- and one that goes on is not
  pub act_goes_on : false ≡ eqb (length bs) 0 → at ≢ length bs → Err (Event at) ≡ act_check n bs
  act_goes_on h e = act_told false h (ne_eqb at (length bs) e)

  -- nor is one without a byte
  pub act_empty : true ≡ eqb (length bs) 0 → Err (Event at) ≡ act_check n bs
  act_empty h =
      let l : length bs ≡ 0 = eqb-true (length bs) 0 (sym h) in
      let z : at ≡ 0 = omega arith in
      let e = nil_from_length bs l in
      ap (λ k. Err (Event k)) z ∙ sym (ap (act_check n) e)
