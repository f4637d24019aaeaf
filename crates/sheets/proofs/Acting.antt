-- An act's bytes pass exactly if they are one to sixteen right events. Assumes nothing.
use Rattle.std.proofs.Common.{◌≡◌, ℕ, zero, suc, ◌+◌, ◌-◌, ◌<◌, ◌≤◌, Bool, true, false, cond, ltb, leb, List, [], ◌∷◌, ◌++◌, length, take, drop, Some, None, Ok, Err, Option, Result, sym, refl, ap, ◌∙◌, subst, arith}
use Rattle.std.proofs.lemmas.List.{take_at, drop_at, length-append, take-append-drop, length-take-le}
use Rattle.std.proofs.lemmas.Bool.{cond-true, le-leb, leb-true, ltb-true}
use Rattle.sheets.specs.declared.fault.SectionFault.{SectionFault}
use Rattle.sheets.specs.declared.fault.SectionFault.TheVariants.{Event, Formula}
use Rattle.sheets.specs.Checks.{checked, IsFormula}
use Rattle.sheets.specs.Events.{Entry, first_event, events_of}
use Rattle.sheets.specs.Rules.{fields_fit}
use Rattle.sheets.specs.Reading.{then, ask, formula_check, event_check, events_check, act_check}
use Rattle.sheets.specs.Layout.{event_bytes, EventRight, EventsSpelled, no_event, an_event, ActRight}
use Rattle.sheets.proofs.Splitting.{none_some, refused, events_more}
use Rattle.sheets.proofs.Polish.{check_accepts}
use Rattle.sheets.proofs.Judging.{then_parts, ask_true, formula_passed, events_step, act_some}

-- the first event of bytes that an event's bytes begin is that event
pub first_spelled : (e : Entry) (bs : List ℕ) → first_event (event_bytes e ++ bs) ≡ Some (e, bs)
first_spelled e bs =
    let n = length e.condition in
    let xs = e.condition ++ bs in
    let l = length-append e.condition bs in
    cond-true (leb n (length xs)) (Some (record { class = e.class; set = e.set; clear = e.clear; condition = take n xs }, drop n xs)) None (le-leb n (length xs) (omega arith)) ∙ ap (λ c. Some (record { class = e.class; set = e.set; clear = e.clear; condition = c }, drop n xs)) (take_at e.condition bs n refl) ∙ ap (λ r. Some (e, r)) (drop_at e.condition bs n refl)

-- and the bytes of a first event are its own
pub first_is : (bs : List ℕ) (e : Entry) (rest : List ℕ) → first_event bs ≡ Some (e, rest) → event_bytes e ++ rest ≡ bs
first_is [] e rest f = absurd (none_some f)
first_is (_ ∷ []) e rest f = absurd (none_some f)
first_is (_ ∷ _ ∷ []) e rest f = absurd (none_some f)
first_is (_ ∷ _ ∷ _ ∷ []) e rest f = absurd (none_some f)
first_is (c ∷ s ∷ d ∷ n ∷ bs) e rest f = go (leb n (length bs)) refl f
  where
    go : (b : Bool) → leb n (length bs) ≡ b → ◌≡◌ {A = Option (Entry × List ℕ)} (cond b (Some (record { class = c; set = s; clear = d; condition = take n bs }, drop n bs)) None) (Some (e, rest)) → event_bytes e ++ rest ≡ c ∷ s ∷ d ∷ n ∷ bs
    go false h g = absurd (none_some g)
    go true h g =
        let q : ◌≡◌ {A = Entry × List ℕ} (record { class = c; set = s; clear = d; condition = take n bs }, drop n bs) (e, rest) = cc in
        let l = length-take-le n bs (leb-true n (length bs) h) in
        ap (λ p. event_bytes p.0 ++ p.1) (sym q) ∙ ap (λ k. c ∷ s ∷ d ∷ k ∷ (take n bs ++ drop n bs)) l ∙ ap (λ xs. c ∷ s ∷ d ∷ n ∷ xs) (take-append-drop n bs)

module _ (n : ℕ) (m : n ≤ 26) where
  -- a formula passes in a section exactly if it is one of at most 200 bytes
  pub formula_only : (at : ℕ) (bs : List ℕ) → formula_check n at bs ≡ Ok tt → IsFormula n bs × (length bs ≤ 200)
  formula_only at bs e = let a = (check_accepts n bs (checked n bs) refl m).only (formula_passed n at bs e) in (a.0, a.2)

  pub formula_all : (at : ℕ) (bs : List ℕ) → IsFormula n bs → length bs ≤ 200 → formula_check n at bs ≡ Ok tt
  formula_all at bs f h = ap (λ r. elim r [ Ok _ ↦ Ok tt | Err t ↦ Err (Formula at t) ]) ((check_accepts n bs (checked n bs) refl m).all f h)

  event_only : (at : ℕ) (e : Entry) → event_check n at e ≡ Ok tt → EventRight n e
  event_only at e f =
      let p = then_parts (ask (fields_fit n e) (Event at)) (formula_check n (at + 4) e.condition) f in
      let q = formula_only (at + 4) e.condition p.1 in
      record { fields = ask_true (fields_fit n e) (Event at) p.0; formula = q.0; short = q.1 }

  event_all : (at : ℕ) (e : Entry) → EventRight n e → event_check n at e ≡ Ok tt
  event_all at e r = ap (λ b. then (ask b (Event at)) (formula_check n (at + 4) e.condition)) r.fields ∙ formula_all (at + 4) e.condition r.formula r.short

  events_all : {bs : List ℕ} {es : List Entry} → EventsSpelled n bs es → (at left : ℕ) → length es ≤ left → events_check n at left bs ≡ Ok tt
  events_all no_event at left h = refl
  events_all (an_event {e = e} {bs = bs} r s) at left h =
      events_step n at left (event_bytes e ++ bs) (omega arith) (omega arith) (Some (e, bs)) (first_spelled e bs) ∙ ap (λ c. then c (events_check n (at + 4 + length e.condition) (left - 1) bs)) (event_all at e r) ∙ events_all s (at + 4 + length e.condition) (left - 1) (omega arith)

  events_same : {bs : List ℕ} {es : List Entry} → EventsSpelled n bs es → events_of bs ≡ es
  events_same no_event = refl
  events_same (an_event {e = e} {bs = bs} r s) = events_more (event_bytes e ++ bs) e bs (first_spelled e bs) ∙ ap (λ xs. e ∷ xs) (events_same s)

  -- bytes that pass are those of their events
  spelled_more : (at left : ℕ) (bs : List ℕ) → ((at : ℕ) (rest : List ℕ) → events_check n at left rest ≡ Ok tt → EventsSpelled n rest (events_of rest) × (length (events_of rest) ≤ left)) → (o : Option (Entry × List ℕ)) → first_event bs ≡ o → ◌≡◌ {A = Result (Unit {0}) SectionFault} (elim o [ Some p ↦ then (event_check n at p.0) (events_check n (at + 4 + length p.0.condition) left p.1) | None ↦ Err (Event at) ]) (Ok tt) → EventsSpelled n bs (events_of bs) × (length (events_of bs) ≤ suc left)
  spelled_more at left bs h None f e = absurd (refused e)
  spelled_more at left bs h (Some p) f e =
      let q = then_parts (event_check n at p.0) (events_check n (at + 4 + length p.0.condition) left p.1) e in
      let i = h (at + 4 + length p.0.condition) p.1 q.1 in
      let w = first_is bs p.0 p.1 f in
      let es = events_more bs p.0 p.1 f in
      (subst (λ xs. EventsSpelled n bs xs) (sym es) (subst (λ xs. EventsSpelled n xs (p.0 ∷ events_of p.1)) w (an_event (event_only at p.0 q.0) i.0)), omega (arith, ap length es))

  events_only : (at left : ℕ) (bs : List ℕ) → events_check n at left bs ≡ Ok tt → EventsSpelled n bs (events_of bs) × (length (events_of bs) ≤ left)
  events_only at zero [] e = (no_event, omega arith)
  events_only at (suc left) [] e = (no_event, omega arith)
  events_only at zero (b ∷ bs) e = absurd (refused e)
  events_only at (suc left) (b ∷ bs) e = spelled_more at left (b ∷ bs) (λ i rest f. events_only i left rest f) (first_event (b ∷ bs)) refl e

  some_events : {bs : List ℕ} {es : List Entry} → EventsSpelled n bs es → 0 < length bs → 1 ≤ length es
  some_events no_event h = absurd (omega arith)
  some_events (an_event r s) h = omega arith

  some_bytes : {bs : List ℕ} {es : List Entry} → EventsSpelled n bs es → 1 ≤ length es → 0 < length bs
  some_bytes no_event h = absurd (omega arith)
  some_bytes (an_event r s) h = omega arith

  pub act_only : (bs : List ℕ) → act_check n bs ≡ Ok tt → ActRight n bs (events_of bs)
  act_only bs e =
      let p = then_parts (ask (ltb 0 (length bs)) (Event 0)) (events_check n 0 16 bs) e in
      let q = events_only 0 16 bs p.1 in
      record { events = q.0; some = some_events q.0 (ltb-true 0 (length bs) (ask_true (ltb 0 (length bs)) (Event 0) p.0)); few = q.1 }

  pub act_all : (bs : List ℕ) (es : List Entry) → ActRight n bs es → (act_check n bs ≡ Ok tt) × (events_of bs ≡ es)
  act_all bs es r = (act_some n bs (some_bytes r.events r.some) ∙ events_all r.events 0 16 r.few, events_same r.events)
