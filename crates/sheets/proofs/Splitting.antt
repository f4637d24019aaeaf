-- The first event of some bytes, from its parts. Assumes nothing.
use Rattle.std.proofs.Common.{◌≡◌, ℕ, zero, suc, ◌<◌, ◌≤◌, Bool, true, false, cond, leb, List, [], ◌∷◌, length, take, drop, Some, None, Ok, Err, Option, Result, sym, refl, ap, ◌∙◌, arith, length-drop}
use Rattle.std.proofs.lemmas.List.{nil_from_length}
use Rattle.sheets.specs.Events.{Entry, first_event, events_within, events_of}

-- an answer is not both there and not there
pub none_some : {X : Type 0} {x : X} → ◌≡◌ {A = Option X} None (Some x) → ⊥
none_some f = let z : ◌≡◌ {A = ℕ} 0 1 = cc in omega arith

-- a refusal is no acceptance
pub refused : {E X : Type 0} {t : E} {x : X} → ◌≡◌ {A = Result X E} (Err t) (Ok x) → ⊥
refused e = let z : ◌≡◌ {A = ℕ} 0 1 = cc in omega arith

-- the bytes after an event are fewer
pub rest_shorter : (bs : List ℕ) (e : Entry) (rest : List ℕ) → first_event bs ≡ Some (e, rest) → length rest < length bs
rest_shorter [] e rest f = absurd (none_some f)
rest_shorter (_ ∷ []) e rest f = absurd (none_some f)
rest_shorter (_ ∷ _ ∷ []) e rest f = absurd (none_some f)
rest_shorter (_ ∷ _ ∷ _ ∷ []) e rest f = absurd (none_some f)
rest_shorter (c ∷ s ∷ d ∷ n ∷ bs) e rest f = go (leb n (length bs)) f
  where
    go : (b : Bool) → ◌≡◌ {A = Option (Entry × List ℕ)} (cond b (Some (record { class = c; set = s; clear = d; condition = take n bs }, drop n bs)) None) (Some (e, rest)) → length rest < length (c ∷ s ∷ d ∷ n ∷ bs)
    go true g =
        let r : ◌≡◌ {A = Entry × List ℕ} (record { class = c; set = s; clear = d; condition = take n bs }, drop n bs) (e, rest) = cc in
        let l = length-drop n bs in
        omega (arith, ap (λ p. length p.1) r)
    go false g = absurd (none_some g)

pub within_step : (k : ℕ) (bs : List ℕ) (e : Entry) (rest : List ℕ) → first_event bs ≡ Some (e, rest) → events_within (suc k) bs ≡ e ∷ events_within k rest
within_step k bs e rest f = ap (λ o. elim o [ Some p ↦ p.0 ∷ events_within k p.1 | None ↦ [] ]) f

pub within_end : (k : ℕ) (bs : List ℕ) → first_event bs ≡ None → events_within k bs ≡ []
within_end zero bs f = refl
within_end (suc k) bs f = ap (λ o. elim o [ Some p ↦ p.0 ∷ events_within k p.1 | None ↦ [] ]) f

-- as many turns as there are bytes are enough
within_same : (k j : ℕ) (bs : List ℕ) → ((rest : List ℕ) → length rest < length bs → events_within k rest ≡ events_within j rest) → (o : Option (Entry × List ℕ)) → first_event bs ≡ o → events_within (suc k) bs ≡ events_within (suc j) bs
within_same k j bs h (Some p) f = within_step k bs p.0 p.1 f ∙ ap (λ es. p.0 ∷ es) (h p.1 (rest_shorter bs p.0 p.1 f)) ∙ sym (within_step j bs p.0 p.1 f)
within_same k j bs h None f = within_end (suc k) bs f ∙ sym (within_end (suc j) bs f)

within_enough : (k j : ℕ) (bs : List ℕ) → length bs ≤ k → length bs ≤ j → events_within k bs ≡ events_within j bs
within_enough zero j bs h l = let e = nil_from_length bs (omega arith) in ap (events_within zero) e ∙ sym (within_end j bs (ap first_event e))
within_enough (suc k) zero bs h l = let e = nil_from_length bs (omega arith) in within_end (suc k) bs (ap first_event e)
within_enough (suc k) (suc j) bs h l = within_same k j bs (λ rest s. within_enough k j rest (omega arith) (omega arith)) (first_event bs) refl

-- the events of some bytes are the first and those of the rest
pub events_more : (bs : List ℕ) (e : Entry) (rest : List ℕ) → first_event bs ≡ Some (e, rest) → events_of bs ≡ e ∷ events_of rest
events_more bs e rest f =
    let s = rest_shorter bs e rest f in
    within_enough (length bs) (suc (length bs)) bs (omega arith) (omega arith) ∙ within_step (length bs) bs e rest f ∙ ap (λ es. e ∷ es) (within_enough (length bs) (length rest) rest (omega arith) (omega arith))

-- there are none where the first is cut short
pub events_none : (bs : List ℕ) → first_event bs ≡ None → events_of bs ≡ []
events_none bs f = within_end (length bs) bs f

-- there are no more events than bytes
few_more : (k : ℕ) → ((bs : List ℕ) → length (events_within k bs) ≤ k) → (o : Option (Entry × List ℕ)) → length {A = Entry} (elim o [ Some p ↦ p.0 ∷ events_within k p.1 | None ↦ [] ]) ≤ suc k
few_more k h (Some p) = omega (arith, h p.1)
few_more k h None = omega arith

within_few : (k : ℕ) (bs : List ℕ) → length (events_within k bs) ≤ k
within_few zero bs = omega arith
within_few (suc k) bs = few_more k (within_few k) (first_event bs)

pub events_few : (bs : List ℕ) → length (events_of bs) ≤ length bs
events_few bs = within_few (length bs) bs
