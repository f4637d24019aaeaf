-- Sections judged step by step. Assumes nothing.
use Rattle.std.proofs.Common.{◌≡◌, ℕ, zero, suc, ◌+◌, ◌-◌, ◌<◌, ◌≤◌, Bool, true, false, eqb, List, [], ◌∷◌, length, Some, None, Ok, Err, Option, Result, sym, refl, ap, ◌∙◌, true≢false, arith}
use Rattle.std.proofs.lemmas.Bool.{lt-ltb}
use Rattle.sheets.specs.declared.fault.FormulaFault.{FormulaFault}
use Rattle.sheets.specs.declared.fault.SectionFault.{SectionFault}
use Rattle.sheets.specs.declared.fault.SectionFault.TheVariants.{Event, Formula}
use Rattle.sheets.specs.Checks.{checked}
use Rattle.sheets.specs.Events.{Entry, first_event}
use Rattle.sheets.specs.Rules.{fields_fit}
use Rattle.sheets.specs.Reading.{then, ask, formula_check, event_check, events_check, act_check}
use Rattle.sheets.proofs.Splitting.{refused}
use Rattle.sheets.proofs.Polish.{checked_ok}

-- bytes that are not empty
pub some_byte : (bs : List ℕ) → false ≡ eqb (length bs) 0 → 0 < length bs
some_byte [] e = absurd (true≢false (sym e))
some_byte (b ∷ bs) e = omega arith

-- both checks pass, where one and then another does
pub then_parts : {E : Type 0} (r s : Result (Unit {0}) E) → then r s ≡ Ok tt → (r ≡ Ok tt) × (s ≡ Ok tt)
then_parts (Ok tt) s e = (refl, e)
then_parts (Err t) s e = absurd (refused e)

pub ask_true : {E : Type 0} (b : Bool) (t : E) → ask b t ≡ Ok tt → b ≡ true
ask_true true t e = refl
ask_true false t e = absurd (refused e)

-- a formula that passes has passed alone
pub formula_passed : (n at : ℕ) (bs : List ℕ) → formula_check n at bs ≡ Ok tt → checked n bs ≡ Ok tt
formula_passed n at bs e = go (checked n bs) e
  where
    go : (r : Result (Unit {0}) FormulaFault) → ◌≡◌ {A = Result (Unit {0}) SectionFault} (elim r [ Ok _ ↦ Ok tt | Err t ↦ Err (Formula at t) ]) (Ok tt) → r ≡ Ok tt
    go (Ok tt) f = refl
    go (Err t) f = absurd (refused f)

pub condition_few : (n at : ℕ) (e : Entry) → event_check n at e ≡ Ok tt → length e.condition ≤ 200
condition_few n at e f = checked_ok n e.condition (formula_passed n (at + 4) e.condition (then_parts (ask (fields_fit n e) (Event at)) (formula_check n (at + 4) e.condition) f).1)

module _ (n at left : ℕ) (bs : List ℕ) where
  pub events_step : 0 < length bs → 0 < left → (o : Option (Entry × List ℕ)) → first_event bs ≡ o → events_check n at left bs ≡ elim o [ Some p ↦ then (event_check n at p.0) (events_check n (at + 4 + length p.0.condition) (left - 1) p.1) | None ↦ Err (Event at) ]
  events_step h l o e = go bs left h l e
    where
      go : (bs : List ℕ) (k : ℕ) → 0 < length bs → 0 < k → first_event bs ≡ o → events_check n at k bs ≡ elim o [ Some p ↦ then (event_check n at p.0) (events_check n (at + 4 + length p.0.condition) (k - 1) p.1) | None ↦ Err (Event at) ]
      go [] k h l e = absurd (omega arith)
      go (b ∷ cs) zero h l e = absurd (omega arith)
      go (b ∷ cs) (suc k) h l e =
          let f : suc k - 1 ≡ k = omega arith in
          ap (λ o. elim o [ Some p ↦ then (event_check n at p.0) (events_check n (at + 4 + length p.0.condition) k p.1) | None ↦ Err (Event at) ]) e ∙ ap (λ j. elim o [ Some p ↦ then (event_check n at p.0) (events_check n (at + 4 + length p.0.condition) j p.1) | None ↦ Err (Event at) ]) (sym f)

-- an act that has a byte is judged by its events
pub act_some : (n : ℕ) (bs : List ℕ) → 0 < length bs → act_check n bs ≡ events_check n 0 16 bs
act_some n bs h = ap (λ b. then (ask b (Event 0)) (events_check n 0 16 bs)) (lt-ltb 0 (length bs) h)
