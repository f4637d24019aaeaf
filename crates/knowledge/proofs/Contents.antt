-- The parts of a book's sheet, as the program asks for them. Assumes nothing.
use Rattle.std.proofs.Common.{◌≡◌, ℕ, ◌<◌, min, Bool, true, false, cond, ◌&&◌, ltb, List, [], map, Some, None, Option, unwrap_or, sym, refl, ap, ◌∙◌, ap₂, arith}
use denote.Ref.{Bor}
use native.Mathlib.Nat.{min-le_left}
use Rattle.std.specs.Bool.{then_some}
use Rattle.std.specs.Option.{MatchOption, option_map}
use Rattle.std.proofs.lemmas.List.FromFn.{length-map-range_with_len, get_or-map-range_with_len}
use Rattle.std.proofs.lemmas.Bool.{and_parts, ltb-true}
use Rattle.sheets.specs.Events.{events_of}
use Rattle.sheets.specs.Reading.{act_bytes, parts}
use Rattle.sheets.specs.declared.sheet.Sheet.{Sheet}
use Rattle.epistemic.specs.Acts.{Event}
use Rattle.epistemic.specs.Cells.{fit}
use Rattle.knowledge.specs.Acting.{event_of, act_of}
use Rattle.knowledge.specs.Books.{letters, act_count, events_at, askable, bytes_of}
use Rattle.knowledge.specs.declared.cell.Cell.{Cell}

-- what an answer that may be missing says of its test
some_when : {X : Type 0} (t : Bool) (x y : X) → Some y ≡ cond {A = Option X} t (Some x) None → (t ≡ true) × (y ≡ x)
some_when true x y e = (refl, (let z : y ≡ x = cc in z))
some_when false x y e = absurd (let z : ◌≡◌ {A = ℕ} 0 1 = cc in omega arith)

none_when : {X : Type 0} (t : Bool) (x : X) → None ≡ cond {A = Option X} t (Some x) None → t ≡ false
none_when true x e = absurd (let z : ◌≡◌ {A = ℕ} 0 1 = cc in omega arith)
none_when false x e = refl

module _ (s : Sheet) where
  -- the book has the sheet's acts, sixteen at most
  pub count_is : act_count (parts s) ≡ min s.acts 16
  count_is = ap (λ k. min k 16) (length-map-range_with_len (λ i. events_of (act_bytes s i)) 0 s.acts)

  -- the events of an act below the last are those of its bytes
  events_are : (a : ℕ) → a < act_count (parts s) → act_of (letters (parts s)) (act_bytes s a) ≡ events_at (parts s) a
  events_are a h =
      let below : a < s.acts = omega (arith, count_is, min-le_left s.acts 16) in
      ap (map (event_of (letters (parts s)))) (sym (get_or-map-range_with_len (λ i. events_of (act_bytes s i)) 0 s.acts a a [] below (omega arith)))

  module _ (c a : ℕ) where
    abbrev n : ℕ
    n = letters (parts s)

    asked_events : (bs : List ℕ) → Some bs ≡ cond {A = Option (List ℕ)} (askable (parts s) c a) (Some (act_bytes s a)) None → (askable (parts s) c a ≡ true) × (act_of n bs ≡ events_at (parts s) a)
    asked_events bs given =
        let asked = some_when (askable (parts s) c a) (act_bytes s a) bs given in
        let tests = and_parts (ltb a (act_count (parts s))) (fit n c) asked.0 in
        (asked.0, ap (act_of n) asked.1 ∙ events_are a (ltb-true a (act_count (parts s)) tests.0))

    not_asked : None ≡ cond {A = Option (List ℕ)} (askable (parts s) c a) (Some (act_bytes s a)) None → askable (parts s) c a ≡ false
    not_asked e = none_when (askable (parts s) c a) (act_bytes s a) e

    -- what is answered from the cell and the bytes of an act, where they may be asked for, is answered from the sheet's
    -- events
    pub answered : {X Y : Type 0} (of : ℕ → ℕ → List Event → X) (none : X) (read : X → Y) (o : Option (Cell × Bor (List ℕ))) → bytes_of (option_map (λ x. x.1) o) ≡ cond (askable (parts s) c a) (Some (act_bytes s a)) None → ((x : Cell × Bor (List ℕ)) → o ≡ Some x → (x.0.letters ≡ n) × (x.0.mask ≡ c)) → (r : Y) (tells : Cell × Bor (List ℕ) → Type 0) → MatchOption o (r ≡ read none) tells → ((x : Cell × Bor (List ℕ)) → tells x → r ≡ read (of x.0.letters x.0.mask (act_of x.0.letters x.1.now))) → r ≡ read (cond (askable (parts s) c a) (of n c (events_at (parts s) a)) none)
    answered of none read (Some x) bytes cell r tells told tell =
        let asked = asked_events x.1.now bytes in
        tell x told
        ∙ ap₂ (λ k m. read (of k m (act_of k x.1.now))) (cell x refl).0 (cell x refl).1
        ∙ ap (λ es. read (of n c es)) asked.1
        ∙ ap (λ b. read (cond b (of n c (events_at (parts s) a)) none)) (sym asked.0)
    answered of none read None bytes cell r tells told tell =
        told ∙ ap (λ b. read (cond b (of n c (events_at (parts s) a)) none)) (sym (not_asked bytes))

-- the masks of the classes, where an act may be asked for and has outcomes, and where not
pub masks : (b t : Bool) (all none : List ℕ) → unwrap_or (cond b (then_some t all) None) none ≡ cond (b && t) all none
masks true true all none = refl
masks true false all none = refl
masks false t all none = refl
