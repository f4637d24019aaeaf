use Rattle.std.proofs.Common.{◌≡◌, ℕ, Bool, true, false, not, cond, eqb, get_or, sym, refl, ap, ◌∙◌, ap₂, arith}
use lib.Bits.{bit_and, bit_or, bit_xor, xor_self}
use Rattle.std.proofs.lemmas.List.{nil_from_length}
use Rattle.std.proofs.lemmas.Bool.{ltb-true, ltb-false}
use Rattle.sheets.specs.Formulas.{neg, and, or, K, M}
use Rattle.epistemic.specs.Cells.{truth}
use Rattle.knowledge.specs.Texts.{atom, alone, one, two, read}
use Rattle.knowledge.proofs.Readings.{left_shorter, read_first, other_sign}
use Rattle.knowledge.proofs.Judgements.{told}
use Rattle.knowledge.proofs.formula.+evaluate.Goals as goal

-- a choice by the contrary
turned : (b : Bool) (n : ℕ) → cond (not b) n 0 ≡ cond b 0 n
turned true n = refl
turned false n = refl

pub returns-in_default : goal.returns-in_default
returns-in_default t c =
    let e = nil_from_length c.args.text.now (omega (arith, ltb-true)) in
    let r = told c.args.letters c.args.cell c.args.text.now _ _ _ (ap (read c.args.letters) e) (sym (xor_self c.args.cell)) e in
    record { mask = r.0; rest = r.1; whole = r.2 }

pub evaluate-right-requires : goal.evaluate-right-requires
evaluate-right-requires t c =
    let shorter = left_shorter c.args.letters c.args.text.now _ (omega (arith, ltb-false)) c.evaluate-left.ensures.rest in
    (omega (arith, shorter), tt)

pub evaluate-right-requires-in-124 : goal.evaluate-right-requires-in-124
evaluate-right-requires-in-124 t c =
    let shorter = left_shorter c.args.letters c.args.text.now _ (omega (arith, ltb-false)) c.evaluate-left-in-124.ensures.rest in
    (omega (arith, shorter), tt)

pub returns-in-33 : goal.returns-in-33
returns-in-33 t c =
    let e = read_first c.args.letters 33 (one neg) c.args.text.now (omega (arith, ltb-false)) c.in-33.is refl in
    let r = told c.args.letters c.args.cell c.args.text.now _ _ _ e (ap (bit_xor c.args.cell) c.evaluate-inner.ensures.mask) c.evaluate-inner.ensures.rest in
    record { mask = r.0; rest = r.1; whole = r.2 }

pub returns-in-75 : goal.returns-in-75
returns-in-75 t c =
    let e = read_first c.args.letters 75 (one K) c.args.text.now (omega (arith, ltb-false)) c.in-75.is refl in
    let mask = c.whole_if.ensures ∙ ap (λ m. cond (eqb m c.args.cell) c.args.cell 0) c.evaluate-inner-in-75.ensures.mask in
    let r = told c.args.letters c.args.cell c.args.text.now _ _ _ e mask c.evaluate-inner-in-75.ensures.rest in
    record { mask = r.0; rest = r.1; whole = r.2 }

pub returns-in-77 : goal.returns-in-77
returns-in-77 t c =
    let e = read_first c.args.letters 77 (one M) c.args.text.now (omega (arith, ltb-false)) c.in-77.is refl in
    let mask = c.whole_if-in-77.ensures ∙ turned (eqb c.evaluate-inner-in-77.result.0 0) c.args.cell ∙ ap (λ m. cond (eqb m 0) 0 c.args.cell) c.evaluate-inner-in-77.ensures.mask in
    let r = told c.args.letters c.args.cell c.args.text.now _ _ _ e mask c.evaluate-inner-in-77.ensures.rest in
    record { mask = r.0; rest = r.1; whole = r.2 }

pub returns-in-38 : goal.returns-in-38
returns-in-38 t c =
    let e = read_first c.args.letters 38 (two and) c.args.text.now (omega (arith, ltb-false)) c.in-38.is refl in
    let d = ap (read c.args.letters) c.evaluate-left.ensures.rest in
    let mask = ap₂ bit_and c.evaluate-left.ensures.mask (c.evaluate-right.ensures.mask ∙ ap (λ r. truth 6 c.args.cell r.formula) d) in
    let r = told c.args.letters c.args.cell c.args.text.now _ _ _ e mask (c.evaluate-right.ensures.rest ∙ ap (λ r. r.rest) d) in
    record { mask = r.0; rest = r.1; whole = r.2 }

pub returns-in-124 : goal.returns-in-124
returns-in-124 t c =
    let e = read_first c.args.letters 124 (two or) c.args.text.now (omega (arith, ltb-false)) c.in-124.is refl in
    let d = ap (read c.args.letters) c.evaluate-left-in-124.ensures.rest in
    let mask = ap₂ bit_or c.evaluate-left-in-124.ensures.mask (c.evaluate-right-in-124.ensures.mask ∙ ap (λ r. truth 6 c.args.cell r.formula) d) in
    let r = told c.args.letters c.args.cell c.args.text.now _ _ _ e mask (c.evaluate-right-in-124.ensures.rest ∙ ap (λ r. r.rest) d) in
    record { mask = r.0; rest = r.1; whole = r.2 }

pub returns-in_default-sign : goal.returns-in_default-sign
returns-in_default-sign t c =
    let n = c.args.letters in
    let b = get_or c.args.text.now 0 0 in
    let is = other_sign n b (λ e. omega arith) (λ e. omega arith) (λ e. omega arith) (λ e. omega arith) (λ e. omega arith) in
    let e = read_first n b (alone (atom n b)) c.args.text.now (omega (arith, ltb-false)) refl is in
    let r = told n c.args.cell c.args.text.now _ _ _ e c.atom_mask.ensures refl in
    record { mask = r.0; rest = r.1; whole = r.2 }
