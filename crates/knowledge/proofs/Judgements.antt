-- A formula's mask is where the cell's model satisfies it. Assumes nothing.
use Rattle.std.proofs.Common.{◌≡◌, ℕ, ◌≤◌, List, sym, ap, ◌∙◌, subst}
use Rattle.sheets.specs.Formulas.{Formula}
use Rattle.epistemic.specs.Cells.{Fit, truth}
use Rattle.epistemic.specs.Claims.{SatisfiedAt}
use Rattle.epistemic.proofs.Letters.{truth_wider}
use Rattle.epistemic.proofs.Truths.{truth_satisfied}
use Rattle.knowledge.specs.Texts.{Read, read}
use Rattle.knowledge.specs.Judging.{Judged}
use Rattle.knowledge.proofs.Readings.{read_spelled}

-- a mask over six features serves for fewer
satisfied : (n c : ℕ) (f : Formula) (m : ℕ) → n ≤ 6 → Fit n c → m ≡ truth 6 c f → SatisfiedAt n c f m
satisfied n c f m few fits e =
    let same = e ∙ truth_wider n 6 c few fits f in
    subst (SatisfiedAt n c f) (sym same) (truth_satisfied n c f fits)

pub judged : (n c : ℕ) (bs : List ℕ) (m : ℕ) (rest : List ℕ) → m ≡ truth 6 c (read n bs).formula → rest ≡ (read n bs).rest → Judged n c bs m rest
judged n c bs m rest mask left few proper f text after spelled is =
    let e = ap (read n) is ∙ read_spelled n few spelled after in
    (satisfied n c f m few proper.1 (mask ∙ ap (λ r. truth 6 c r.formula) e), left ∙ ap (λ r. r.rest) e)

-- what the evaluator answers, where it is known which formula the bytes begin with
pub told : (n c : ℕ) (bs : List ℕ) (m : ℕ) (rest : List ℕ) (r : Read) → read n bs ≡ r → m ≡ truth 6 c r.formula → rest ≡ r.rest → (m ≡ truth 6 c (read n bs).formula) × (rest ≡ (read n bs).rest) × Judged n c bs m rest
told n c bs m rest r is mask left =
    let whole = mask ∙ sym (ap (λ r. truth 6 c r.formula) is) in
    let after = left ∙ sym (ap (λ r. r.rest) is) in
    (whole, after, judged n c bs m rest whole after)
