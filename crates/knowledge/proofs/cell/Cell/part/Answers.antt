use Rattle.std.proofs.Common.{sym, ◌∙◌, subst}
use Rattle.epistemic.specs.Cells.{Fit}
use Rattle.epistemic.proofs.Letters.{truth_wider}
use Rattle.epistemic.proofs.Truths.{truth_fits}
use Rattle.knowledge.specs.Texts.{read}
use Rattle.knowledge.proofs.cell.Cell.part.Goals as goal

pub invariant_of-result : goal.invariant_of-result
invariant_of-result c =
    let cell = c.args.self in
    let f = (read cell.letters c.args.text.now).formula in
    let mask = c.evaluate-mask.ensures.mask ∙ truth_wider cell.letters 6 cell.mask cell.few cell.within f in
    record { few = cell.few; within = subst (Fit cell.letters) (sym mask) (truth_fits cell.letters cell.mask cell.within f) }

pub returns-clause-mask : goal.returns-clause-mask
returns-clause-mask c =
    let cell = c.args.self in
    c.evaluate-mask.ensures.mask ∙ truth_wider cell.letters 6 cell.mask cell.few cell.within (read cell.letters c.args.text.now).formula
