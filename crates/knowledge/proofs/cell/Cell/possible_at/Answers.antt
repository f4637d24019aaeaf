use Rattle.std.proofs.Common.{ap, ◌∙◌}
use Rattle.sheets.specs.Events.{entry}
use Rattle.epistemic.specs.Bits.{bit}
use Rattle.epistemic.proofs.Truths.{truth_bit}
use Rattle.knowledge.specs.Acting.{event_of}
use Rattle.knowledge.proofs.cell.Cell.possible_at.Goals as goal

pub returns : goal.returns
returns c =
    let cell = c.args.self in
    let f = (event_of cell.letters (entry c.args.event)).pre in
    c.has.ensures ∙ ap (λ m. bit m c.args.valuation) c.part.ensures.mask ∙ truth_bit cell.letters cell.mask cell.within f c.args.valuation
