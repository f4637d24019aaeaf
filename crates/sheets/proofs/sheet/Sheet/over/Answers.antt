use Rattle.std.proofs.Common.{map, ap, ◌∙◌}
use Rattle.std.specs.List.{range_with_len}
use Rattle.sheets.specs.Events.{events_of}
use Rattle.sheets.specs.Rules.{mask_of, section_bytes}
use Rattle.sheets.proofs.Walking.{acts_same, same_parts}
use Rattle.sheets.proofs.sheet.Sheet.over.Goals as goal

pub returns : goal.returns
returns c =
    same_parts c.features.ensures (c.start_mask.ensures ∙ ap mask_of c.section.ensures) c.section-2.ensures (acts_same c.args.header.sheet.now c.acts.result ∙ ap (λ a. map (λ k. events_of (section_bytes c.args.header.sheet.now k)) (range_with_len 2 a)) c.acts.ensures)
