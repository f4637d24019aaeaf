use Rattle.std.proofs.Common.{rules, tests, filter, sym, ap, ◌∙◌}
use Rattle.std.specs.List.{slice_get}
use Rattle.std.proofs.lemmas.Iterator.{YieldsList-from_slice}
use Rattle.std.proofs.lemmas.Iterator.Adapters.{option_map_id}
use Rattle.std.proofs.lemmas.Iterator.Consumers.{nth_from_yields_List, YieldsList-from_copied, YieldsList-from_filter}
use Rattle.epistemic.specs.Acts.{nonempty}
use Rattle.knowledge.proofs.update.nth_nonempty.Goals as goal

pub returns : goal.returns
returns c =
    sym (option_map_id c.nth.result)
    ∙ nth_from_yields_List c.nth.result c.nth.new.self c.from.result c.nth.ensures.ran (YieldsList-from_filter _ nonempty (YieldsList-from_copied (YieldsList-from_slice c.args.masks.now cc)) c.filter.ensures.closure (λ x b q k. search (rules, tests)))
    ∙ ap (slice_get (filter nonempty c.args.masks.now)) c.from.ensures
