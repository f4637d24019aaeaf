use Rattle.std.proofs.Common.{refl, length, arith, rules, tests, ◌∙◌, sym}
use Rattle.std.proofs.lemmas.Iterator.{YieldsList-from_range}
use Rattle.std.proofs.lemmas.Iterator.Adapters.{option_map_id}
use Rattle.std.proofs.lemmas.Iterator.Search.{find_from_yields_List}
use Rattle.tables.specs.Checking.{wrong_here}
use Rattle.tables.proofs.Judging.{found_first}
use Rattle.tables.proofs.checking.first_wrong.Goals as goal

pub returns : goal.returns
returns c =
    let rows = c.args.rows.now in
    sym (option_map_id c.find.result)
    ∙ find_from_yields_List (wrong_here c.args.acts rows) _ _ c.find.result c.find.ensures.ran (YieldsList-from_range 0 (length rows) (length rows) refl (omega arith)) (λ x b q k. search (rules, tests))
    ∙ found_first c.args.acts rows 0 (length rows) (λ j h. absurd (omega arith))
