use Rattle.std.proofs.Common.{leb, rules, tests, length, ◌&&◌, sym, ap, ◌∙◌}
use Rattle.std.proofs.lemmas.Bool.{eq-eqb}
use Rattle.std.proofs.lemmas.Iterator.{YieldsList-from_slice}
use Rattle.std.proofs.lemmas.Iterator.Search.{all_from_yields_List}
use Rattle.planning.specs.Ranks.{every}
use Rattle.tables.proofs.Lists.{every_is_all}
use Rattle.tables.proofs.checking.levels_fit.Goals as goal

pub returns-then-wanted-eq-ZONES : goal.returns-then-wanted-eq-ZONES
returns-then-wanted-eq-ZONES c =
    let ws = c.args.wanted.now in
    all_from_yields_List (λ w. leb w 64) _ _ _ c.all.ensures.ran (YieldsList-from_slice ws cc) (λ x b q k. search (rules, tests))
    ∙ every_is_all (λ w. leb w 64) ws
    ∙ sym (ap (λ b. b && every (λ w. leb w 64) ws) (eq-eqb (length ws) 64 c.if-wanted-eq-ZONES.true))
