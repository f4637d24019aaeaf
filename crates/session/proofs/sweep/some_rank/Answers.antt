use Rattle.std.proofs.Common.{rules, ◌∙◌}
use Rattle.std.proofs.lemmas.Iterator.{YieldsList-from_slice}
use Rattle.std.proofs.lemmas.Iterator.Search.{any_from_yields_List}
use borrow.Author.Tests.{tests}
use Rattle.session.specs.Judging.{rank_is}
use Rattle.session.proofs.Judged.{any-has_rank}
use Rattle.session.proofs.sweep.some_rank.Goals as goal

pub returns : goal.returns
returns c =
    any_from_yields_List (λ row. rank_is c.args.j row.rank) _ _ c.any.result c.any.ensures.ran (YieldsList-from_slice c.args.rows.now cc) (λ x b q k. search (rules, tests))
    ∙ any-has_rank c.args.j c.args.rows.now
