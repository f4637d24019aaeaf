use Rattle.std.proofs.Common.{rules, sym, subst}
use Rattle.knowledge.specs.Books.{content}
use Rattle.knowledge.specs.Claims.{GoalRight}
use Rattle.knowledge.proofs.Meanings.{goal_masked, goal_right}
use Rattle.knowledge.proofs.book.KnowledgeBookBook.goal.Goals as goal

pub returns : goal.returns
returns c =
    let p = content c.args.self.now in
    let s = c.args.s in
    let answer = goal_masked p s c.cell.result c.cell.ensures.some c.cell.ensures.cell c.is_some_and.result _ c.is_some_and.ensures (λ x t. search rules) in
    record { answer = answer; right = subst (GoalRight p s) (sym answer) (goal_right p s) }
