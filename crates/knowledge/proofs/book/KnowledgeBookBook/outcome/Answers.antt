use Rattle.std.proofs.Common.{filter, ap, ◌∙◌}
use Rattle.std.specs.List.{slice_get}
use Rattle.epistemic.specs.Acts.{nonempty}
use Rattle.knowledge.specs.Books.{content}
use Rattle.knowledge.proofs.Meanings.{kept_classes, outcomes_right}
use Rattle.knowledge.proofs.book.KnowledgeBookBook.outcome.Goals as goal

pub returns : goal.returns
returns c =
    let p = content c.args.self.now in
    record {
      answer = c.nth_nonempty.ensures ∙ ap (λ xs. slice_get (filter nonempty xs) c.args.number) c.classes.ensures ∙ ap (λ xs. slice_get xs c.args.number) (kept_classes p c.args.s c.args.act);
      right = outcomes_right p c.args.s c.args.act;
    }
