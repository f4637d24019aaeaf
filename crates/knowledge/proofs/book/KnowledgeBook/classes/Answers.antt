use Rattle.std.proofs.Common.{rules, ◌∙◌, ap, map, eqb, replicate, None, unwrap_or}
use Rattle.std.specs.Bool.{then_some}
use Rattle.std.specs.List.{range_with_len}
use Rattle.epistemic.specs.Acts.{outcome, possible}
use Rattle.knowledge.specs.Books.{askable, content, events_at, letters}
use Rattle.knowledge.proofs.Contents.{answered, masks}
use Rattle.knowledge.proofs.book.KnowledgeBook.classes.Goals as goal

pub returns : goal.returns
returns c =
    let s = c.args.self.now.sheet in
    let m = c.args.cell in
    let is = answered s m c.args.act (λ n c es. then_some (eqb (possible n c es) c) (map (λ k. outcome n c k es) (range_with_len 0 8))) None (λ x. x) c.asked.result c.asked.ensures.bytes c.asked.ensures.cell c.and_then.result _ c.and_then.ensures (λ x t. search rules) in
    let n = letters (content c.args.self.now) in
    let es = events_at (content c.args.self.now) c.args.act in
    c.unwrap_or.ensures ∙ ap (λ o. unwrap_or o (replicate 8 0)) is ∙ masks (askable (content c.args.self.now) m c.args.act) (eqb (possible n m es) m) (map (λ k. outcome n m k es) (range_with_len 0 8)) (replicate 8 0)
