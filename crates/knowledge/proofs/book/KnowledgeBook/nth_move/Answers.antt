use Rattle.std.proofs.lemmas.Iterator.Adapters.{option_map_id}
use Rattle.std.proofs.lemmas.Iterator.Consumers.{nth_from_yields_List, YieldsList-from_first}
use Rattle.std.proofs.Common.{◌≡◌, [], Some, sym, ◌∙◌}
use Rattle.std.specs.List.{slice_get}
use Rattle.knowledge.specs.Acting.{act_of}
use Rattle.knowledge.specs.Books.{content}
use Rattle.knowledge.specs.Moves.{moves_at, moves_of}
use Rattle.knowledge.proofs.Contents.{answered}
use Rattle.knowledge.proofs.Landing.{landed}
use Rattle.knowledge.proofs.book.KnowledgeBook.nth_move.Goals as goal

pub returns : goal.returns
returns c =
    let p = content c.args.self.now in
    let v = c.args.valuation in
    let k = c.args.number in
    let cell = c.in_ok-cell.cell in
    let bytes = c.in_ok-cell.bytes in
    let all = moves_of cell.letters cell.mask v (act_of cell.letters bytes.now) in
    let told : c.nth.result ≡ slice_get all k = sym (option_map_id c.nth.result) ∙ nth_from_yields_List c.nth.result c.nth.new.self k c.nth.ensures.ran (YieldsList-from_first (λ m. m) (λ m. moves_of m.cell.letters m.cell.mask m.valuation (act_of m.cell.letters m.events.rest.now)) all c.moves.ensures.moves) in
    let answer : c.nth.result ≡ slice_get (moves_at p c.args.cell v c.args.act) k = answered c.args.self.now.sheet c.args.cell c.args.act (λ n c es. moves_of n c v es) [] (λ ms. slice_get ms k) (Some (cell, bytes)) c.in_ok-cell.ensures.bytes c.in_ok-cell.ensures.cell c.nth.result (λ x. c.nth.result ≡ slice_get (moves_of x.0.letters x.0.mask v (act_of x.0.letters x.1.now)) k) told (λ x t. t) in
    record { answer = answer; landed = λ m e. landed p c.args.cell v c.args.act k m (sym answer ∙ e) }
