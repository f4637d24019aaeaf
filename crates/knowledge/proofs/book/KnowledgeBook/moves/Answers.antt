use Rattle.std.proofs.Common.{◌≡◌, length, [], Some}
use Rattle.std.proofs.lemmas.Iterator.Consumers.{count_from_yields_List, YieldsList-from_first}
use Rattle.knowledge.specs.Acting.{act_of}
use Rattle.knowledge.specs.Books.{content}
use Rattle.knowledge.specs.Moves.{moves_at, moves_of}
use Rattle.knowledge.proofs.Contents.{answered}
use Rattle.knowledge.proofs.Landing.{some_move}
use Rattle.knowledge.proofs.book.KnowledgeBook.moves.Goals as goal

pub returns : goal.returns
returns c =
    let p = content c.args.self.now in
    let v = c.args.valuation in
    let cell = c.in-Some.cell in
    let all = moves_of cell.letters cell.mask v (act_of cell.letters c.in-Some.bytes.now) in
    let told = count_from_yields_List c.moves.result c.count.result c.count.ensures.ran (YieldsList-from_first (λ m. m) (λ m. moves_of m.cell.letters m.cell.mask m.valuation (act_of m.cell.letters m.events.rest.now)) all c.moves.ensures.moves) in
    let answer : c.count.result ≡ length (moves_at p c.args.cell v c.args.act) = answered c.args.self.now.sheet c.args.cell c.args.act (λ n c es. moves_of n c v es) [] length (Some (cell, c.in-Some.bytes)) c.in-Some.ensures.bytes c.in-Some.ensures.cell c.count.result (λ x. c.count.result ≡ length (moves_of x.0.letters x.0.mask v (act_of x.0.letters x.1.now))) told (λ x t. t) in
    record { answer = answer; some = some_move p c.args.cell v c.args.act c.count.result answer }
