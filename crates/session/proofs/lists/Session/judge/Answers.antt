use Rattle.std.proofs.Common.{arith, rules}
use Rattle.std.proofs.lemmas.Iterator.{YieldsList-from_range}
use Rattle.std.proofs.lemmas.Iterator.Search.{find_from_yields_List}
use borrow.Author.Tests.{tests}
use Rattle.planning.specs.Ranks.{brings}
use Rattle.session.specs.Views.{view}
use Rattle.session.specs.Judging.{told}
use Rattle.session.proofs.Judged.{find-first_act}
use Rattle.session.proofs.lists.Session.judge.Goals as goal

pub returns : goal.returns
returns g c =
    let m = g.B.Book.meaning c.args.book.now in
    let f = brings m (told m (view c.args.self.now) c.args.j) c.args.s in
    find-first_act f c.find.result m.acts (find_from_yields_List f _ _ c.find.result c.find.ensures.ran (YieldsList-from_range 0 m.acts m.acts (cc) (omega arith)) (λ x b q k. search (rules, tests)))
