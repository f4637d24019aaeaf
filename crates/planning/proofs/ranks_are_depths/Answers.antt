use Rattle.planning.proofs.Growth.{list_grows}
use Rattle.planning.proofs.Settled.{rank_is_depth, ranks_settled}
use Rattle.planning.proofs.ranks_are_depths.Goals as goal

pub returns : goal.returns
returns g c =
    let m = g.B.Book.meaning c.args.book.now in
    let law = g.met.B.Book.lawful c.args.book.now in
    record { depth = rank_is_depth m law; settled = ranks_settled m law; grows = list_grows m law }
