use Rattle.std.proofs.Common.{◌-◌, ap, ◌∙◌, arith}
use lib.Bits.{bit_and, bit_or}
use Rattle.std.proofs.lemmas.Nat.{one_shl}
use Rattle.sheets.specs.Events.{entry}
use Rattle.epistemic.proofs.Shifts.{bit_cut}
use Rattle.epistemic.proofs.Changes.{moved_masked}
use Rattle.knowledge.specs.Acting.{event_of}
use Rattle.knowledge.proofs.cell.Cell.moved.Goals as goal

pub returns : goal.returns
returns c =
    let n = c.args.self.letters in
    let set = c.args.event.set in
    let clear = c.args.event.clear in
    let v = c.args.valuation in
    ap (λ x. bit_and (bit_or (bit_and v (255 - clear)) set) (x - 1)) (one_shl n 8 (omega arith))
    ∙ moved_masked 8 n (event_of n (entry c.args.event)) set clear v (omega arith) (omega arith) (bit_cut set n) (bit_cut clear n)
