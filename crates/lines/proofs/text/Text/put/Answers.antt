use Rattle.std.proofs.Common.{ap, length, sym, ◌∙◌, arith}
use Rattle.std.proofs.lemmas.List.{take_all}
use Rattle.lines.proofs.text.Text.put.Goals as goal

pub returns : goal.returns
returns c =
    let n = c.len-n.ensures in
    let whole = take_all 64 c.args.self.now.bytes.items (omega (arith, n.fits, n.value)) in
    let copied = c.copy_from_slice.ensures.after in
    let bytes = c.deref.ensures.0 in
    let tells = n.value in
    record { answer = tells ∙ ap length (sym whole); after = cc }
