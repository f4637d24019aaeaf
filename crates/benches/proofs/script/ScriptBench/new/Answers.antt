use Rattle.std.proofs.Common.{◌≡◌, length, min, take, ap, ◌∙◌, ap₂, arith, rules}
use Rattle.std.proofs.lemmas.List.{take_min}
use Rattle.benches.proofs.script.ScriptBench.new.Goals as goal

pub returns : goal.returns
returns g c =
    let bytes = c.args.choices.now in
    let count : c.min-count.result ≡ min 64 (length bytes) = omega (arith, c.min-count.ensures) in
    let held : c.try_extend_from_slice.new.self.items ≡ take c.min-count.result bytes = search rules in
    ap₂ (λ s xs. record { state = s; bytes = xs }) c.start.ensures (held ∙ ap (λ k. take k bytes) count ∙ take_min 64 bytes)
