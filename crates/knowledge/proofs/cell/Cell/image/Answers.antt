use Rattle.std.proofs.Common.{◌≡◌, sym, ap, ◌∙◌, add-one, arith}
use Rattle.sheets.specs.Events.{entry}
use Rattle.epistemic.specs.Acts.{with_feature, with_features}
use Rattle.epistemic.specs.Bits.{image}
use Rattle.epistemic.proofs.Changes.{changed_none, changed_more, changed_all}
use Rattle.knowledge.specs.Acting.{event_of}
use Rattle.knowledge.proofs.cell.Cell.image.Goals as goal

pub loop-i-init : goal.loop-i-init
loop-i-init c = sym (changed_none (event_of c.args.self.letters (entry c.args.event)) c.args.self.mask (omega arith))

pub loop-i-preserved : goal.loop-i-preserved
loop-i-preserved c =
    let e = event_of c.args.self.letters (entry c.args.event) in
    let i = c.loop-i.i in
    let m = c.args.self.mask in
    c.changed-moved.ensures c.args.self.letters (omega arith)
    ∙ ap (λ x. image (with_feature e i) x 64) c.loop-i.invariant
    ∙ changed_more e m (omega arith) i (omega arith)
    ∙ ap (λ k. image (with_features e k) m 64) (sym (add-one i))

pub returns : goal.returns
returns c =
    let cell = c.args.self in
    let n = cell.letters in
    let e = event_of n (entry c.args.event) in
    let last : c.loop-i.i ≡ n = omega arith in
    c.loop-i.invariant
    ∙ ap (λ k. image (with_features e k) cell.mask 64) last
    ∙ changed_all e cell.mask (omega arith) n cell.few cell.within
