use Rattle.std.proofs.Common.{◌*◌, ◌-◌, ◌/◌, ◌%◌, ◌^◌, sym, ap, ◌∙◌, ap₂, arith}
use lib.Bits.{bit_and, bit_or}
use Rattle.std.proofs.lemmas.Nat.{one_shl}
use Rattle.sheets.proofs.Masks.{one_shifted}
use Rattle.epistemic.specs.Bits.{image, put}
use Rattle.epistemic.proofs.Features.{lowered_is, raised_is}
use Rattle.knowledge.proofs.event.assigned.Goals as goal

pub overflow_shl-result-then-value : goal.overflow_shl-result-then-value
overflow_shl-result-then-value c = one_shifted c.args.i (omega arith)

pub overflow_shr-result : goal.overflow_shr-result
overflow_shr-result c = one_shifted c.args.i (omega arith)

pub returns-then-value : goal.returns-then-value
returns-then-value c =
    let i = c.args.i in
    let m = c.args.mask in
    ap₂ (λ s l. bit_and (bit_or m (m * 2 ^ s % 2 ^ 64)) l) (one_shl i 32 (omega arith)) c.letter_mask-holds.ensures
    ∙ raised_is i m (omega arith) c.ranges.mask.fits
    ∙ ap (λ b. image (put i b) m 64) (sym c.if-value.true)

pub returns-else-value : goal.returns-else-value
returns-else-value c =
    let i = c.args.i in
    let m = c.args.mask in
    ap₂ (λ s l. bit_and (bit_or m (m / 2 ^ s)) ((2 ^ 64 - 1) - l)) (one_shl i 32 (omega arith)) c.letter_mask-holds.ensures
    ∙ lowered_is i m (omega arith) c.ranges.mask.fits
    ∙ ap (λ b. image (put i b) m 64) (sym c.if-value.false)
