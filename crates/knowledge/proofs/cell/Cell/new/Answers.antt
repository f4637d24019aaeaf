use Rattle.std.proofs.Common.{◌/◌, ◌^◌, ◌<◌, eqb, sym, ap, ◌∙◌, subst, arith}
use Rattle.std.proofs.lemmas.Nat.{one_shl}
use Rattle.std.proofs.lemmas.Bool.{eq-eqb, lt-ltb}
use Rattle.sheets.proofs.Masks.{shr_none, one_shifted}
use Rattle.knowledge.proofs.cell.Cell.new.Goals as goal
use Rattle.knowledge.proofs.cell.Cell.new.Goals.{then-letters-eq6, else-letters-eq6}

pub overflow_shr-mask : goal.overflow_shr-mask
overflow_shr-mask c = one_shifted c.args.letters (omega arith)

pub returns-else-mask-letters-eq0-clause-some : goal.returns-else-mask-letters-eq0-clause-some
returns-else-mask-letters-eq0-clause-some c =
    sym c.if-mask-letters-eq0.false
    ∙ elim c.if-letters-eq6.branch [
      | then-letters-eq6 w ↦ w.value-is ∙ eq-eqb _ _ w.if-letters-eq6.true ∙ sym (lt-ltb _ _ (subst (λ n. c.args.mask < 2 ^ (2 ^ n)) (sym w.if-letters-eq6.true) c.ranges.mask.fits))
      | else-letters-eq6 w ↦ w.value-is ∙ ap (λ s. eqb (c.args.mask / 2 ^ s) 0) (one_shl c.args.letters 32 (omega arith)) ∙ shr_none c.args.mask (2 ^ c.args.letters)
    ]
