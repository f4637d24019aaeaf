use Rattle.std.proofs.Common.{◌+◌, ◌-◌, sym, ap, ◌∙◌}
use Rattle.std.specs.List.{range_with_len}
use Rattle.sheets.specs.Reading.{pairs_check}
use Rattle.sheets.proofs.Walking.{pair_bad, pair_good}
use Rattle.sheets.proofs.sheet.check_pairs.Goals as goal

pub returns-then-not-pair_fits : goal.returns-then-not-pair_fits
returns-then-not-pair_fits c =
    sym (pair_bad c.args.header.sheet.now (c.section_count-count.result) c.loop-number.number c.loop-number-test.true c.loop-number.end (sym c.if-not-pair_fits.ensures)) ∙ c.loop-number.invariant

pub loop-number-preserved : goal.loop-number-preserved
loop-number-preserved c =
    let bs = c.args.header.sheet.now in
    let k = c.loop-number.number in
    let n = c.section_count-count.result in
    ap (λ e. pairs_check bs e (range_with_len (k + 1) (n - (k + 1)))) c.ending-end.ensures ∙ sym (pair_good bs n k c.loop-number-test.true c.loop-number.end (sym c.if-not-pair_fits.ensures)) ∙ c.loop-number.invariant
