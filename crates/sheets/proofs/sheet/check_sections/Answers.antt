use Rattle.std.proofs.Common.{◌≡◌, ◌<◌, get_or, arith, rules}
use Rattle.std.specs.Iterator.Adapters.{zip_first, zip_second}
use Rattle.sheets.specs.Rules.{section_count}
use Rattle.sheets.proofs.Walking.{first_sections}
use Rattle.sheets.proofs.sheet.check_sections.Goals as goal

pub loop-number-init : goal.loop-number-init
loop-number-init c =
    let bs = c.args.header.sheet.now in
    let number : (zip_first c.into_iter-number-iterator.result).start ≡ 0 = search rules in
    let end : (zip_first c.into_iter-number-iterator.result).end ≡ section_count (get_or bs 1 0) = search rules in
    let few : (zip_first c.into_iter-number-iterator.result).end < 258 = omega arith in
    let sheet : (zip_second c.into_iter-number-iterator.result).sheet.now ≡ bs = search rules in
    let place : (zip_second c.into_iter-number-iterator.result).place ≡ 0 = search rules in
    first_sections bs _ _ _ _ c.requires end few number sheet place
