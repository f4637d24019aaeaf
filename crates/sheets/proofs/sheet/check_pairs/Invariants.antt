use Rattle.std.proofs.Common.{◌≡◌, ◌-◌, get_or}
use Rattle.std.specs.List.{range_with_len}
use Rattle.sheets.specs.Rules.{header_end}
use Rattle.sheets.specs.Reading.{pairs_check, section_numbers}
use Rattle.sheets.proofs.sheet.check_pairs.Given as goal

abbrev pub invariant-loop-number : goal.invariant-loop-number
invariant-loop-number l = pairs_check l.header.sheet.now l.end (range_with_len l.number (l.count - l.number)) ≡ pairs_check l.header.sheet.now (header_end (get_or l.header.sheet.now 1 0)) (section_numbers l.header.sheet.now)
