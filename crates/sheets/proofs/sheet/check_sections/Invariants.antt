use Rattle.std.proofs.Common.{◌≡◌, ◌+◌, ◌≤◌, length}
use Rattle.std.specs.Iterator.Adapters.{zip_first, zip_second}
use Rattle.sheets.specs.Reading.{sections_check, section_numbers}
use Rattle.sheets.specs.Sections.{sections_from}
use Rattle.sheets.proofs.Walking.{parts_judged}
use Rattle.sheets.proofs.sheet.check_sections.Given as goal

abbrev pub invariant-loop-number : goal.invariant-loop-number
invariant-loop-number l =
    record {
      can : (goal.iterator-loop-number).can_next l.number-iterator;
      ends : (goal.iterator-loop-number).is_finite l.number-iterator;
      same : parts_judged l.header.sheet.now (zip_first l.number-iterator).start (sections_from (zip_second l.number-iterator).sheet.now (zip_second l.number-iterator).place) ≡ sections_check l.header.sheet.now (section_numbers l.header.sheet.now);
      within : (zip_first l.number-iterator).start + length (sections_from (zip_second l.number-iterator).sheet.now (zip_second l.number-iterator).place) ≤ (zip_first l.number-iterator).end;
      few : (zip_first l.number-iterator).end ≤ 257;
    }
