use Rattle.std.proofs.Common.{◌≡◌, ◌+◌, ◌≤◌, length}
use Rattle.std.specs.Iterator.Adapters.{zip_first, zip_second}
use Rattle.std.specs.Slice.Iter.{iter_rest}
use Rattle.sheets.specs.Checks.{check_from}
use Rattle.sheets.proofs.formula.check_formula.Given as goal

abbrev pub invariant-loop-place : goal.invariant-loop-place
invariant-loop-place l =
    record {
      can : (goal.iterator-loop-place).can_next l.place-iterator;
      ends : (goal.iterator-loop-place).is_finite l.place-iterator;
      same : check_from l.letters (zip_first l.place-iterator).start l.owed (iter_rest (zip_second l.place-iterator)) ≡ check_from l.letters 0 1 l.text;
      small : l.owed ≤ (zip_first l.place-iterator).start + 1;
      end : (zip_first l.place-iterator).end ≡ l.size;
      short : length l.text ≤ 200;
      whole : (zip_first l.place-iterator).start + length (iter_rest (zip_second l.place-iterator)) ≡ l.size;
    }
