use Rattle.std.proofs.Common.{◌≡◌, map, drop, decimal}
use Rattle.lines.specs.Texts.{text}
use Rattle.lines.proofs.Wording.{ahead}
use Rattle.lines.proofs.tell.counts.Given as goal

abbrev pub invariant-loop-n : goal.invariant-loop-n
invariant-loop-n l = ahead (text l.text) (map decimal (drop l.n-index l.numbers)) ≡ ahead (text l.initial.text) (map decimal l.numbers)
