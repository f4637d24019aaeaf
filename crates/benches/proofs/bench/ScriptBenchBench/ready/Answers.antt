use Rattle.std.proofs.Common.{ap, ◌∙◌}
use Rattle.std.specs.Prelude.{nat_lt}
use Rattle.benches.proofs.Choosing.{some_long}
use Rattle.benches.proofs.bench.ScriptBenchBench.ready.Goals as goal

pub returns : goal.returns
returns g c = ap (nat_lt 0) c.left.ensures ∙ some_long _
