-- What is left of the outcomes that are gone through one after another. Assumes nothing.
use Rattle.std.specs.Prelude.{List, drop}
use Rattle.planning.specs.Meaning.{Meaning}
use Rattle.planning.specs.declared.outcomes.Outcomes.{Outcomes}

-- the outcomes that are still to come
abbrev pub outcomes_left : {B S : Type 0} → (B → Meaning S) → Outcomes B S → List S
outcomes_left meaning o = drop o.number ((meaning o.book.now).outcomes o.s o.act)
