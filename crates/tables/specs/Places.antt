-- What stands at a place of a list, if anything. Assumes nothing.
use Rattle.std.specs.Prelude.{ℕ, ◌-◌, Bool, false, cond, List, Some, None, Option, nat_le}
use Rattle.std.specs.List.{slice_get}

-- something is there and passes the test
abbrev pub passes : {A : Type 0} → (A → Bool) → Option A → Bool
passes p None = false
passes p (Some x) = p x

-- what stands k places before place i
abbrev pub back : {A : Type 0} → List A → ℕ → ℕ → Option A
back xs k i = cond (nat_le k i) (slice_get xs (i - k)) None
