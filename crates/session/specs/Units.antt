-- What one unit of work does. Assumes nothing.
use Rattle.std.specs.Prelude.{◌≡◌, ℕ, ◌+◌, Bool, true, false, cond, take}
use Rattle.std.specs.List.{slice_get}
use Rattle.session.specs.declared.plain.Standing.{Standing}
use Rattle.session.specs.declared.plain.Standing.TheVariants.{Working, Full}
use Rattle.planning.specs.Meaning.{Meaning}
use Rattle.session.specs.Views.{View}
use Rattle.session.specs.Calls.{Stands}
use Rattle.session.specs.Joins.{Keeps}
use Rattle.session.specs.Judging.{has_rank, standing_by}

-- the search has not ended
abbrev pub works_at : Standing → Bool
works_at Working = true
works_at Standing.NoPlan = false
works_at (Standing.Found d) = false
works_at (Full k) = false

-- where a session stands after a visit in sweep j: decided if that ends a sweep that ranked nothing
abbrev pub outlook : {S : Type 0} → View S → ℕ → Bool → Standing
outlook v j false = Working
outlook v j true = cond (has_rank j (take v.plain.listed v.rows)) Working (standing_by (slice_get v.rows 0))

-- a unit of work: where the guard holds, a session that works and stands after u units then stands after u + 1;
-- whatever the session, the walk, the lengths and the unused places are kept
pub record Moves {S : Type 0} (m : Meaning S) (guard : Type 0) (v v' : View S) : Type 0 where
  pub stands : (u : ℕ) → Stands m u v → v.plain.progress.standing ≡ Working → guard → Stands m (u + 1) v'
  pub keeps : Keeps v v'
