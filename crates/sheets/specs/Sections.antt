-- The sections of a sheet, one after another, by name. Assumes nothing.
use Rattle.std.specs.Prelude.{ℕ, zero, suc, ◌+◌, ◌-◌, ◌*◌, Bool, cond, ◌&&◌, List, [], ◌∷◌, length, Some, None, Option, nat_le, nat_lt, slice_index}
use Rattle.sheets.specs.declared.reader.Section.{Section}
use Rattle.sheets.specs.declared.reader.Section.TheVariants.{Start, Goal, Act}
use Rattle.sheets.specs.Rules.{section_bytes, section_count}

-- a section's name with its bytes
pub data Part : Type 0 where
  start : List ℕ → Part
  goal : List ℕ → Part
  act : List ℕ → Part

-- the first section is the start, the second the goal, and each later one an act
abbrev pub named : ℕ → List ℕ → Part
named zero bs = start bs
named (suc zero) bs = goal bs
named (suc (suc _)) bs = act bs

-- the sheet has section k, and the header holds its pair
abbrev pub has_section : List ℕ → ℕ → Bool
has_section bs k = nat_lt k (section_count (slice_index bs 1)) && nat_le (2 + 4 * (k + 1)) (length bs)

-- section k of a sheet, if it has one
abbrev pub section_of : List ℕ → ℕ → Option Part
section_of bs k = cond (has_section bs k) (Some (named k (section_bytes bs k))) None

-- what a section of the program is
abbrev pub part : Section → Part
part (Start bs) = start bs.now
part (Goal bs) = goal bs.now
part (Act bs) = act bs.now

-- what the program hands out
abbrev pub handed : Option Section → Option Part
handed (Some s) = Some (part s)
handed None = None

-- the sections of a sheet from section k on, one after another, up to the first that it does not have: of at most so many
abbrev pub sections_within : List ℕ → ℕ → ℕ → List Part
sections_within bs k zero = []
sections_within bs k (suc n) = elim (section_of bs k) [ Some p ↦ p ∷ sections_within bs (k + 1) n | None ↦ [] ]

-- the sections of a sheet from section k on, up to the first that it does not have
abbrev pub sections_from : List ℕ → ℕ → List Part
sections_from bs k = sections_within bs k (section_count (slice_index bs 1) - k)
