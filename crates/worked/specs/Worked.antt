-- Cases small enough to be worked out by hand: to be proved from the definitions alone. Assumes nothing.
use Rattle.std.specs.Prelude.{◌≡◌, ℕ, ◌≤◌, true, false, List, [], ◌∷◌, replicate, Ok, codes}
use Rattle.sheets.specs.Formulas.{K, M, letter}
use Rattle.sheets.specs.Reading.{parts_at, read_sheet}
use Rattle.planning.specs.Meaning.{Meaning}
use Rattle.planning.specs.Finding.{Final}
use Rattle.session.specs.declared.plain.Row.{Row}
use Rattle.session.specs.declared.plain.Progress.{Progress}
use Rattle.session.specs.declared.plain.Standing.{Standing}
use Rattle.session.specs.declared.plain.Standing.TheVariants.{Working, Found, Full}
use Rattle.session.specs.ClosedForm.{progress}
use Rattle.session.specs.Views.{View, places}
use Rattle.session.specs.Calls.{Made, Worked}
use Rattle.epistemic.specs.Lists.{◌∈◌}
use Rattle.epistemic.specs.Models.{sat, applicable}
use Rattle.epistemic.specs.Cells.{model, truth}
use Rattle.epistemic.specs.Acts.{events, outcomes}
use Rattle.knowledge.specs.Texts.{read}
use Rattle.knowledge.specs.Acting.{act_of}
use Rattle.knowledge.specs.Books.{book_meaning}
use Rattle.tables.specs.declared.spot.Spot.{Spot}
use Rattle.tables.specs.declared.row.TableRow.{TableRow}
use Rattle.tables.specs.Tables.{Table, table_of, table_answer}
use Rattle.tables.specs.Books.{table_meaning}
use Rattle.printout.specs.Plans.{plan_text}
use Rattle.printout.specs.Printouts.{printed, accepts}
use Rattle.worked.specs.Patches.{example, half_look, look, look_folded, mended, without_look}

-- where the agent deems possible that the patch is folded and that it is not, cell 3 over two features
pub record Knowing : Type 0 where
  pub valuations : (model 2 3).worlds ≡ 0 ∷ 1 ∷ []
  -- `Ka` holds nowhere, by satisfaction and by the evaluator's mask
  pub known_text : (read 2 (codes "Ka")).formula ≡ K (letter 0)
  pub known_nowhere : (v : ℕ) → v ∈ (model 2 3).worlds → sat (model 2 3) v (K (letter 0)) ≡ false
  pub known_mask : truth 6 3 (K (letter 0)) ≡ 0
  -- `Ma` holds at both
  pub possible_text : (read 2 (codes "Ma")).formula ≡ M (letter 0)
  pub possible_everywhere : (v : ℕ) → v ∈ (model 2 3).worlds → sat (model 2 3) v (M (letter 0)) ≡ true
  pub possible_mask : truth 6 3 (M (letter 0)) ≡ 3

-- to look, there: with both its events, and with only the one that the patch is folded
pub record Looking : Type 0 where
  pub applicable_whole : applicable (model 2 3) (events (act_of 2 look)) ≡ true
  pub outcomes_whole : outcomes 2 3 (act_of 2 look) ≡ 2 ∷ 1 ∷ []
  pub applicable_half : applicable (model 2 3) (events (act_of 2 look_folded)) ≡ false
  pub outcomes_half : outcomes 2 3 (act_of 2 look_folded) ≡ []

-- a spot by zone and level
abbrev spot : ℕ → ℕ → Spot
spot z l = record { zone = z; level = l }

-- a row of act 0 in spot (0,0)
abbrev slip_to : Spot → TableRow
slip_to s = record { from = spot 0 0; act = 0; to = s }

-- a table whose one act leads from (0,0) to (0,0) or to (0,1), where level 1 is wanted in zone 0 and nothing elsewhere
abbrev pub slip : Table
slip = table_of 1 (spot 0 0) (1 ∷ replicate 63 64) (slip_to (spot 0 0) ∷ slip_to (spot 0 1) ∷ [])

-- from a sheet's bytes, or a table, to all lines of its plan
pub record Lines : Type 0 where
  pub example_accepted : accepts example ≡ true
  pub example_lines : printed example ≡ codes "found 2 4 16\n0 2 0 1 2\n1 1 1 3\n2 1 2 3\n3 0 -\n"
  pub half_look_lines : printed half_look ≡ codes "none 1 2\n0 - -\n"
  pub without_look_lines : printed without_look ≡ codes "none 1 2\n0 - -\n"
  pub mended_lines : printed mended ≡ codes "found 0 1 2\n0 0 -\n"
  pub slip_accepted : table_answer slip ≡ Ok slip
  pub slip_lines : plan_text (table_meaning slip) ≡ codes "none 2 4\n0 - -\n1 0 -\n"

-- the book of the example
abbrev pub patch : Meaning ℕ
patch = book_meaning (parts_at example)

-- a search that stands so, after so many units
abbrev pub at_unit : Standing → ℕ → Progress
at_unit s u = record { standing = s; units = u }

-- the example in enough places, in too few, and in none
pub record Places : Type 0 where
  pub read : read_sheet example ≡ Ok (parts_at example)
  pub four_states : Final patch 4
  pub fits : (n u : ℕ) → 4 ≤ n → 16 ≤ u → progress patch n u ≡ at_unit (Found 2) 16
  pub three_places : progress patch 3 1 ≡ at_unit Working 1
  pub full_at_three : (u : ℕ) → 2 ≤ u → progress patch 3 u ≡ at_unit (Full 2) 2
  pub two_places : progress patch 2 0 ≡ at_unit Working 0
  pub full_at_two : (u : ℕ) → 1 ≤ u → progress patch 2 u ≡ at_unit (Full 1) 1
  pub full_at_none : (u : ℕ) → progress patch 0 u ≡ at_unit (Full 0) 0

-- the example worked on with the quotas 15, 0 and 1, in any lists that have places enough: working, working, found
abbrev pub Portions : Type 0
Portions =
    (states : List ℕ) (rows : List Row) (v w x y : View ℕ) (p q r : Progress) →
    Made patch states rows v → 4 ≤ places v →
    Worked patch 15 v p w → Worked patch 0 w q x → Worked patch 1 x r y →
    (p ≡ at_unit Working 15) × ((q ≡ at_unit Working 15) × (r ≡ at_unit (Found 2) 16))

-- all cases
pub record WorkedCases : Type 0 where
  pub knowing : Knowing
  pub looking : Looking
  pub lines : Lines
  pub places_needed : Places
  pub portions : Portions
