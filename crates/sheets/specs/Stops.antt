-- The number, the section and the place of each fault. Assumes nothing.
use Rattle.std.specs.Prelude.{ℕ, ◌+◌, ◌*◌, List, [], ◌∷◌, ◌++◌, codes, decimal}
use Rattle.sheets.specs.declared.fault.FormulaFault.{FormulaFault}
use Rattle.sheets.specs.declared.fault.FormulaFault.TheVariants.{TooLong, Wrong, Spare, Unfinished}
use Rattle.sheets.specs.declared.fault.SectionFault.{SectionFault}
use Rattle.sheets.specs.declared.fault.SectionFault.TheVariants.{Start, Event, Formula}
use Rattle.sheets.specs.declared.fault.SheetFault.{SheetFault}
use Rattle.sheets.specs.declared.fault.SheetFault.TheVariants.{Size, Features, Acts, Header, Pair, Section}

-- where in its text a formula's fault is
abbrev pub formula_place : FormulaFault → ℕ
formula_place TooLong = 0
formula_place (Wrong p) = p
formula_place (Spare p) = p
formula_place (Unfinished p) = p

-- the number of a section's fault: 4 for the start, 5 for a formula, 6 for an event as a whole
abbrev pub section_number : SectionFault → ℕ
section_number Start = 4
section_number (Event _) = 6
section_number (Formula _ _) = 5

-- where in its section the fault is; a formula's fault is in the formula's own bytes
abbrev pub section_place : SectionFault → ℕ
section_place Start = 0
section_place (Event at) = at
section_place (Formula at fault) = at + formula_place fault

-- the number of a sheet's fault: 1 for its length, 2 for its counts, 3 for a pair of offset and length
abbrev pub stop_number : SheetFault → ℕ
stop_number Size = 1
stop_number Features = 2
stop_number Acts = 2
stop_number Header = 1
stop_number (Pair _) = 3
stop_number (Section _ _ fault) = section_number fault

-- the section of a sheet's fault: 0 for the header, 1 for the start, 2 for the goal, 3 and on for the acts
abbrev pub stop_section : SheetFault → ℕ
stop_section Size = 0
stop_section Features = 0
stop_section Acts = 0
stop_section Header = 0
stop_section (Pair _) = 0
stop_section (Section section _ _) = section

-- the place of a sheet's fault, from the sheet's first byte; a pair's is its own first byte
abbrev pub stop_place : SheetFault → ℕ
stop_place Size = 0
stop_place Features = 0
stop_place Acts = 1
stop_place Header = 0
stop_place (Pair k) = 2 + 4 * k
stop_place (Section _ offset fault) = offset + section_place fault

-- each word after a space
abbrev pub after_spaces : List (List ℕ) → List ℕ
after_spaces [] = []
after_spaces (w ∷ ws) = codes " " ++ (w ++ after_spaces ws)

-- what is printed of a sheet's fault: `stop` with its number, section and place
abbrev pub stop_line : SheetFault → List ℕ
stop_line fault = codes "stop" ++ after_spaces (decimal (stop_number fault) ∷ decimal (stop_section fault) ∷ decimal (stop_place fault) ∷ [])
