-- The numbers and places by which the faults of a table are told. Assumes nothing.
use Rattle.std.specs.Prelude.{ℕ, List, ◌++◌, codes}
use Rattle.std.specs.Fmt.{decimal}
use Rattle.tables.specs.declared.fault.TableFault.{TableFault}
use Rattle.tables.specs.declared.fault.TableFault.TheVariants.{Acts, Start, Wanted, Rows, Row}

-- 7 for a wrong part of the table, 8 for a wrong row
abbrev pub fault_number : TableFault → ℕ
fault_number Acts = 7
fault_number Start = 7
fault_number Wanted = 7
fault_number Rows = 7
fault_number (Row i) = 8

-- which part is wrong, or which row
abbrev pub fault_place : TableFault → ℕ
fault_place Acts = 0
fault_place Start = 1
fault_place Wanted = 2
fault_place Rows = 3
fault_place (Row i) = i

-- a fault in words: the texts before its number and before its place
abbrev pub fault_text : TableFault → List ℕ
fault_text f = codes "stop " ++ (decimal (fault_number f) ++ (codes " at place " ++ decimal (fault_place f)))
