use Rattle.std.proofs.Common.{◌≡◌, ℕ, List, Ok, Result, rules}
use Rattle.sheets.specs.declared.fault.SheetFault.{SheetFault}
use Rattle.sheets.specs.declared.sheet.Sheet.{Sheet}
use Rattle.sheets.specs.Layout.{AcceptsLayout}
use Rattle.sheets.specs.Reading.{answered, read_sheet}
use Rattle.sheets.proofs.Layouts.{accepts_layout}
use Rattle.sheets.proofs.sheet.Sheet.read.Goals as goal

-- the layout follows from the equation
right : (bs : List ℕ) (r : Result Sheet SheetFault) → answered r ≡ read_sheet bs → record { answer : answered r ≡ read_sheet bs; layout : AcceptsLayout bs (answered r) }
right bs r e = record { answer = e; layout = accepts_layout bs (answered r) e }

pub returns-in_err-check_header : goal.returns-in_err-check_header
returns-in_err-check_header c = right c.args.bytes.now c.from_residual.result (search rules)

pub returns-in_err-check_pairs : goal.returns-in_err-check_pairs
returns-in_err-check_pairs c = right c.args.bytes.now c.from_residual-in_err-check_pairs.result (search rules)

pub returns-in_err-check_sections : goal.returns-in_err-check_sections
returns-in_err-check_sections c = right c.args.bytes.now c.from_residual-in_err-check_sections.result (search rules)

pub returns : goal.returns
returns c = right c.args.bytes.now (Ok c.over.result) (search rules)
