-- What is printed of a sheet. Assumes nothing.
use Rattle.std.specs.Prelude.{ℕ, Bool, true, false, List, [], ◌∷◌, is_ok, Ok, Err, string_bytes, codes, decimal, Result}
use Rattle.sheets.specs.declared.fault.SheetFault.{SheetFault}
use Rattle.sheets.specs.Reading.{Parts, read_sheet}
use Rattle.sheets.specs.Stops.{stop_number, stop_section, stop_place}
use Rattle.knowledge.specs.Books.{book_meaning}
use Rattle.lines.specs.Words.{sentence}
use Rattle.printout.specs.declared.Printout.{Printout}
use Rattle.printout.specs.declared.Printout.TheVariants.{Plan, Stop}
use Rattle.printout.specs.Plans.{plan_text}

-- the bytes of a printout, and whether they are a plan
abbrev pub text_of : Printout → List ℕ
text_of (Plan text) = text.items
text_of (Stop line) = string_bytes line

abbrev pub is_plan : Printout → Bool
is_plan (Plan _) = true
is_plan (Stop _) = false

-- the line of a refused sheet
unfoldable pub stop_text : SheetFault → List ℕ
stop_text fault = sentence (codes "stop" ∷ decimal (stop_number fault) ∷ decimal (stop_section fault) ∷ decimal (stop_place fault) ∷ [])

-- what is printed where reading gives so
abbrev pub printed_by : Result Parts SheetFault → List ℕ
printed_by (Ok parts) = plan_text (book_meaning parts)
printed_by (Err fault) = stop_text fault

-- what is printed of a sheet of these bytes
unfoldable pub printed : List ℕ → List ℕ
printed bytes = printed_by (read_sheet bytes)

-- whether the sheet is accepted
unfoldable pub accepts : List ℕ → Bool
accepts bytes = is_ok (read_sheet bytes)
