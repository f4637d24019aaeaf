-- What reading a sheet gives: its parts, or the first fault in the order of the rules. Assumes nothing.
use Rattle.std.specs.Prelude.{ℕ, zero, suc, ◌+◌, Bool, true, false, cond, not, ◌&&◌, ◌||◌, List, [], ◌∷◌, map, length, Some, None, Ok, Err, Result, ◌==◌, nat_le, nat_lt, slice_index}
use Rattle.std.specs.List.{range_with_len}
use Rattle.sheets.specs.declared.fault.SectionFault.{SectionFault}
use Rattle.sheets.specs.declared.fault.SectionFault.TheVariants as section_fault
use Rattle.sheets.specs.declared.fault.SheetFault.{SheetFault}
use Rattle.sheets.specs.declared.fault.SheetFault.TheVariants as sheet_fault
use Rattle.sheets.specs.declared.sheet.Sheet.{Sheet}
use Rattle.sheets.specs.Checks.{checked}
use Rattle.sheets.specs.Events.{Entry, first_event, events_of}
use Rattle.sheets.specs.Sections.{Part, start, goal, act, named}
use Rattle.sheets.specs.Rules.{features_fit, acts_fit, start_fits, fields_fit, mask_of, section_count, header_end, offset, ending, section_bytes}

-- a check, and if it passes another
abbrev pub then : {E : Type 0} → Result (Unit {0}) E → Result (Unit {0}) E → Result (Unit {0}) E
then (Ok _) r = r
then (Err t) r = Err t

-- what is asked holds, or the fault
abbrev pub ask : {E : Type 0} → Bool → E → Result (Unit {0}) E
ask true t = Ok tt
ask false t = Err t

-- the start is a mask of eight bytes by the rule
abbrev pub start_check : ℕ → List ℕ → Result (Unit {0}) SectionFault
start_check n bs = ask (length bs == 8 && start_fits n (mask_of bs)) section_fault.Start

-- the bytes from a place of the section on are one whole formula
abbrev pub formula_check : ℕ → ℕ → List ℕ → Result (Unit {0}) SectionFault
formula_check n at bs = elim (checked n bs) [ Ok _ ↦ Ok tt | Err t ↦ Err (section_fault.Formula at t) ]

-- the event at a place of the section: its fields, then its condition, which follows four bytes
abbrev pub event_check : ℕ → ℕ → Entry → Result (Unit {0}) SectionFault
event_check n at e = then (ask (fields_fit n e) (section_fault.Event at)) (formula_check n (at + 4) e.condition)

-- the bytes from a place of the section on are whole events, and no more than so many
abbrev pub events_check : ℕ → ℕ → ℕ → List ℕ → Result (Unit {0}) SectionFault
events_check n at left [] = Ok tt
events_check n at zero (_ ∷ _) = Err (section_fault.Event at)
events_check n at (suc left) (b ∷ bs) =
    elim (first_event (b ∷ bs)) [
      | Some p ↦ then (event_check n at p.0) (events_check n (at + 4 + length p.0.condition) left p.1)
      | None ↦ Err (section_fault.Event at)
    ]

-- an act is one to sixteen events
abbrev pub act_check : ℕ → List ℕ → Result (Unit {0}) SectionFault
act_check n bs = then (ask (nat_lt 0 (length bs)) (section_fault.Event 0)) (events_check n 0 16 bs)

-- a section by its name: the start, the goal, or an act
abbrev pub part_check : ℕ → Part → Result (Unit {0}) SectionFault
part_check n (start bs) = start_check n bs
part_check n (goal bs) = formula_check n 0 bs
part_check n (act bs) = act_check n bs

-- a fault of a section in the sheet: the sections count from 1, and their places from the section's offset
abbrev pub in_sheet : ℕ → ℕ → Result (Unit {0}) SectionFault → Result (Unit {0}) SheetFault
in_sheet section at (Ok _) = Ok tt
in_sheet section at (Err t) = Err (sheet_fault.Section section at t)

-- the sections of these numbers, in order
abbrev pub sections_check : List ℕ → List ℕ → Result (Unit {0}) SheetFault
sections_check bs [] = Ok tt
sections_check bs (k ∷ ks) = then (in_sheet (k + 1) (offset bs k) (part_check (slice_index bs 0) (named k (section_bytes bs k)))) (sections_check bs ks)

-- nothing is left
abbrev pub none_left : List ℕ → Bool
none_left [] = true
none_left (_ ∷ _) = false

-- the pair is right: its section does not begin before the end of what is before it, and the last one ends in the sheet
abbrev pub pair_fits : List ℕ → ℕ → ℕ → Bool → Bool
pair_fits bs end k last = nat_le end (offset bs k) && (not last || nat_le (ending bs k) (length bs))

-- the pairs of these numbers, after an end
abbrev pub pairs_check : List ℕ → ℕ → List ℕ → Result (Unit {0}) SheetFault
pairs_check bs end [] = Ok tt
pairs_check bs end (k ∷ ks) = then (ask (pair_fits bs end k (none_left ks)) (sheet_fault.Pair k)) (pairs_check bs (ending bs k) ks)

-- the sheet's length, the counts of features and acts, and room for the header
abbrev pub header_check : List ℕ → Result (Unit {0}) SheetFault
header_check bs =
    then (ask (nat_le 2 (length bs) && nat_le (length bs) 16384) sheet_fault.Size)
    (then (ask (features_fit (slice_index bs 0)) sheet_fault.Features)
    (then (ask (acts_fit (slice_index bs 1)) sheet_fault.Acts) (ask (nat_le (header_end (slice_index bs 1)) (length bs)) sheet_fault.Header)))

-- the numbers of the sections
abbrev pub section_numbers : List ℕ → List ℕ
section_numbers bs = range_with_len 0 (section_count (slice_index bs 1))

-- the whole sheet: header, then all pairs, then the sections
abbrev pub sheet_check : List ℕ → Result (Unit {0}) SheetFault
sheet_check bs = then (header_check bs) (then (pairs_check bs (header_end (slice_index bs 1)) (section_numbers bs)) (sections_check bs (section_numbers bs)))

-- what a sheet says: how many features, the start mask, the goal's text, and the events of each act
pub record Parts : Type 0 where
  pub features : ℕ
  pub start : ℕ
  pub goal : List ℕ
  pub acts : List (List Entry)

-- the parts of a sheet, read where its pairs point
abbrev pub parts_at : List ℕ → Parts
parts_at bs =
    record {
      features = slice_index bs 0;
      start = mask_of (section_bytes bs 0);
      goal = section_bytes bs 1;
      acts = map (λ k. events_of (section_bytes bs k)) (range_with_len 2 (slice_index bs 1));
    }

-- what reading gives
abbrev pub read_sheet : List ℕ → Result Parts SheetFault
read_sheet bs = elim (sheet_check bs) [ Ok _ ↦ Ok (parts_at bs) | Err t ↦ Err t ]

-- the bytes of an act of the program's sheet; none from the number of acts up
abbrev pub act_bytes : Sheet → ℕ → List ℕ
act_bytes s i = cond (nat_lt i s.acts) (section_bytes s.bytes.now (i + 2)) []

-- what a sheet of the program says
abbrev pub parts : Sheet → Parts
parts s =
    record {
      features = s.features;
      start = s.start;
      goal = s.goal.now;
      acts = map (λ i. events_of (act_bytes s i)) (range_with_len 0 s.acts);
    }

-- what the program answers of a sheet
abbrev pub answered : Result Sheet SheetFault → Result Parts SheetFault
answered (Ok s) = Ok (parts s)
answered (Err t) = Err t
