-- Which tables are well made, and what is told of the others. Assumes nothing.
use Rattle.std.specs.Prelude.{◌≡◌, ℕ, zero, suc, ◌<◌, ◌≤◌, Bool, cond, not, ◌&&◌, ◌||◌, List, length, take, Some, None, Ok, Err, Option, Result, ◌==◌, nat_le, nat_lt}
use Rattle.std.specs.List.{slice_get}
use Rattle.planning.specs.Ranks.{every}
use Rattle.tables.specs.Places.{back, passes}
use Rattle.tables.specs.Spots.{within}
use Rattle.tables.specs.Rows.{fits, falls, rows_of}
use Rattle.tables.specs.declared.spot.Spot.{Spot}
use Rattle.tables.specs.declared.row.TableRow.{TableRow}
use Rattle.tables.specs.declared.fault.TableFault.{TableFault}
use Rattle.tables.specs.declared.fault.TableFault.TheVariants.{Acts, Start, Wanted, Rows, Row}

-- what a table is made of: how many acts, the start, the level wanted in each zone, and the rows
pub record Table : Type 0 where
  pub acts : ℕ
  pub start : Spot
  pub wanted : List ℕ
  pub rows : List TableRow

-- the table of these parts
abbrev pub table_of : ℕ → Spot → List ℕ → List TableRow → Table
table_of acts start wanted rows = record { acts = acts; start = start; wanted = wanted; rows = rows }

-- zone and level are at most 63
pub record Within (s : Spot) : Type 0 where
  pub zone : s.zone ≤ 63
  pub level : s.level ≤ 63

-- a row of a table with n acts has its fields in range
pub record Fits (n : ℕ) (r : TableRow) : Type 0 where
  pub from : Within r.from
  pub act : r.act < n
  pub to : Within r.to

-- row q does not fall below row r: by zone, then by level, then by act
pub record Follows (r q : TableRow) : Type 0 where
  pub zone : r.from.zone ≤ q.from.zone
  pub level : r.from.zone ≡ q.from.zone → r.from.level ≤ q.from.level
  pub act : r.from.zone ≡ q.from.zone → r.from.level ≡ q.from.level → r.act ≤ q.act

-- the rule for tables
pub record WellMade (t : Table) : Type 0 where
  pub few_acts : t.acts ≤ 16
  pub start_within : Within t.start
  -- a wanted level for each of the 64 zones, 64 being one that no spot reaches
  pub all_zones : length t.wanted ≡ 64
  pub levels : (z w : ℕ) → slice_get t.wanted z ≡ Some w → w ≤ 64
  pub few_rows : length t.rows ≤ 32768
  pub fields : (i : ℕ) (r : TableRow) → slice_get t.rows i ≡ Some r → Fits t.acts r
  pub order : (i : ℕ) (r q : TableRow) → slice_get t.rows i ≡ Some r → slice_get t.rows (suc i) ≡ Some q → Follows r q
  pub few_outcomes : (s : Spot) (a : ℕ) → length (rows_of t.rows s a) ≤ 8

-- there are 64 wanted levels, each at most 64
abbrev pub levels_fit : List ℕ → Bool
levels_fit ws = length ws == 64 && every (λ w. nat_le w 64) ws

-- row r is wrong after the row p just before it, if there is one, and all rows ps before it: by a field, by its order,
-- or as the ninth of its spot and act
abbrev pub wrong_after : ℕ → Option TableRow → List TableRow → TableRow → Bool
wrong_after n p ps r = not (fits n r) || (passes (λ q. falls q r) p || nat_le 8 (length (rows_of ps r.from r.act)))

-- the row at place i is wrong
abbrev pub wrong : ℕ → List TableRow → ℕ → Bool
wrong n rows i = passes (wrong_after n (back rows 1 i) (take i rows)) (slice_get rows i)

-- the first wrong row among the k rows from place i on
abbrev pub first_wrong : ℕ → List TableRow → ℕ → ℕ → Option ℕ
first_wrong n rows i zero = None
first_wrong n rows i (suc k) = cond (wrong n rows i) (Some i) (first_wrong n rows (suc i) k)

-- a fault of a row, if there is one
abbrev pub row_fault : Option ℕ → Option TableFault
row_fault None = None
row_fault (Some i) = Some (Row i)

-- the first fault of a table
abbrev pub table_fault : Table → Option TableFault
table_fault t =
    cond (nat_lt 16 t.acts) (Some Acts)
    (cond (within t.start)
    (cond (levels_fit t.wanted)
    (cond (nat_lt 32768 (length t.rows)) (Some Rows) (row_fault (first_wrong t.acts t.rows 0 (length t.rows))))
    (Some Wanted))
    (Some Start))

-- what the making of a table answers, given its first fault
abbrev pub answer_by : Table → Option TableFault → Result Table TableFault
answer_by t None = Ok t
answer_by t (Some f) = Err f

-- what the making of a table answers
abbrev pub table_answer : Table → Result Table TableFault
table_answer t = answer_by t (table_fault t)
