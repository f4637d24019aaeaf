-- The meaning of a move table as a book. Assumes nothing.
use Rattle.std.specs.Prelude.{◌≡◌, ℕ, ◌^◌, ◌<◌, min, cond, ◌&&◌, List, [], length, take, Ok, Err, Result, nat_le, nat_lt}
use Rattle.std.specs.List.{slice_get}
use Rattle.planning.specs.Meaning.{Meaning}
use Rattle.tables.specs.Places.{passes}
use Rattle.tables.specs.Spots.{same_spot, within}
use Rattle.tables.specs.Rows.{rows_of, targets}
use Rattle.tables.specs.Tables.{Table, table_of}
use Rattle.tables.specs.Looking.{block, first_row, seek}
use Rattle.tables.specs.declared.spot.Spot.{Spot}
use Rattle.tables.specs.declared.table.MoveTable.{MoveTable}
use Rattle.tables.specs.declared.fault.TableFault.{TableFault}

-- the outcomes of act a in spot s: where the first 8 rows found lead, none outside the table's range
abbrev pub outcomes : Table → Spot → ℕ → List Spot
outcomes t s a = cond (within s && nat_lt a (min t.acts 16)) (take 8 (targets (block t.rows s a))) []

-- start, acts, outcomes, goals and sameness of a table: a goal is a spot whose level is at least the one wanted in its
-- zone
abbrev pub table_meaning : Table → Meaning Spot
table_meaning t =
    record {
      start = t.start;
      acts = min t.acts 16;
      outcomes = outcomes t;
      goal = λ s. within s && passes (λ w. nat_le w s.level) (slice_get t.wanted s.zone);
      same = same_spot;
    }

-- a table over lent lists by what it holds
abbrev pub held : MoveTable → Table
held t = table_of t.acts t.start t.wanted.now t.rows.now

-- what the making of a table over lent lists has answered
abbrev pub told : Result MoveTable TableFault → Result Table TableFault
told (Ok t) = Ok (held t)
told (Err f) = Err f

-- the outcomes are all that the rows give, in their order, and a look-up takes no more halvings than the number of rows
-- has binary digits
pub record Faithful (t : Table) : Type 0 where
  pub all_rows : (s : Spot) (a : ℕ) → (table_meaning t).outcomes s a ≡ targets (rows_of t.rows s a)
  pub halvings : (s : Spot) (a k : ℕ) → length t.rows < 2 ^ k → seek t.rows s a k 0 (length t.rows) ≡ first_row t.rows s a
