-- A session by what it holds. Assumes nothing.
use Rattle.std.specs.Prelude.{◌≡◌, ℕ, min, List, length, take, Some, None, Option}
use Rattle.std.specs.List.{slice_get}
use Rattle.planning.specs.Meaning.{Meaning}
use Rattle.planning.specs.Finding.{place_of}
use Rattle.session.specs.declared.plain.Row.{Row}
use Rattle.session.specs.declared.plain.Record.{Record}
use Rattle.session.specs.declared.lists.Session.{Session}

-- what a session holds: its two lists, and its record
pub record View (S : Type 0) : Type 0 where
  pub states : List S
  pub rows : List Row
  pub plain : Record

-- a session by what it holds
abbrev pub view : {S : Type 0} → Session S → View S
view s = record { states = s.states.now; rows = s.rows.now; plain = s.record }

-- it is laid over the same two lists of the caller
pub record SameLists {S : Type 0} (s s' : Session S) : Type 0 where
  pub states : s'.states.ghost_name ≡ s.states.ghost_name
  pub rows : s'.rows.ghost_name ≡ s.rows.ghost_name

-- the number of places that two lists give a session
abbrev pub room : {S : Type 0} → List S → List Row → ℕ
room states rows = min (min (length states) (length rows)) 4096

-- the number of places that a session can use
abbrev pub places : {S : Type 0} → View S → ℕ
places v = room v.states v.rows

-- the row at a place, if there is a place
abbrev pub row_at : List Row → Option ℕ → Option Row
row_at rows None = None
row_at rows (Some i) = slice_get rows i

-- the rank in a row, if there is a row
abbrev pub rank_in : Option Row → Option ℕ
rank_in None = None
rank_in (Some row) = row.rank

-- the act in a row, if there is a row
abbrev pub act_in : Option Row → Option ℕ
act_in None = None
act_in (Some row) = row.act

-- the row of the first listed state that is the same as s, as the session holds it
abbrev pub row_told : {S : Type 0} → Meaning S → View S → S → Option Row
row_told m v s = row_at v.rows (place_of m (take v.plain.listed v.states) s)

-- a place with its rank, if it has one
abbrev pub with_rank : ℕ → Option ℕ → Option (ℕ × ℕ)
with_rank p None = None
with_rank p (Some k) = Some (p, k)

-- the place, if there is one, with its rank, if it has one
abbrev pub ranked_at : List Row → Option ℕ → Option (ℕ × ℕ)
ranked_at rows None = None
ranked_at rows (Some p) = with_rank p (rank_in (slice_get rows p))

-- the first listed place whose state is the same as s, with its rank, if it has one
abbrev pub ranked_place : {S : Type 0} → Meaning S → View S → S → Option (ℕ × ℕ)
ranked_place m v s = ranked_at v.rows (place_of m (take v.plain.listed v.states) s)
