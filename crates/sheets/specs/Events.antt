-- Events as the bytes of an act spell them. Assumes nothing.
use Rattle.std.specs.Prelude.{ℕ, zero, suc, cond, List, [], ◌∷◌, length, take, drop, Some, None, Option, nat_le}
use Rattle.std.specs.Borrow.{Bor}
use Rattle.sheets.specs.declared.event.Event.{Event}

-- an event: its class, the masks of the features that it sets and clears, and the text of its condition
pub record Entry : Type 0 where
  pub class : ℕ
  pub set : ℕ
  pub clear : ℕ
  pub condition : List ℕ

-- the event that begins the bytes, with the bytes after it; nothing where the bytes end before the event does
abbrev pub first_event : List ℕ → Option (Entry × List ℕ)
first_event [] = None
first_event (_ ∷ []) = None
first_event (_ ∷ _ ∷ []) = None
first_event (_ ∷ _ ∷ _ ∷ []) = None
first_event (class ∷ set ∷ clear ∷ n ∷ rest) =
    cond (nat_le n (length rest)) (Some (record { class = class; set = set; clear = clear; condition = take n rest }, drop n rest)) None

-- the events of the bytes, one after another, as far as they are whole: of at most so many
abbrev pub events_within : ℕ → List ℕ → List Entry
events_within zero bs = []
events_within (suc k) bs = elim (first_event bs) [ Some p ↦ p.0 ∷ events_within k p.1 | None ↦ [] ]

-- the events that the bytes begin with, one after another, up to the first that is cut short
abbrev pub events_of : List ℕ → List Entry
events_of bs = events_within (length bs) bs

-- what an event of the program says
abbrev pub entry : Event → Entry
entry e = record { class = e.class; set = e.set; clear = e.clear; condition = e.condition.now }

-- what the program answers of a first event and the rest
abbrev pub entry_and_rest : Option (Event × Bor (List ℕ)) → Option (Entry × List ℕ)
entry_and_rest (Some p) = Some (entry p.0, p.1.now)
entry_and_rest None = None
