-- What a knowledge book means, from the parts of any sheet. Assumes nothing.
use Rattle.std.specs.Prelude.{ℕ, min, Bool, cond, ◌&&◌, List, [], map, length, replicate, Some, None, Ok, Err, Option, Result, ◌==◌, nat_eq, nat_lt, slice_index_or}
use Rattle.std.specs.Borrow.{Bor}
use Rattle.std.specs.List.{range_with_len}
use Rattle.sheets.specs.declared.fault.SheetFault.{SheetFault}
use Rattle.sheets.specs.Formulas.{Formula}
use Rattle.sheets.specs.Reading.{Parts, parts}
use Rattle.planning.specs.Meaning.{Meaning}
use Rattle.epistemic.specs.Cells.{fit, goal}
use Rattle.epistemic.specs.Acts.{Event, possible, outcome, outcomes}
use Rattle.knowledge.specs.Texts.{read}
use Rattle.knowledge.specs.Acting.{event_of}
use Rattle.knowledge.specs.declared.book.KnowledgeBook.{KnowledgeBook}

module _ (p : Parts) where
  -- how many features there are: six at most
  abbrev pub letters : ℕ
  letters = min p.features 6

  -- how many acts there are: sixteen at most
  abbrev pub act_count : ℕ
  act_count = min (length p.acts) 16

  -- the events of an act
  abbrev pub events_at : ℕ → List Event
  events_at a = map (event_of letters) (slice_index_or p.acts a [])

  -- the formula that holds at all valuations of a goal
  abbrev pub goal_formula : Formula
  goal_formula = (read letters p.goal).formula

  -- there is that act, and the mask has only valuations of the book's features
  abbrev pub askable : ℕ → ℕ → Bool
  askable c a = nat_lt a act_count && fit letters c

  -- the outcomes of an act in a cell; none for the acts past the last
  abbrev pub outcomes_at : ℕ → ℕ → List ℕ
  outcomes_at c a = cond (nat_lt a act_count) (outcomes letters c (events_at a)) []

  -- the new valuations of each class; empty in each where the act has no outcomes
  abbrev pub class_masks : ℕ → ℕ → List ℕ
  class_masks c a =
      cond (askable c a && possible letters c (events_at a) == c) (map (λ k. outcome letters c k (events_at a)) (range_with_len 0 8)) (replicate 8 0)

  -- the book's states are cells, and equal cells are the same
  abbrev pub book_meaning : Meaning ℕ
  book_meaning = record { start = p.start; acts = act_count; outcomes = outcomes_at; goal = goal letters goal_formula; same = nat_eq }

-- the parts that a book is made of
abbrev pub content : KnowledgeBook → Parts
content b = parts b.sheet

-- what reading a book gives: the parts that it is made of, or the first fault
abbrev pub book_read : Result KnowledgeBook SheetFault → Result Parts SheetFault
book_read (Ok b) = Ok (content b)
book_read (Err t) = Err t

-- the bytes that the program answers, if any
abbrev pub bytes_of : Option (Bor (List ℕ)) → Option (List ℕ)
bytes_of (Some bs) = Some bs.now
bytes_of None = None
