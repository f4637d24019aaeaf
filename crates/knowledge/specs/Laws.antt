-- Every book of a sheet is a lawful book. Assumes nothing.
use Rattle.std.proofs.Common.{◌≡◌, ℕ, ◌≤◌, Bool, true, false, cond, ltb, [], length, ap, eqb→eq}
use native.Mathlib.Nat.{min-le_right}
use lib.Dec.{eqb_refl}
use Rattle.std.proofs.lemmas.Bool.{le-ltb}
use Rattle.planning.specs.Meaning.{Lawful}
use Rattle.planning.proofs.Equality.{lawful_by_equality}
use Rattle.planning.proofs.Lists.{none_below}
use Rattle.sheets.specs.Reading.{Parts}
use Rattle.epistemic.specs.Acts.{outcomes}
use Rattle.epistemic.proofs.Outcomes.{few}
use Rattle.knowledge.specs.Books.{letters, act_count, events_at, outcomes_at, book_meaning}

module _ (p : Parts) where
  -- an act past the last has no outcomes
  pub past_none : (c a : ℕ) → act_count p ≤ a → outcomes_at p c a ≡ []
  past_none c a h = ap (λ b. cond b (outcomes (letters p) c (events_at p a)) []) (le-ltb a (act_count p) h)

  few_at : (c a : ℕ) → length (outcomes_at p c a) ≤ 8
  few_at c a = go (ltb a (act_count p))
    where
      go : (b : Bool) → length (cond b (outcomes (letters p) c (events_at p a)) []) ≤ 8
      go true = few (letters p) c (events_at p a)
      go false = none_below 8

  pub book_lawful : Lawful (book_meaning p)
  book_lawful = lawful_by_equality (book_meaning p) eqb_refl (λ s t h. eqb→eq s t h) (min-le_right (length p.acts) 16) past_none few_at
