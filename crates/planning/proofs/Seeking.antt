-- The first place of a same state is the first position at which sameness holds. Assumes nothing.
use Rattle.std.proofs.Common.{◌≡◌, ℕ, suc, ◌+◌, ◌<◌, ◌≤◌, Fits, w8, cond, List, [], ◌∷◌, drop, Some, None, inl, inr, sym, refl, ap, ◌∙◌, add-one, rules}
use Rattle.std.specs.Prelude.{position}
use Rattle.std.specs.List.{position_from, slice_get}
use Rattle.std.proofs.lemmas.Iterator.Adapters.{position_from-zero}
use Rattle.std.proofs.lemmas.List.{drop_all}
use Rattle.std.proofs.lemmas.Option.{none-some, slice_get_cases}
use Rattle.planning.specs.Meaning.{Meaning}
use Rattle.planning.specs.Finding.{place_from, place_of}

module _ {S : Type 0} (m : Meaning S) (s : S) where
  pub position_from-place : (i : ℕ) (ts : List S) → position_from (λ t. m.same t s) i ts ≡ place_from m i ts s
  position_from-place i [] = refl
  position_from-place i (t ∷ ts) =
      ap (cond (m.same t s) (Some i)) (ap (λ n. position_from (λ t. m.same t s) n ts) (add-one i) ∙ position_from-place (suc i) ts)

  pub position-place : (ts : List S) → position (λ t. m.same t s) ts ≡ place_of m ts s
  position-place ts = position_from-zero (λ t. m.same t s) ts ∙ position_from-place 0 ts

-- nothing is left of a list from a place that it does not have
pub drop_past : {S : Type 0} (xs : List S) (n : ℕ) → slice_get xs n ≡ None → drop n xs ≡ []
drop_past xs n e =
    elim (slice_get_cases xs n).1 [
      | inl h ↦ absurd (none-some h.0 (sym e ∙ h.2))
      | inr h ↦ drop_all n xs h.0
    ]

-- what comes after a number below 8 or less fits a byte
pub fits_byte : {n k : ℕ} → n < k → k ≤ 8 → Fits w8 (n + 1)
fits_byte {n} {k} h f = search rules
