-- What the tests over outcomes, acts and rows answer, one step after another. Assumes nothing.
use Rattle.std.proofs.Common.{◌≡◌, ℕ, zero, suc, Bool, true, false, cond, ◌&&◌, ◌||◌, List, [], ◌∷◌, get_or, set, Some, None, Option, sym, refl, ap, ◌∙◌, add-one}
use Rattle.std.specs.List.{find, list_all, list_any, range_with_len, slice_get}
use Rattle.std.specs.Option.{is_some, option_map}
use Rattle.std.proofs.lemmas.List.{set-get_or}
use Rattle.session.specs.declared.plain.Row.{Row}
use Rattle.planning.specs.Meaning.{Meaning}
use Rattle.planning.specs.Ranks.{every, some_of, brings, first_act}
use Rattle.session.specs.Views.{View}
use Rattle.session.proofs.Joining.{none_is, some_is}
use Rattle.session.specs.Judging.{rank_is, has_rank, judged, choice, visited_at, visited}

module _ {S : Type 0} (p : S → Bool) where
  all-every : (os : List S) → list_all p os ≡ every p os
  all-every [] = refl
  all-every (x ∷ xs) = ap (λ b. p x && b) (all-every xs)

module _ {S : Type 0} (m : Meaning S) (p : S → Bool) (s : S) (a : ℕ) where
  -- an act without an outcome brings nothing about; of one whose first outcome passes, the test of the others decides
  pub no-brings : m.outcomes s a ≡ [] → false ≡ brings m p s a
  no-brings e = sym (ap (λ os. some_of os && every p os) e)

  pub first-brings : (o : S) (os : List S) → m.outcomes s a ≡ o ∷ os → p o ≡ true → list_all p os ≡ brings m p s a
  first-brings o os e t = all-every p os ∙ sym (ap (λ b. b && every p os) t) ∙ sym (ap (λ xs. some_of xs && every p xs) e)

-- the lowest act that passes, among n from a on
find-acts : (f : ℕ → Bool) (a n : ℕ) → find f (range_with_len a n) ≡ first_act f a n
find-acts f a zero = refl
find-acts f a (suc n) = ap (cond (f a) (Some a)) (ap (λ k. find f (range_with_len k n)) (add-one a) ∙ find-acts f (suc a) n)

pub find-first_act : (f : ℕ → Bool) (r : Option ℕ) (n : ℕ) → option_map (λ a. a) r ≡ find f (range_with_len 0 n) → r ≡ first_act f 0 n
find-first_act f None n e = e ∙ find-acts f 0 n
find-first_act f (Some a) n e = e ∙ find-acts f 0 n

-- some row has rank j
pub any-has_rank : (j : ℕ) (rows : List Row) → list_any (λ row. rank_is j row.rank) rows ≡ has_rank j rows
any-has_rank j [] = refl
any-has_rank j (row ∷ rows) = ap (λ b. rank_is j row.rank || b) (any-has_rank j rows)

-- a write of what is there
pub set_nth : {X : Type 0} (xs : List X) (i : ℕ) (x : X) → slice_get xs i ≡ Some x → set xs i x ≡ xs
set_nth [] i x e = refl
set_nth (y ∷ ys) zero x e = let g : x ≡ y = cc in ap (λ z. z ∷ ys) g
set_nth (y ∷ ys) (suc i) x e = ap (λ zs. y ∷ zs) (set_nth ys i x e)

module _ {S : Type 0} (m : Meaning S) (v : View S) (i j : ℕ) where
  pub visited_is : (s : S) (row : Row) → slice_get v.states i ≡ Some s → slice_get v.rows i ≡ Some row → visited m v i j ≡ set v.rows i (judged row row.rank j (choice m v j s))
  visited_is s row e f = ap (λ o. visited_at m v i j o (slice_get v.rows i)) e ∙ ap (visited_at m v i j (Some s)) f

  pub visit_ranked : (s : S) (row : Row) → slice_get v.states i ≡ Some s → slice_get v.rows i ≡ Some row → is_some row.rank ≡ true → v.rows ≡ visited m v i j
  visit_ranked s row e f t = sym (visited_is s row e f ∙ ap (λ r. set v.rows i (judged row r j (choice m v j s))) (some_is row.rank t).1 ∙ set_nth v.rows i row f)

  pub visit_blank : (s : S) (row : Row) → slice_get v.states i ≡ Some s → slice_get v.rows i ≡ Some row → is_some row.rank ≡ false → choice m v j s ≡ None → v.rows ≡ visited m v i j
  visit_blank s row e f t n = sym (visited_is s row e f ∙ ap (λ r. set v.rows i (judged row r j (choice m v j s))) (none_is row.rank t) ∙ ap (λ o. set v.rows i (judged row None j o)) n ∙ set_nth v.rows i row f)

  -- whatever stands there, a visit writes place i alone
  pub visited_sets : (d : Row) → (row : Row) × (visited m v i j ≡ set v.rows i row)
  visited_sets d = go (slice_get v.states i) (slice_get v.rows i) refl
    where
      go : (o : Option S) (q : Option Row) → slice_get v.rows i ≡ q → (row : Row) × (visited_at m v i j o q ≡ set v.rows i row)
      go None None e = (get_or v.rows i d, sym (set-get_or v.rows i d))
      go None (Some row) e = (get_or v.rows i d, sym (set-get_or v.rows i d))
      go (Some s) None e = (get_or v.rows i d, sym (set-get_or v.rows i d))
      go (Some s) (Some row) e = (judged row row.rank j (choice m v j s), refl)
