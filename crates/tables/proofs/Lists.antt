-- Lists: what stands at a place, what a filter keeps, and tests that stay true once they are. Assumes nothing.
use Rattle.std.proofs.Common.{◌≡◌, ℕ, zero, suc, ◌+◌, ◌-◌, ◌<◌, ◌≤◌, Bool, true, false, cond, ◌||◌, ◌&&◌, leb, List, [], ◌∷◌, ◌++◌, length, take, drop, Some, None, Option, filter, sym, refl, ap, ◌∙◌, inl, inr, arith}
use Rattle.std.proofs.lemmas.Bool.{cases_Bool, cond-false, cond-true}
use Rattle.std.proofs.lemmas.Bool.Decides.{nat_tests}
use Rattle.std.specs.List.{AllByRecursion as All, list_all, slice_get}
use Rattle.planning.specs.Ranks.{every}
use Rattle.tables.specs.Places.{passes}

pub cond_same : {A : Type 0} (b : Bool) {x x' y y' : A} → x ≡ x' → y ≡ y' → cond b x y ≡ cond b x' y'
cond_same true p q = p
cond_same false p q = q

pub or_same : (b x y : Bool) → (b ≡ false → x ≡ y) → (b || x) ≡ (b || y)
or_same true x y h = refl
or_same false x y h = h refl

-- a test of what there is only if b holds
pub passes_if : {A : Type 0} (p : A → Bool) (b : Bool) (o q : Option A) → (b ≡ true → o ≡ q) → cond b (passes p o) false ≡ passes p (cond b q None)
passes_if p true o q h = ap (passes p) (h refl)
passes_if p false o q h = refl

module _ {A : Type 0} where
  -- what a front of a list holds, the list holds
  pub taken : (n : ℕ) (xs : List A) (i : ℕ) (x : A) → slice_get (take n xs) i ≡ Some x → (i < n) × (slice_get xs i ≡ Some x)
  taken zero xs i x e = cc
  taken (suc n) [] i x e = cc
  taken (suc n) (y ∷ xs) zero x e = (omega arith, e)
  taken (suc n) (y ∷ xs) (suc i) x e = let r = taken n xs i x e in (omega arith, r.1)

  pub nth_drop : (n : ℕ) (xs : List A) (i : ℕ) → slice_get (drop n xs) i ≡ slice_get xs (n + i)
  nth_drop zero xs i = let e : i ≡ 0 + i = omega arith in ap (slice_get xs) e
  nth_drop (suc n) [] i = refl
  nth_drop (suc n) (x ∷ xs) i = let e : suc (n + i) ≡ suc n + i = omega arith in nth_drop n xs i ∙ ap (slice_get (x ∷ xs)) e

module _ {A : Type 0} (P : A → Type 0) where
  pub all_from : (xs : List A) → ((i : ℕ) (x : A) → slice_get xs i ≡ Some x → P x) → All P xs
  all_from [] h = tt
  all_from (x ∷ xs) h = (h 0 x refl, all_from xs (λ i y e. h (suc i) y e))

  pub all_at : (xs : List A) → All P xs → (i : ℕ) (x : A) → slice_get xs i ≡ Some x → P x
  all_at [] h i x e = cc
  all_at (y ∷ xs) h zero x e = let p : y ≡ x = cc in rw (sym p) h.0
  all_at (y ∷ xs) h (suc i) x e = all_at xs h.1 i x e

  pub all_parts : (xs ys : List A) → All P (xs ++ ys) → All P xs × All P ys
  all_parts [] ys h = (tt, h)
  all_parts (x ∷ xs) ys h = let r = all_parts xs ys h.1 in ((h.0, r.0), r.1)

-- a test that holds wherever there are n of m, and one that is asked of one more
reached : (n m : ℕ) (b : Bool) → (n ≤ m → b ≡ true) → leb n m ≡ cond (leb n m) b false
reached n m b h = grind (arith, nat_tests)

one_more : (n m : ℕ) (b c : Bool) → (n ≤ m → c ≡ b) → (m < n → c ≡ false) → cond (leb n m) b false ≡ cond (leb n (suc m)) c false
one_more n m b c h k = grind (arith, nat_tests)

module _ {A : Type 0} (p : A → Bool) where
  pub kept_none : (xs : List A) → All (λ x. p x ≡ false) xs → filter p xs ≡ []
  kept_none [] h = refl
  kept_none (x ∷ xs) h = cond-false (p x) _ _ h.0 ∙ kept_none xs h.1

  pub kept_every : (xs : List A) → All (λ x. p x ≡ true) xs → filter p xs ≡ xs
  kept_every [] h = refl
  kept_every (x ∷ xs) h = cond-true (p x) _ _ h.0 ∙ ap (λ ys. x ∷ ys) (kept_every xs h.1)

  pub passes_all : (xs : List A) (i : ℕ) → All (λ x. p x ≡ true) xs → i < length xs → passes p (slice_get xs i) ≡ true
  passes_all [] i h l = absurd (omega arith)
  passes_all (x ∷ xs) zero h l = h.0
  passes_all (x ∷ xs) (suc i) h l = passes_all xs i h.1 (omega arith)

  -- once an element passes, so do all after it
  abbrev pub Rising : List A → Type 0
  Rising [] = Unit {0}
  Rising (x ∷ xs) = (p x ≡ true → All (λ y. p y ≡ true) xs) × Rising xs

  -- at least n pass exactly if the one n places before the end does
  pub rising_count : (n : ℕ) → 0 < n → (xs : List A) → Rising xs → leb n (length (filter p xs)) ≡ cond (leb n (length xs)) (passes p (slice_get xs (length xs - n))) false
  rising_count n pos [] h = grind (arith, nat_tests)
  rising_count n pos (x ∷ xs) h =
      elim (cases_Bool (p x)) [
        | inl t ↦
            ap (λ ys. leb n (length ys)) (kept_every (x ∷ xs) (t, h.0 t))
            ∙ reached n (suc (length xs)) (passes p (slice_get (x ∷ xs) (suc (length xs) - n))) (λ l. passes_all (x ∷ xs) (suc (length xs) - n) (t, h.0 t) (omega arith))
        | inr f ↦
            ap (λ ys. leb n (length ys)) (cond-false (p x) (x ∷ filter p xs) (filter p xs) f)
            ∙ rising_count n pos xs h.1
            ∙ one_more n (length xs) (passes p (slice_get xs (length xs - n))) (passes p (slice_get (x ∷ xs) (suc (length xs) - n)))
            (λ l. let e : suc (length xs) - n ≡ suc (length xs - n) = omega arith in ap (λ i. passes p (slice_get (x ∷ xs) i)) e)
            (λ l. let e : suc (length xs) - n ≡ 0 = omega arith in ap (λ i. passes p (slice_get (x ∷ xs) i)) e ∙ f)
      ]

-- the library's word for the same test
pub every_is_all : {A : Type 0} (p : A → Bool) (xs : List A) → list_all p xs ≡ every p xs
every_is_all p [] = refl
every_is_all p (x ∷ xs) = ap (λ b. p x && b) (every_is_all p xs)
