-- What the specs' tests on lists and on acts say, and the places of a list. Assumes nothing.
use Rattle.std.proofs.Common.{◌≡◌, ℕ, zero, suc, ◌+◌, ◌<◌, ◌≤◌, Bool, true, false, cond, T, ◌⊎◌, List, [], ◌∷◌, length, take, length-take, Some, None, Option, sym, refl, ap, ◌∙◌, subst, inl, inr, true≢false, arith}
use mathlib.Core.List.Memᴰ
use mathlib.Core.List.{Memᴰ}
use Rattle.std.specs.List.{slice_get}
use Rattle.std.proofs.lemmas.Bool.{cases_lt}
use Rattle.planning.specs.Ranks.{every, some_of, some_act}
use Rattle.planning.proofs.Tests.{so, clash, fails, decide, or_cases, or_left, or_right, and_parts, and_from}

module _ {S : Type 0} (p : S → Bool) where
  -- every, at a member and from all members
  pub every_at : {x : S} {xs : List S} → Memᴰ x xs → T (every p xs) → T (p x)
  every_at (Memᴰ.head {x = y} {xs = ys} e) t = subst (λ z. T (p z)) (sym e) (and_parts (p y) (every p ys) t).0
  every_at (Memᴰ.tail {x = y} {xs = ys} i) t = every_at i (and_parts (p y) (every p ys) t).1

  pub every_from : (xs : List S) → ((x : S) → Memᴰ x xs → T (p x)) → T (every p xs)
  every_from [] h = tt
  every_from (x ∷ xs) h = and_from (p x) (every p xs) (h x (Memᴰ.head refl)) (every_from xs (λ y i. h y (Memᴰ.tail i)))

  -- a member that fails, where not every one passes
  pub every_not : (xs : List S) → every p xs ≡ false → (x : S) × (Memᴰ x xs × (p x ≡ false))
  every_not [] e = absurd (true≢false e)
  every_not (x ∷ xs) e =
      elim (decide (p x)) [
        | inl t ↦ let r = every_not xs (fails (every p xs) (λ u. clash (every p (x ∷ xs)) e (and_from (p x) (every p xs) t u))) in (r.0, (Memᴰ.tail r.1.0, r.1.1))
        | inr f ↦ (x, (Memᴰ.head refl, f))
      ]

pub no_member : {S : Type 0} {x : S} {xs : List S} → xs ≡ [] → Memᴰ x xs → ⊥
no_member {x} none i = Memᴰ.not-nil (subst (Memᴰ x) none i)

pub some_from : {S : Type 0} (xs : List S) → (xs ≡ [] → ⊥) → T (some_of xs)
some_from [] h = h refl
some_from (x ∷ xs) h = tt

pub some_member : {S : Type 0} (xs : List S) → T (some_of xs) → (x : S) × Memᴰ x xs
some_member [] t = absurd t
some_member (x ∷ xs) t = (x, Memᴰ.head refl)

-- a member at which g is largest
pub record Best {S : Type 0} (g : S → ℕ) (xs : List S) : Type 0 where
  pub one : S
  pub member : Memᴰ one xs
  pub most : (x : S) → Memᴰ x xs → g x ≤ g one

pub best : {S : Type 0} (g : S → ℕ) (xs : List S) → (xs ≡ []) ⊎ Best g xs
best g [] = inl refl
best {S} g (x ∷ xs) = inr (step (best g xs))
  where
    all : (b : ℕ) → g x ≤ b → ((y : S) → Memᴰ y xs → g y ≤ b) → (y : S) → Memᴰ y (x ∷ xs) → g y ≤ b
    all b h k y i = elim (Memᴰ.cases_cons i) [ inl e ↦ omega (arith, ap g e) | inr j ↦ k y j ]

    step : (xs ≡ []) ⊎ Best g xs → Best g (x ∷ xs)
    step (inl none) = record { one = x; member = Memᴰ.head refl; most = all (g x) (omega arith) (λ y i. absurd (no_member none i)) }
    step (inr b) =
        elim (cases_lt (g x) (g b.one)) [
          | inl h ↦ record { one = b.one; member = Memᴰ.tail b.member; most = all (g b.one) (omega arith) b.most }
          | inr h ↦ record { one = x; member = Memᴰ.head refl; most = all (g x) (omega arith) (λ y i. omega (arith, b.most y i)) }
        ]

-- some-act, from what it says and to it
pub act_from : (f : ℕ → Bool) (a n : ℕ) → T (some_act f a n) → (b : ℕ) × ((a ≤ b) × (b < a + n) × T (f b))
act_from f a zero t = absurd t
act_from f a (suc n) t =
    elim (or_cases (f a) (some_act f (suc a) n) t) [
      | inl u ↦ (a, (omega arith, omega arith, u))
      | inr u ↦ let r = act_from f (suc a) n u in (r.0, (omega arith, omega arith, r.1.2))
    ]

pub act_to : (f : ℕ → Bool) (a n b : ℕ) → a ≤ b → b < a + n → T (f b) → T (some_act f a n)
act_to f a zero b l h t = absurd (omega arith)
act_to f a (suc n) b l h t =
    elim (cases_lt a b) [
      | inl lt ↦ or_right (f a) (some_act f (suc a) n) (act_to f (suc a) n b lt (omega arith) t)
      | inr ge ↦ or_left (f a) (some_act f (suc a) n) (let e : b ≡ a = omega arith in subst (λ k. T (f k)) e t)
    ]

-- a place does not both hold something and hold nothing
pub none_some : {S : Type 0} {o : Option S} {s : S} → o ≡ None → o ≡ Some s → ⊥
none_some p q = let z : ◌≡◌ {A = ℕ} 0 1 = cc in omega arith

-- how many pass a test: no more than there are
abbrev pub passing : {S : Type 0} → (S → Bool) → List S → ℕ
passing p [] = 0
passing p (x ∷ xs) = cond (p x) 1 0 + passing p xs

abbrev Bit : Bool → ℕ
Bit b = cond b 1 0

bit_most : (b : Bool) → Bit b ≤ 1
bit_most true = omega arith
bit_most false = omega arith

pub passing_most : {S : Type 0} (p : S → Bool) (xs : List S) → passing p xs ≤ length xs
passing_most p [] = omega arith
passing_most p (x ∷ xs) = omega (arith, passing_most p xs, bit_most (p x))

-- no fewer pass a weaker test, and more where one at some place passes it alone
module _ {S : Type 0} (p q : S → Bool) (weaker : (x : S) → T (p x) → T (q x)) where
  bit_le : (a b : Bool) → (T a → T b) → Bit a ≤ Bit b
  bit_le true true f = omega arith
  bit_le true false f = absurd (f tt)
  bit_le false b f = omega arith

  passing_le : (xs : List S) → passing p xs ≤ passing q xs
  passing_le [] = omega arith
  passing_le (x ∷ xs) = omega (arith, passing_le xs, bit_le (p x) (q x) (weaker x))

  pub passing_lt : (xs : List S) (i : ℕ) (s : S) → slice_get xs i ≡ Some s → p s ≡ false → T (q s) → passing p xs < passing q xs
  passing_lt [] i s at f t = absurd (none_some refl at)
  passing_lt (x ∷ xs) zero s at f t =
      let e : x ≡ s = cc in
      let no-p : Bit (p x) ≡ 0 = ap (λ y. Bit (p y)) e ∙ ap Bit f in
      let yes-q : Bit (q x) ≡ 1 = ap (λ y. Bit (q y)) e ∙ ap Bit (so (q s) t) in
      omega (arith, passing_le xs)
  passing_lt (x ∷ xs) (suc i) s at f t = omega (arith, passing_lt xs i s at f t, bit_le (p x) (q x) (weaker x))

-- a place that holds nothing is not below the length
pub place_past : {S : Type 0} (xs : List S) (i : ℕ) → slice_get xs i ≡ None → length xs ≤ i
place_past [] i e = omega arith
place_past (x ∷ xs) zero e = absurd (none_some e refl)
place_past (x ∷ xs) (suc i) e = omega (arith, place_past xs i e)

-- what has a place stands in the list
pub nth_in : {S : Type 0} (xs : List S) (i : ℕ) (s : S) → slice_get xs i ≡ Some s → Memᴰ s xs
nth_in [] i s e = absurd (none_some refl e)
nth_in (x ∷ xs) zero s e = Memᴰ.head (let z : s ≡ x = cc in z)
nth_in (x ∷ xs) (suc i) s e = Memᴰ.tail (nth_in xs i s e)

-- the places of a list's front
pub nth_take : {S : Type 0} (n : ℕ) (xs : List S) (i : ℕ) → i < n → slice_get (take n xs) i ≡ slice_get xs i
nth_take zero xs i h = absurd (omega arith)
nth_take (suc n) [] i h = refl
nth_take (suc n) (x ∷ xs) zero h = refl
nth_take (suc n) (x ∷ xs) (suc i) h = nth_take n xs i (omega arith)

-- a front of n places is no longer than n, and no list is shorter than the empty one
pub front_short : {S : Type 0} (n : ℕ) (xs : List S) → length (take n xs) ≤ n
front_short n xs = let l = length-take n xs in omega arith

pub none_below : (n : ℕ) → 0 ≤ n
none_below n = omega arith
