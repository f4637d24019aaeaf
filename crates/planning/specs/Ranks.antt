-- Ranks: in how few acts the goal is reached whatever the outcomes. Assumes nothing.
use Rattle.std.specs.Prelude.{◌≡◌, ℕ, zero, suc, ◌<◌, ◌≤◌, Bool, true, false, cond, not, ◌&&◌, ◌||◌, T, ◌⊎◌, List, [], ◌∷◌, length, Some, None, Option}
use Rattle.std.specs.List.{slice_get}
use Rattle.planning.specs.Meaning.{Meaning}
use Rattle.planning.specs.Finding.{found}

-- all of the list passes the test
abbrev pub every : {S : Type 0} → (S → Bool) → List S → Bool
every p [] = true
every p (x ∷ xs) = p x && every p xs

-- the list is not empty
abbrev pub some_of : {S : Type 0} → List S → Bool
some_of [] = false
some_of (x ∷ xs) = true

-- some act from a up, n of them, passes the test
abbrev pub some_act : (ℕ → Bool) → ℕ → ℕ → Bool
some_act f a zero = false
some_act f a (suc n) = f a || some_act f (suc a) n

-- the lowest act from a up, n of them, that passes the test
abbrev pub first_act : (ℕ → Bool) → ℕ → ℕ → Option ℕ
first_act f a zero = None
first_act f a (suc n) = cond (f a) (Some a) (first_act f (suc a) n)

-- a rank that is at most j stays; a blank one becomes suc j if the test holds
abbrev pub rank_next : ℕ → Option ℕ → Bool → Option ℕ
rank_next j None b = cond b (Some (suc j)) None
rank_next j (Some k) b = Some k

module _ {S : Type 0} (m : Meaning S) where
  -- the act is applicable in s, and each outcome passes the test
  abbrev pub brings : (S → Bool) → S → ℕ → Bool
  brings p s a = some_of (m.outcomes s a) && every p (m.outcomes s a)

  -- the rank of s is at most j
  abbrev pub within : ℕ → S → Bool
  within zero s = m.goal s
  within (suc j) s = within j s || some_act (brings (within j) s) 0 m.acts

  -- s has rank r, which None leaves blank
  abbrev pub Ranked : S → Option ℕ → Type 0
  Ranked s (Some j) = T (within j s) × ((k : ℕ) → k < j → within k s ≡ false)
  Ranked s None = (k : ℕ) → within k s ≡ false

  -- a is the lowest act that gives s the rank suc j
  pub record Lowest (s : S) (j a : ℕ) : Type 0 where
    pub known : a < m.acts
    pub gives : T (brings (within j) s a)
    pub lowest : (b : ℕ) → b < a → brings (within j) s b ≡ false

  -- the act that belongs to a rank of s: the lowest that gives it, blank at rank 0 and at a blank rank
  abbrev pub ActGiven : S → Option ℕ → Option ℕ → Type 0
  ActGiven s None a = a ≡ None
  ActGiven s (Some zero) a = a ≡ None
  ActGiven s (Some (suc j)) None = ⊥
  ActGiven s (Some (suc j)) (Some a) = Lowest s j a

  -- the rank of s if it is at most j, else blank
  abbrev pub rank_by : ℕ → S → Option ℕ
  rank_by zero s = cond (m.goal s) (Some 0) None
  rank_by (suc j) s = rank_next j (rank_by j s) (within (suc j) s)

  -- the lowest act that gives the rank, blank at rank 0 and where there is none
  abbrev pub act_of : S → Option ℕ → Option ℕ
  act_of s None = None
  act_of s (Some zero) = None
  act_of s (Some (suc j)) = first_act (brings (within j) s) 0 m.acts

  -- some state of the list has rank suc j
  abbrev pub gains : ℕ → List S → Bool
  gains j [] = false
  gains j (s ∷ ss) = (within (suc j) s && not (within j s)) || gains j ss

  -- the largest rank in a final list, looked for from j up, fuel times
  abbrev pub largest_from : ℕ → ℕ → List S → ℕ
  largest_from zero j ss = j
  largest_from (suc fuel) j ss = cond (gains j ss) (largest_from fuel (suc j) ss) j

  -- the largest rank in a final list, 0 if it has none
  abbrev pub largest : List S → ℕ
  largest ss = largest_from (length ss) 0 ss

  -- l is the largest rank in the final list of r states, 0 if it has none
  pub record Largest (r l : ℕ) : Type 0 where
    pub most : (i k : ℕ) (s : S) → slice_get (found m r) i ≡ Some s → Ranked s (Some k) → k ≤ l
    pub some : (l ≡ 0) ⊎ ((i : ℕ) × ((s : S) × ((slice_get (found m r) i ≡ Some s) × Ranked s (Some l))))
