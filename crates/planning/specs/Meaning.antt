-- What a book of moves means. Assumes nothing.
use Rattle.std.specs.Prelude.{◌≡◌, ℕ, ◌≤◌, Bool, T, List, [], ◌∷◌, length}

-- where a search starts, how many acts there are, which outcomes an act has in a state, which states are goals, and which
-- states count as one
pub record Meaning (S : Type 0) : Type 0 where
  pub start : S
  pub acts : ℕ
  pub outcomes : S → ℕ → List S
  pub goal : S → Bool
  pub same : S → S → Bool

-- two lists are equally long and the same one by one
abbrev pub Alike : {S : Type 0} → (S → S → Bool) → List S → List S → Type 0
Alike same [] [] = Unit {0}
Alike same [] (y ∷ ys) = ⊥
Alike same (x ∷ xs) [] = ⊥
Alike same (x ∷ xs) (y ∷ ys) = T (same x y) × Alike same xs ys

-- at most 16 acts with at most 8 outcomes each, and sameness is an equivalence that goals and outcomes respect
pub record Lawful {S : Type 0} (m : Meaning S) : Type 0 where
  pub few_acts : m.acts ≤ 16
  pub no_act : (s : S) (a : ℕ) → m.acts ≤ a → m.outcomes s a ≡ []
  pub few_outcomes : (s : S) (a : ℕ) → length (m.outcomes s a) ≤ 8
  pub reflexive : (s : S) → T (m.same s s)
  pub symmetric : (s t : S) → T (m.same s t) → T (m.same t s)
  pub transitive : (s t u : S) → T (m.same s t) → T (m.same t u) → T (m.same s u)
  pub same_goal : (s t : S) → T (m.same s t) → m.goal s ≡ m.goal t
  pub same_outcomes : (s t : S) (a : ℕ) → T (m.same s t) → Alike m.same (m.outcomes s a) (m.outcomes t a)
