-- Formulas of knowledge, of one agent, and their text. Assumes nothing.
use Rattle.std.specs.Prelude.{ℕ, ◌+◌, ◌<◌, List, [], ◌∷◌, ◌++◌}

-- `K f`: the agent knows f. `M f`: f is possible for all that the agent knows
pub data Formula : Type 0 where
  top : Formula
  letter : ℕ → Formula
  neg : Formula → Formula
  and : Formula → Formula → Formula
  or : Formula → Formula → Formula
  K : Formula → Formula
  M : Formula → Formula

-- Spells n f bs: the bytes bs are the text of f over n letters, `a` and on. A sign stands before what it governs:
-- `T` is 84, `a` 97, `!` 33, `&` 38, `|` 124, `K` 75, `M` 77
pub data Spells (n : ℕ) : Formula → List ℕ → Type 0 where
  spells_top : Spells n top (84 ∷ [])
  spells_letter : (i : ℕ) → i < n → Spells n (letter i) ((97 + i) ∷ [])
  spells_neg : {f : Formula} {bs : List ℕ} → Spells n f bs → Spells n (neg f) (33 ∷ bs)
  spells_and : {f g : Formula} {bs cs : List ℕ} → Spells n f bs → Spells n g cs → Spells n (and f g) (38 ∷ (bs ++ cs))
  spells_or : {f g : Formula} {bs cs : List ℕ} → Spells n f bs → Spells n g cs → Spells n (or f g) (124 ∷ (bs ++ cs))
  spells_K : {f : Formula} {bs : List ℕ} → Spells n f bs → Spells n (K f) (75 ∷ bs)
  spells_M : {f : Formula} {bs : List ℕ} → Spells n f bs → Spells n (M f) (77 ∷ bs)
