-- What the answers of a knowledge book are in epistemic models: to be proved. Assumes nothing.
use Rattle.std.specs.Prelude.{◌≡◌, ℕ, ◌^◌, ◌<◌, ◌≤◌, Bool, true, false, T, []}
use Rattle.sheets.specs.Events.{Entry}
use Rattle.sheets.specs.Formulas.{Formula, Spells}
use Rattle.sheets.specs.Reading.{Parts}
use Rattle.epistemic.specs.Lists.{◌∈◌}
use Rattle.epistemic.specs.Models.{valid}
use Rattle.epistemic.specs.Bisimulations.{BisimilarOver}
use Rattle.epistemic.specs.Cells.{ProperCell, model}
use Rattle.epistemic.specs.Claims.{OutcomesExplained}
use Rattle.knowledge.specs.Acting.{event_of}
use Rattle.knowledge.specs.Books.{letters, act_count, events_at, goal_formula, outcomes_at}

module _ (p : Parts) where
  -- the formulas and events of the book are those that the texts spell
  pub record TextsRead : Type 0 where
    pub goal : (f : Formula) → Spells (letters p) f p.goal → goal_formula p ≡ f
    pub event : (e : Entry) (f : Formula) → e.class < 8 → e.set < 2 ^ letters p → e.clear < 2 ^ letters p → Spells (letters p) f e.condition → event_of (letters p) e ≡ record { class = e.class; pre = f; set = e.set; clear = e.clear }

  -- the outcomes of an act in a cell
  pub record OutcomesRight (c a : ℕ) : Type 0 where
    -- in a proper cell they are the information cells of the product update
    pub proper : ProperCell (letters p) c → a < act_count p → OutcomesExplained (letters p) c (events_at p a) (outcomes_at p c a)
    -- each is a proper cell
    pub cells : (o : ℕ) → o ∈ outcomes_at p c a → ProperCell (letters p) o
    -- there are none in the empty mask, in a mask with a bit from 2 ^ n up, and of acts past the last
    pub empty : c ≡ 0 → outcomes_at p c a ≡ []
    pub outside : 2 ^ (2 ^ letters p) ≤ c → outcomes_at p c a ≡ []
    pub past : act_count p ≤ a → outcomes_at p c a ≡ []

  -- whether a cell is a goal
  pub record GoalRight (c : ℕ) (is_goal : Bool) : Type 0 where
    -- a proper cell is one exactly when its model satisfies the goal formula at all worlds
    pub proper : ProperCell (letters p) c → is_goal ≡ valid (model (letters p) c) (goal_formula p)
    pub empty : c ≡ 0 → is_goal ≡ true
    pub outside : 2 ^ (2 ^ letters p) ≤ c → is_goal ≡ false

  -- two proper cells are the same exactly when their models are bisimilar
  pub record SameRight (c d : ℕ) (is_same : Bool) : Type 0 where
    pub if : ProperCell (letters p) c → ProperCell (letters p) d → BisimilarOver (letters p) (model (letters p) c) (model (letters p) d) → T is_same
    pub only_if : ProperCell (letters p) c → ProperCell (letters p) d → T is_same → BisimilarOver (letters p) (model (letters p) c) (model (letters p) d)
