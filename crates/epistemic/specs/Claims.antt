-- What masks are as epistemic models: to be proved. Assumes nothing.
use Rattle.std.specs.Prelude.{◌≡◌, ℕ, Bool, false, T, List, [], map, filter, ◌≢◌, nat_eq}
use Rattle.std.specs.List.{range_with_len}
use Rattle.sheets.specs.Formulas.{Formula}
use Rattle.epistemic.specs.Lists.{◌∈◌, some}
use Rattle.epistemic.specs.Bits.{bit}
use Rattle.epistemic.specs.Models.{Model, Equivalence, sat, information, product, applicable}
use Rattle.epistemic.specs.Bisimulations.{Bisimilar, BisimilarOver}
use Rattle.epistemic.specs.Cells.{model}
use Rattle.epistemic.specs.Acts.{Event, events, moved, outcome}

-- cells and acts are lawful models
pub record MasksLawful : Type 0 where
  pub cell : (n c : ℕ) → Equivalence (model n c).worlds (model n c).alike
  pub act : (es : List Event) → Equivalence (events es).events (events es).alike

-- the mask has the bit of each valuation of the cell at which the cell's model satisfies the formula, and no other bit
pub record SatisfiedAt (n c : ℕ) (f : Formula) (m : ℕ) : Type 0 where
  pub inside : (v : ℕ) → T (bit c v) → bit m v ≡ sat (model n c) v f
  pub outside : (v : ℕ) → bit c v ≡ false → bit m v ≡ false

-- two cells are bisimilar over n letters exactly when they are equal
pub record EqualIfBisimilar (n c d : ℕ) : Type 0 where
  pub if : BisimilarOver n (model n c) (model n d) → c ≡ d
  pub only_if : c ≡ d → BisimilarOver n (model n c) (model n d)

module _ (n c : ℕ) (act : List Event) where
  -- the product update of the cell by the act
  abbrev pub update : Model (ℕ × Event)
  update = product (model n c) (events act)

  -- some world of the product update has an event of class k
  abbrev pub occurs : ℕ → Bool
  occurs k = some (λ x. nat_eq x.1.class k) update.worlds

  -- the masks are the information cells of the product update, up to bisimulation, one for each class that occurs
  pub record CellsOfUpdate (os : List ℕ) : Type 0 where
    -- two worlds share an information cell exactly when their events are of one class
    pub same_class : (x y : ℕ × Event) → y ∈ (information update x).worlds → x.1.class ≡ y.1.class
    pub same_cell : (x y : ℕ × Event) → y ∈ update.worlds → x.1.class ≡ y.1.class → y ∈ (information update x).worlds
    -- the masks are those of the classes that occur, by rising class
    pub by_class : os ≡ map (λ k. outcome n c k act) (filter occurs (range_with_len 0 8))
    -- each world's information cell is the mask of its event's class
    pub listed : (x : ℕ × Event) → x ∈ update.worlds → outcome n c x.1.class act ∈ os
    pub each_cell : (x : ℕ × Event) → x ∈ update.worlds → Bisimilar (information update x) (model n (outcome n c x.1.class act))
    -- each mask is some world's information cell
    pub each_outcome : (o : ℕ) → o ∈ os → (x : ℕ × Event) × (x ∈ update.worlds × Bisimilar (information update x) (model n o))

  -- there are outcomes exactly when the event model is applicable, and then they are the information cells of the update
  pub record OutcomesExplained (os : List ℕ) : Type 0 where
    pub applicable_if : (os ≢ []) → T (applicable (model n c) (events act))
    pub only_if_applicable : T (applicable (model n c) (events act)) → os ≢ []
    pub cells : T (applicable (model n c) (events act)) → CellsOfUpdate os

  -- a world of the product update has the letters of its event's new valuation, which lies in the mask of the event's
  -- class
  pub record WorldMoved (x : ℕ × Event) : Type 0 where
    pub letters : (i : ℕ) → update.holds i x ≡ bit (moved n x.1 x.0) i
    pub lands : T (bit (outcome n c x.1.class act) (moved n x.1 x.0))
