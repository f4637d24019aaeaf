-- What holds of all models, and shows that the definitions are the usual ones: to be proved. Assumes nothing.
use Rattle.std.specs.Prelude.{◌≡◌, Bool, T}
use Rattle.epistemic.specs.Lists.{◌∈◌}
use Rattle.sheets.specs.Formulas.{Formula, neg, and, or, K, M}
use Rattle.epistemic.specs.Models.{Model, EventModel, Equivalence, sat, valid, information, product}
use Rattle.epistemic.specs.Bisimulations.{Bisimulation, Bisimilar}

-- `or` and `M` are the usual abbreviations
pub record Duals (W : Type 0) : Type 0 where
  pub either : (m : Model W) (w : W) (f g : Formula) → sat m w (or f g) ≡ sat m w (neg (and (neg f) (neg g)))
  pub possibly : (m : Model W) (w : W) (f : Formula) → sat m w (M f) ≡ sat m w (neg (K (neg f)))

-- the product update of lawful models is lawful
abbrev pub UpdateLawful : Type 0 → Type 0 → Type 0
UpdateLawful W E = (m : Model W) (e : EventModel E) → Equivalence m.worlds m.alike → Equivalence e.events e.alike → Equivalence (product m e).worlds (product m e).alike

-- an information cell of a lawful model: it has its world, and all its worlds are alike
pub record CellOf {W : Type 0} (m : Model W) (w : W) : Type 0 where
  pub has_world : w ∈ (information m w).worlds
  pub connected : (u v : W) → u ∈ (information m w).worlds → v ∈ (information m w).worlds → T (m.alike u v)

-- each information cell of a lawful model is such
abbrev pub CellsConnected : Type 0 → Type 0
CellsConnected W = (m : Model W) → Equivalence m.worlds m.alike → (w : W) → w ∈ m.worlds → CellOf m w

-- truth at a world depends on its information cell alone
abbrev pub TruthLocal : Type 0 → Type 0
TruthLocal W = (m : Model W) → Equivalence m.worlds m.alike → (w u : W) → w ∈ m.worlds → u ∈ (information m w).worlds → (f : Formula) → sat (information m w) u f ≡ sat m u f

-- worlds that a bisimulation relates satisfy the same formulas, and bisimilar models make the same formulas true
pub record Invariance (V W : Type 0) : Type 0 where
  pub at_worlds : (m : Model V) (o : Model W) (related : V → W → Bool) → Bisimulation m o related → (v : V) (w : W) → v ∈ m.worlds → w ∈ o.worlds → T (related v w) → (f : Formula) → sat m v f ≡ sat o w f
  pub of_models : (m : Model V) (o : Model W) → Bisimilar m o → (f : Formula) → valid m f ≡ valid o f
