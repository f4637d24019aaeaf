-- An act over n features: a list of events. Assumes nothing.
use Rattle.std.specs.Prelude.{ℕ, zero, suc, ◌^◌, ◌<◌, Bool, true, false, cond, not, ◌&&◌, List, [], ◌∷◌, map, filter, ◌==◌, bit_or}
use Rattle.std.specs.List.{range_with_len}
use Rattle.epistemic.specs.Lists.{◌∈◌}
use Rattle.epistemic.specs.Bits.{bit, mask, image, put}
use Rattle.sheets.specs.Formulas.{Formula, top, letter, neg}
use Rattle.epistemic.specs.Models.{EventModel}
use Rattle.epistemic.specs.Cells.{truth, fit}

-- its class, which is what the agent observes; its precondition; the features that it sets and clears, as masks
pub record Event : Type 0 where
  pub class : ℕ
  pub pre : Formula
  pub set : ℕ
  pub clear : ℕ

-- the value of letter i after the event, as a formula about the world before
abbrev pub post : Event → ℕ → Formula
post e i = cond (bit e.set i) top (cond (bit e.clear i) (neg top) (letter i))

-- that value, at the valuation v
abbrev pub new_bit : Event → ℕ → ℕ → Bool
new_bit e v i = cond (bit e.set i) true (cond (bit e.clear i) false (bit v i))

-- the valuation with feature i as the event leaves it
abbrev pub with_feature : Event → ℕ → ℕ → ℕ
with_feature e i v = put i (new_bit e v i) v

-- the valuation with all features below k as the event leaves them
abbrev pub with_features : Event → ℕ → ℕ → ℕ
with_features e zero v = v
with_features e (suc k) v = with_feature e k (with_features e k v)

-- the act as an event model: the agent tells events apart by their class alone
abbrev pub events : List Event → EventModel Event
events act = record { events = act; alike = λ d e. (d.class == e.class); pre = λ e. e.pre; post = post }

-- a set that is not empty
abbrev pub nonempty : ℕ → Bool
nonempty o = not (o == 0)

module _ (n : ℕ) where
  -- what a sheet's events obey, as far as it matters here: 8 classes, and only features below n are set
  pub record Proper (act : List Event) : Type 0 where
    pub class_below : (e : Event) → e ∈ act → e.class < 8
    pub set_below : (e : Event) → e ∈ act → e.set < 2 ^ n

  -- the valuation after the event
  abbrev pub moved : Event → ℕ → ℕ
  moved e v = mask n (new_bit e v)

  module _ (c : ℕ) where
    -- the valuations of the cell at which some event is possible
    abbrev pub possible : List Event → ℕ
    possible [] = 0
    possible (e ∷ es) = bit_or (truth n c e.pre) (possible es)

    -- the new valuations of class k
    abbrev pub outcome : ℕ → List Event → ℕ
    outcome k [] = 0
    outcome k (e ∷ es) = bit_or (cond (e.class == k) (image (moved e) (truth n c e.pre) (2 ^ n)) 0) (outcome k es)

    -- the outcomes by rising class: the sets that are not empty; none unless each valuation of the cell has a possible
    -- event
    abbrev pub outcomes : List Event → List ℕ
    outcomes act =
        cond (fit n c && possible act == c) (filter nonempty (map (λ k. outcome k act) (range_with_len 0 8))) []
