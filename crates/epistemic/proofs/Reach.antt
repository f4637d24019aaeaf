-- What the masks of an act hold: the valuations with a possible event, and the new valuations of a class. Assumes
-- nothing.
use Rattle.std.proofs.Common.{◌≡◌, ℕ, ◌^◌, ◌<◌, Bool, true, false, cond, not, ◌&&◌, ◌||◌, T, eqb, List, [], ◌∷◌, sym, refl, ap, ◌∙◌, subst, ap₂, inl, inr, eqb→eq}
use mathlib.Core.Bool.{and-false}
use mathlib.Core.List.Memᴰ
use lib.Dec.{eqb_refl}
use Rattle.epistemic.specs.Lists.{◌∈◌, every, some, implies}
use Rattle.epistemic.specs.Bits.{bit, image}
use Rattle.sheets.specs.Formulas.{top}
use Rattle.epistemic.specs.Models.{sat, may_after, applicable}
use Rattle.epistemic.specs.Cells.{Fit, model, truth}
use Rattle.epistemic.specs.Acts.{Event, events, new_bit, moved, possible, outcome}
use Rattle.planning.proofs.Tests.{clash, or_cases}
use Rattle.epistemic.proofs.Tests.{and_over_or}
use Rattle.epistemic.proofs.Lists.{some_at}
use Rattle.epistemic.proofs.Bits.{bit_none, bit_of_or, bit_below, below_bits, mask_below}
use Rattle.epistemic.proofs.Images.{or_from, or_into_left, or_into_right, gated_from, gated_to, image_from, image_to}
use Rattle.epistemic.proofs.Truths.{truth_bit, truth_from, all_pass}

moved_below : (n : ℕ) (e : Event) (v : ℕ) → moved n e v < 2 ^ n
moved_below n e v = mask_below n (new_bit e v)

module _ (n c : ℕ) where
  -- an event of class k that is possible at a valuation of the cell and leads to u
  pub record Reached (act : List Event) (k u : ℕ) : Type 0 where
    pub event : Event
    pub listed : event ∈ act
    pub of_class : event.class ≡ k
    pub from : ℕ
    pub can : T (bit (truth n c event.pre) from)
    pub leads : moved n event from ≡ u

  pub outcome_from : (k u : ℕ) (act : List Event) → T (bit (outcome n c k act) u) → Reached act k u
  outcome_from k u [] t = absurd (clash (bit 0 u) (bit_none u) t)
  outcome_from k u (e ∷ es) t =
      let here = image (moved n e) (truth n c e.pre) (2 ^ n) in
      let first = cond (eqb e.class k) here 0 in
      elim (or_cases (bit first u) (bit (outcome n c k es) u) (or_from first (outcome n c k es) u t)) [
        | inl s ↦
            let g = gated_from (eqb e.class k) here u s in
            let r = image_from (moved n e) (truth n c e.pre) (2 ^ n) u g.1 in
            record { event = e; listed = Memᴰ.head refl; of_class = eqb→eq e.class k g.0; from = r.0; can = r.1.0; leads = r.1.1 }
        | inr s ↦
            let r = outcome_from k u es s in
            record { event = r.event; listed = Memᴰ.tail r.listed; of_class = r.of_class; from = r.from; can = r.can; leads = r.leads }
      ]

  module _ (fits : Fit n c) where
    pub outcome_to : (k v : ℕ) {e : Event} {act : List Event} → e ∈ act → e.class ≡ k → T (bit (truth n c e.pre) v) → T (bit (outcome n c k act) (moved n e v))
    outcome_to k v {e} (Memᴰ.head {x = d} {xs = es} same) of_class t =
        let here = image (moved n d) (truth n c d.pre) (2 ^ n) in
        let below = bit_below (2 ^ n) c v fits (truth_from n c fits e.pre v t).0 in
        let there : T (bit here (moved n d v)) = image_to (moved n d) (truth n c d.pre) (2 ^ n) v below (subst (λ x. T (bit (truth n c x.pre) v)) same t) in
        let class : T (eqb d.class k) = subst (λ j. T (eqb d.class j)) (sym (ap (λ x. x.class) same) ∙ of_class) (eqb_refl d.class) in
        or_into_left (cond (eqb d.class k) here 0) (outcome n c k es) (moved n e v)
        (subst (λ x. T (bit (cond (eqb d.class k) here 0) (moved n x v))) (sym same) (gated_to (eqb d.class k) here (moved n d v) class there))
    outcome_to k v {e} (Memᴰ.tail {x = d} {xs = es} i) of_class t =
        or_into_right (cond (eqb d.class k) (image (moved n d) (truth n c d.pre) (2 ^ n)) 0) (outcome n c k es) (moved n e v) (outcome_to k v i of_class t)

    -- an outcome is a cell
    pub outcome_fits : (k : ℕ) (act : List Event) → Fit n (outcome n c k act)
    outcome_fits k act =
        below_bits (2 ^ n) (outcome n c k act)
        (λ u t. let r = outcome_from k u act t in subst (λ w. w < 2 ^ n) r.leads (moved_below n r.event r.from))

    -- ⟨act⟩ ⊤ says that some event is possible
    may_is_some : (v : ℕ) (es : List Event) → not (every (λ e. implies (sat (model n c) v e.pre) false) es) ≡ some (λ e. sat (model n c) v e.pre) es
    may_is_some v [] = refl
    may_is_some v (e ∷ es) =
        step (sat (model n c) v e.pre) (every (λ d. implies (sat (model n c) v d.pre) false) es)
        ∙ ap (λ b. sat (model n c) v e.pre || b) (may_is_some v es)
      where
        step : (a b : Bool) → not (implies a false && b) ≡ (a || not b)
        step true b = refl
        step false b = refl

    possible_bit : (v : ℕ) (act : List Event) → bit (possible n c act) v ≡ (bit c v && some (λ e. sat (model n c) v e.pre) act)
    possible_bit v [] = bit_none v ∙ sym (and-false (bit c v))
    possible_bit v (e ∷ es) =
        bit_of_or (truth n c e.pre) (possible n c es) v
        ∙ ap₂ ◌||◌ (truth_bit n c fits e.pre v) (possible_bit v es)
        ∙ and_over_or (bit c v) (sat (model n c) v e.pre) (some (λ d. sat (model n c) v d.pre) es)

    -- an applicable act has a possible event at each valuation of the cell
    pub may_from : (v : ℕ) (act : List Event) → T (may_after (model n c) (events act) top v) → (e : Event) × (e ∈ act × T (sat (model n c) v e.pre))
    may_from v act t = some_at (λ e. sat (model n c) v e.pre) act (subst T (may_is_some v act) t)

    pub possible_all : (act : List Event) → eqb (possible n c act) c ≡ applicable (model n c) (events act)
    possible_all act =
        all_pass n c fits (possible n c act) (may_after (model n c) (events act) top)
        (λ v. possible_bit v act ∙ ap (λ b. bit c v && b) (sym (may_is_some v act)))
