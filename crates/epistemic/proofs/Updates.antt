-- The worlds of the product update of a cell by an act; their information cells are the outcomes of the classes.
-- Assumes nothing.
use Rattle.std.proofs.Common.{◌≡◌, ℕ, ◌^◌, ◌<◌, ◌≤◌, Bool, true, false, cond, T, eqb, List, sym, refl, ap, ◌∙◌, ap₂, inl, inr, eqb→eq}
use lib.Dec.{eqb_refl}
use Rattle.std.proofs.lemmas.Bool.{cases_lt}
use Rattle.epistemic.specs.Lists.{◌∈◌}
use Rattle.epistemic.specs.Bits.{bit}
use Rattle.sheets.specs.Formulas.{top, letter, neg}
use Rattle.epistemic.specs.Models.{Model, sat, information}
use Rattle.epistemic.specs.Bisimulations.{Bisimilar}
use Rattle.epistemic.specs.Cells.{Fit, model}
use Rattle.epistemic.specs.Acts.{Event, events, post, new_bit, Proper, moved, outcome}
use Rattle.epistemic.specs.Claims.{update, WorldMoved}
use Rattle.epistemic.proofs.Tests.{eqb_from}
use Rattle.epistemic.proofs.Lists.{kept_from, kept_to}
use Rattle.epistemic.proofs.Laws.{from_product, to_product}
use Rattle.epistemic.proofs.Bits.{bit_mask, bit_mask_past, bit_past}
use Rattle.epistemic.proofs.Truths.{from_cell, to_cell, truth_from, truth_to}
use Rattle.epistemic.proofs.Reach.{outcome_from, outcome_to, outcome_fits}

-- the new valuation has the letters that the postconditions say
letter_moved : (n c : ℕ) (e : Event) (v : ℕ) → e.set < 2 ^ n → v < 2 ^ n → (i : ℕ) → sat (model n c) v (post e i) ≡ bit (moved n e v) i
letter_moved n c e v set_below below i = elim (cases_lt i n) [ inl l ↦ listed l | inr l ↦ past l ]
  where
    by_value : (s k : Bool) → sat (model n c) v (cond s top (cond k (neg top) (letter i))) ≡ cond s true (cond k false (bit v i))
    by_value true k = refl
    by_value false true = refl
    by_value false false = refl

    listed : i < n → sat (model n c) v (post e i) ≡ bit (moved n e v) i
    listed l =
        by_value (bit e.set i) (bit e.clear i)
        ∙ sym (bit_mask n (new_bit e v) i l)

    none : (k : Bool) → cond k false false ≡ false
    none true = refl
    none false = refl

    past : n ≤ i → sat (model n c) v (post e i) ≡ bit (moved n e v) i
    past l =
        by_value (bit e.set i) (bit e.clear i)
        ∙ ap₂ (λ s b. cond s true (cond (bit e.clear i) false b)) (bit_past n e.set i set_below l) (bit_past n v i below l)
        ∙ none (bit e.clear i)
        ∙ sym (bit_mask_past n (new_bit e v) i l)

-- a world's new valuation
abbrev pub ends : ℕ → ℕ × Event → ℕ
ends n x = moved n x.1 x.0

-- the worlds of the product update
module _ (n c : ℕ) (act : List Event) where
  pub record World (x : ℕ × Event) : Type 0 where
    pub at : x.0 ∈ (model n c).worlds
    pub by : x.1 ∈ act
    pub can : T (sat (model n c) x.0 x.1.pre)

  pub from_update : (x : ℕ × Event) → x ∈ (update n c act).worlds → World x
  from_update x i =
      let r = from_product (model n c) (events act) x i in record { at = r.0; by = r.1; can = r.2 }

  pub to_update : (x : ℕ × Event) → World x → x ∈ (update n c act).worlds
  to_update x w = to_product (model n c) (events act) x w.at w.by w.can

  -- a world's information cell: the worlds whose events are of its class
  pub from_information : (x y : ℕ × Event) → y ∈ (information (update n c act) x).worlds → y ∈ (update n c act).worlds × (x.1.class ≡ y.1.class)
  from_information x y i =
      let r = kept_from ((update n c act).alike x) (update n c act).worlds y i in (r.0, eqb→eq x.1.class y.1.class r.1)

  pub to_information : (x y : ℕ × Event) → y ∈ (update n c act).worlds → x.1.class ≡ y.1.class → y ∈ (information (update n c act) x).worlds
  to_information x y i e = kept_to ((update n c act).alike x) i (eqb_from x.1.class y.1.class e)

  module _ (fits : Fit n c) where
    -- a world's new valuation is in the outcome of its class, and all of the outcome comes from such worlds
    pub lands : (x : ℕ × Event) → x ∈ (update n c act).worlds → (k : ℕ) → x.1.class ≡ k → ends n x ∈ (model n (outcome n c k act)).worlds
    lands x i k e =
        let w = from_update x i in
        let can = truth_to n c fits x.1.pre x.0 (from_cell n c x.0 w.at).1 w.can in
        to_cell n (outcome n c k act) (outcome_fits n c fits k act) (ends n x) (outcome_to n c fits k x.0 w.by e can)

    pub record Source (k u : ℕ) : Type 0 where
      pub world : ℕ × Event
      pub member : world ∈ (update n c act).worlds
      pub of_class : world.1.class ≡ k
      pub leads : ends n world ≡ u

    pub source : (k u : ℕ) → T (bit (outcome n c k act) u) → Source k u
    source k u t =
        let r = outcome_from n c k u act t in
        let p = truth_from n c fits r.event.pre r.from r.can in
        let x : ℕ × Event = (r.from, r.event) in
        record { world = x; member = to_update x (record { at = to_cell n c fits r.from p.0; by = r.listed; can = p.1 }); of_class = r.of_class; leads = r.leads }

    module _ (proper : Proper n act) where
      -- the bisimulation of a world's information cell and the outcome of its class
      module _ (x : ℕ × Event) where
        abbrev its : Model (ℕ × Event)
        its = information (update n c act) x

        abbrev out : Model ℕ
        out = model n (outcome n c x.1.class act)

        abbrev Onto : ℕ → Type 0
        Onto u = (y : ℕ × Event) × (y ∈ its.worlds × T (eqb (ends n y) u))

        onto : (u : ℕ) → u ∈ out.worlds → Onto u
        onto u j =
            let s = source x.1.class u (from_cell n (outcome n c x.1.class act) u j).1 in
            (s.world, (to_information x s.world s.member (sym s.of_class), eqb_from (ends n s.world) u s.leads))

        into : (y : ℕ × Event) → y ∈ its.worlds → ends n y ∈ out.worlds
        into y i = let r = from_information x y i in lands y r.0 x.1.class (sym r.1)

        alike_in : (y z : ℕ × Event) → y ∈ its.worlds → z ∈ its.worlds → T (its.alike y z)
        alike_in y z i j = eqb_from y.1.class z.1.class (sym (from_information x y i).1 ∙ (from_information x z j).1)

        letters : (y : ℕ × Event) (u : ℕ) → y ∈ its.worlds → T (eqb (ends n y) u) → (i : ℕ) → its.holds i y ≡ bit u i
        letters y u i t k =
            let w = from_update y (from_information x y i).0 in
            letter_moved n c y.1 y.0 (proper.set_below y.1 w.by) (from_cell n c y.0 w.at).0 k
            ∙ ap (λ v. bit v k) (eqb→eq (ends n y) u t)

        pub cell_is_outcome : Bisimilar its out
        cell_is_outcome =
            record {
              related = λ y u. eqb (ends n y) u;
              bisimulation =
                  record {
                    atoms = λ y u i j t k. letters y u i t k;
                    forth = λ y u i j t z k a. (ends n z, (into z k, tt, eqb_refl (ends n z)));
                    back = λ y u i j t w k a. let r = onto w k in (r.0, (r.1.0, alike_in y r.0 i r.1.0, r.1.1));
                  };
              left = λ y i. (ends n y, (into y i, eqb_refl (ends n y)));
              right = onto;
            }

-- a world moves to its new valuation
pub world_moved : (n c : ℕ) (act : List Event) → Fit n c → Proper n act → (x : ℕ × Event) → x ∈ (update n c act).worlds → WorldMoved n c act x
world_moved n c act fits proper x i =
    let w = from_update n c act x i in
    record {
      letters = letter_moved n c x.1 x.0 (proper.set_below x.1 w.by) (from_cell n c x.0 w.at).0;
      lands = (from_cell n (outcome n c x.1.class act) (ends n x) (lands n c act fits x i x.1.class refl)).1;
    }
