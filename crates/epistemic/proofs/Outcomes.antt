-- The list of outcomes: the classes that occur, where the act is applicable. Assumes nothing.
use Rattle.std.proofs.Common.{◌≡◌, ℕ, ◌^◌, ◌<◌, ◌≤◌, Bool, true, false, cond, not, ◌&&◌, T, eqb, List, [], map, length, filter, sym, ap, ◌∙◌, subst, ap₂, inl, inr, arith, eqb→eq, T_not}
use mathlib.Core.List.Memᴰ
use lib.Dec.{not_T, eqb_refl}
use Rattle.std.specs.List.{range_with_len}
use Rattle.std.proofs.lemmas.Nat.{pow_pos}
use Rattle.std.proofs.lemmas.Bool.{cases_lt, le-ltb}
use Rattle.epistemic.specs.Lists.{◌∈◌}
use Rattle.epistemic.specs.Bits.{bit}
use Rattle.sheets.specs.Formulas.{Formula, top}
use Rattle.epistemic.specs.Models.{sat, valid, information, may_after, applicable}
use Rattle.epistemic.specs.Bisimulations.{Bisimilar}
use Rattle.epistemic.specs.Cells.{Fit, fit, ProperCell, model, truth, goal}
use Rattle.epistemic.specs.Acts.{Event, events, Proper, nonempty, possible, outcome, outcomes}
use Rattle.epistemic.specs.Claims.{update, occurs, CellsOfUpdate, OutcomesExplained}
use Rattle.planning.proofs.Tests.{iff, so, clash, decide}
use Rattle.epistemic.proofs.Tests.{eqb_from}
use Rattle.epistemic.proofs.Lists.{every_at, every_from, some_at, some_from, kept_from, kept_to, kept_map, kept_most, no_members, map_from, map_to, counting_to}
use Rattle.epistemic.proofs.Bits.{bit_none, some_bit}
use Rattle.epistemic.proofs.Truths.{from_cell, to_cell, fit_true, goal_valid}
use Rattle.epistemic.proofs.Reach.{outcome_fits, may_from, possible_all}
use Rattle.epistemic.proofs.Updates.{ends, from_update, to_update, from_information, to_information, lands, source, cell_is_outcome}

-- a number with a bit is not 0
pub has_bit : (m i : ℕ) → T (bit m i) → 0 < m
has_bit m i t =
    elim (cases_lt 0 m) [
      | inl h ↦ h
      | inr h ↦ let none : m ≡ 0 = omega arith in absurd (clash (bit 0 i) (bit_none i) (subst (λ x. T (bit x i)) none t))
    ]

module _ (n c : ℕ) (act : List Event) (fits : Fit n c) where
  -- a class has an outcome exactly when it occurs
  occurring : (k : ℕ) → not (eqb (outcome n c k act) 0) ≡ occurs n c act k
  occurring k = iff (not (eqb (outcome n c k act) 0)) (occurs n c act k) there back
    where
      there : T (not (eqb (outcome n c k act) 0)) → T (occurs n c act k)
      there t =
          elim (cases_lt 0 (outcome n c k act)) [
            | inl h ↦
                let b = some_bit (outcome n c k act) h in
                let s = source n c act fits k b.0 b.1 in
                some_from (λ x. eqb x.1.class k) s.member (eqb_from s.world.1.class k s.of_class)
            | inr h ↦ let e : outcome n c k act ≡ 0 = omega arith in absurd (T_not (eqb (outcome n c k act) 0) t (eqb_from (outcome n c k act) 0 e))
          ]

      back : T (occurs n c act k) → T (not (eqb (outcome n c k act) 0))
      back t =
          let r = some_at (λ x. eqb x.1.class k) (update n c act).worlds t in
          let i = lands n c act fits r.0 r.1.0 k (eqb→eq r.0.1.class k r.1.1) in
          let h = has_bit (outcome n c k act) (ends n r.0) (from_cell n (outcome n c k act) (ends n r.0) i).1 in
          not_T (eqb (outcome n c k act) 0) (λ z. omega (arith, eqb→eq (outcome n c k act) 0 z))

  abbrev classes : List ℕ
  classes = map (λ k. outcome n c k act) (filter (occurs n c act) (range_with_len 0 8))

  outcomes_are : outcomes n c act ≡ cond (applicable (model n c) (events act)) classes []
  outcomes_are =
      ap₂ (λ b xs. cond b xs []) (ap₂ ◌&&◌ (fit_true n c fits) (possible_all n c fits act))
      (kept_map (λ k. outcome n c k act) nonempty (occurs n c act) (range_with_len 0 8) (λ k _. occurring k))

  outcomes_none : applicable (model n c) (events act) ≡ false → outcomes n c act ≡ []
  outcomes_none e = outcomes_are ∙ ap (λ b. cond b classes []) e

  outcomes_all : T (applicable (model n c) (events act)) → outcomes n c act ≡ classes
  outcomes_all t = outcomes_are ∙ ap (λ b. cond b classes []) (so (applicable (model n c) (events act)) t)

  -- an outcome, with its class and a world of the product update
  pub record ClassOf (o : ℕ) : Type 0 where
    pub class : ℕ
    pub is : o ≡ outcome n c class act
    pub world : ℕ × Event
    pub member : world ∈ (update n c act).worlds
    pub of_class : world.1.class ≡ class

  class_of : (o : ℕ) → o ∈ outcomes n c act → ClassOf o
  class_of o i =
      elim (decide (applicable (model n c) (events act))) [
        | inl t ↦
            let r = map_from (λ k. outcome n c k act) (filter (occurs n c act) (range_with_len 0 8)) o (subst (λ xs. o ∈ xs) (outcomes_all t) i) in
            let k = kept_from (occurs n c act) (range_with_len 0 8) r.0 r.1.0 in
            let x = some_at (λ y. eqb y.1.class r.0) (update n c act).worlds k.1 in
            record { class = r.0; is = r.1.1; world = x.0; member = x.1.0; of_class = eqb→eq x.0.1.class r.0 x.1.1 }
        | inr e ↦ absurd (Memᴰ.not-nil (subst (λ xs. o ∈ xs) (outcomes_none e) i))
      ]

  is_cell : (o : ℕ) → ClassOf o → (0 < o) × Fit n o
  is_cell o r =
      let m = outcome n c r.class act in
      let u = ends n r.world in
      let t = (from_cell n m u (lands n c act fits r.world r.member r.class r.of_class)).1 in
      subst (λ x. (0 < x) × Fit n x) (sym r.is) (has_bit m u t, outcome_fits n c fits r.class act)

  module _ (proper : Proper n act) where
    listed : T (applicable (model n c) (events act)) → (x : ℕ × Event) → x ∈ (update n c act).worlds → outcome n c x.1.class act ∈ outcomes n c act
    listed t x i =
        let below = proper.class_below x.1 (from_update n c act x i).by in
        let occurs-here = some_from (λ y. eqb y.1.class x.1.class) i (eqb_refl x.1.class) in
        subst (λ xs. outcome n c x.1.class act ∈ xs) (sym (outcomes_all t))
        (map_to (λ k. outcome n c k act) (kept_to (occurs n c act) (counting_to 0 8 x.1.class (omega arith) (omega arith)) occurs-here))

    cells_of_update : T (applicable (model n c) (events act)) → CellsOfUpdate n c act (outcomes n c act)
    cells_of_update t =
        record {
          same_class = λ x y i. (from_information n c act x y i).1;
          same_cell = to_information n c act;
          by_class = outcomes_all t;
          listed = listed t;
          each_cell = λ x _. cell_is_outcome n c act fits proper x;
          each_outcome = λ o i.
              let r = class_of o i in
              let e = ap (λ k. outcome n c k act) r.of_class ∙ sym r.is in
              (r.world, (r.member, subst (λ m. Bisimilar (information (update n c act) r.world) (model n m)) e (cell_is_outcome n c act fits proper r.world)));
        }

    -- a valuation of the cell has a possible event, so the product update a world, and the act an outcome
    has_outcome : 0 < c → T (applicable (model n c) (events act)) → outcomes n c act ≡ [] → ⊥
    has_outcome h t none =
        let b = some_bit c h in
        let at = to_cell n c fits b.0 b.1 in
        let e = may_from n c fits b.0 act (every_at (may_after (model n c) (events act) top) at t) in
        let x : ℕ × Event = (b.0, e.0) in
        let i = to_update n c act x (record { at = at; by = e.1.0; can = e.1.1 }) in
        Memᴰ.not-nil (subst (λ xs. outcome n c e.0.class act ∈ xs) none (listed t x i))

-- in a proper cell the outcomes are as the theory has them
pub outcomes_explained : (n c : ℕ) (act : List Event) → ProperCell n c → Proper n act → OutcomesExplained n c act (outcomes n c act)
outcomes_explained n c act cell proper =
    record {
      applicable_if = λ h. elim (decide (applicable (model n c) (events act))) [ inl t ↦ t | inr e ↦ absurd (h (outcomes_none n c act cell.1 e)) ];
      only_if_applicable = has_outcome n c act cell.1 proper cell.0;
      cells = cells_of_update n c act cell.1 proper;
    }

-- at most one outcome for each class
pub few : (n c : ℕ) (act : List Event) → length (outcomes n c act) ≤ 8
few n c act = go (fit n c && eqb (possible n c act) c)
  where
    all : List ℕ
    all = map (λ k. outcome n c k act) (range_with_len 0 8)

    go : (b : Bool) → length (cond b (filter nonempty all) []) ≤ 8
    go true = omega (arith, kept_most nonempty all)
    go false = omega arith

-- a mask with a bit from 2 ^ n up has no outcomes and is no goal
unfit : (n c : ℕ) → 2 ^ (2 ^ n) ≤ c → fit n c ≡ false
unfit n c h = le-ltb c (2 ^ (2 ^ n)) h

pub outside_none : (n c : ℕ) (act : List Event) → 2 ^ (2 ^ n) ≤ c → outcomes n c act ≡ []
outside_none n c act h =
    ap (λ b. cond (b && eqb (possible n c act) c) (filter nonempty (map (λ k. outcome n c k act) (range_with_len 0 8))) []) (unfit n c h)

pub outside_no_goal : (n c : ℕ) (f : Formula) → 2 ^ (2 ^ n) ≤ c → goal n f c ≡ false
outside_no_goal n c f h = ap (λ b. b && eqb (truth n c f) c) (unfit n c h)

-- an outcome is a proper cell
pub outcome_proper : (n c : ℕ) (act : List Event) (o : ℕ) → o ∈ outcomes n c act → ProperCell n o
outcome_proper n c act o i =
    elim (cases_lt c (2 ^ (2 ^ n))) [
      | inl fits ↦ is_cell n c act fits o (class_of n c act fits o i)
      | inr h ↦ absurd (Memᴰ.not-nil (subst (λ xs. o ∈ xs) (outside_none n c act h) i))
    ]

-- the empty mask has no outcomes and is a goal
empty_fits : (n : ℕ) → Fit n 0
empty_fits n = pow_pos (2 ^ n)

nowhere : (n v : ℕ) → v ∈ (model n 0).worlds → ⊥
nowhere n v i = clash (bit 0 v) (bit_none v) (from_cell n 0 v i).1

pub empty_none : (n : ℕ) (act : List Event) → outcomes n 0 act ≡ []
empty_none n act =
    no_members (outcomes n 0 act)
    (λ o i. let r = class_of n 0 act (empty_fits n) o i in nowhere n r.world.0 (from_update n 0 act r.world r.member).at)

pub empty_goal : (n : ℕ) (f : Formula) → goal n f 0 ≡ true
empty_goal n f =
    goal_valid n 0 f (empty_fits n)
    ∙ so (valid (model n 0) f) (every_from (λ w. sat (model n 0) w f) (model n 0).worlds (λ v i. absurd (nowhere n v i)))
