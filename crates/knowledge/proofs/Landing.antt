-- What a move from a valuation is, and that there is one where an act has outcomes. Assumes nothing.
use Rattle.std.proofs.Common.{◌≡◌, ℕ, ◌^◌, ◌<◌, Bool, true, false, cond, ◌&&◌, T, eqb, ltb, List, [], map, length, get_or, replicate, Some, filter, sym, refl, ap, ◌∙◌, subst, ap₂, arith}
use mathlib.Core.List.Memᴰ
use Rattle.std.specs.List.{range_with_len, slice_get}
use Rattle.std.proofs.lemmas.List.FromFn.{get_or-map-range_with_len}
use Rattle.std.proofs.lemmas.Bool.{and_parts, ltb-true}
use Rattle.sheets.specs.Reading.{Parts}
use Rattle.sheets.specs.Formulas.{top}
use Rattle.epistemic.specs.Bits.{bit}
use Rattle.epistemic.specs.Lists.{◌∈◌}
use Rattle.epistemic.specs.Models.{sat, may_after}
use Rattle.epistemic.specs.Cells.{Fit, fit, model}
use Rattle.epistemic.specs.Acts.{Event, events, nonempty, possible, outcome, moved}
use Rattle.epistemic.specs.Claims.{update}
use Rattle.planning.proofs.Tests.{and_parts as both-parts, and_from as both-from}
use Rattle.planning.proofs.Lists.{every_at, nth_in}
use Rattle.epistemic.proofs.Lists.{kept_from, kept_to, map_from, map_to}
use Rattle.epistemic.proofs.Truths.{to_cell}
use Rattle.epistemic.proofs.Reach.{may_from}
use Rattle.epistemic.proofs.Updates.{to_update, world_moved}
use Rattle.epistemic.proofs.Outcomes.{has_bit}
use Rattle.knowledge.specs.Books.{letters, act_count, events_at, askable, outcomes_at}
use Rattle.knowledge.specs.Moves.{possible_at, move_of, moves_of, moves_at, class_outcome, Landed}
use Rattle.knowledge.specs.declared.moves.Move.{Move}
use Rattle.knowledge.proofs.Meanings.{book_events_proper, outcomes_right, kept_classes}

-- a list in which something stands is not empty
member_some : {X : Type 0} {x : X} {xs : List X} → x ∈ xs → 0 < length xs
member_some (Memᴰ.head e) = omega arith
member_some (Memᴰ.tail i) = omega arith

module _ (p : Parts) (c v a : ℕ) where
  abbrev n : ℕ
  n = letters p

  abbrev act : List Event
  act = events_at p a

  -- where an act may be asked for
  record Askable : Type 0 where
    below : a < act_count p
    fits : Fit n c

  from_askable : askable p c a ≡ true → Askable
  from_askable t =
      let r = and_parts (ltb a (act_count p)) (fit n c) t in
      record { below = ltb-true a (act_count p) r.0; fits = ltb-true c (2 ^ (2 ^ n)) r.1 }

  -- where an act has outcomes, each class has its own
  has_outcomes : (outcomes_at p c a ≡ [] → ⊥) → (askable p c a ≡ true) × (eqb (possible n c act) c ≡ true)
  has_outcomes some = go (askable p c a && eqb (possible n c act) c) refl
    where
      go : (b : Bool) → (askable p c a && eqb (possible n c act) c) ≡ b → (askable p c a ≡ true) × (eqb (possible n c act) c ≡ true)
      go true e = and_parts (askable p c a) (eqb (possible n c act) c) e
      go false e =
          let none : outcomes_at p c a ≡ [] = sym (kept_classes p c a) ∙ ap (λ b. filter nonempty (cond b (map (λ k. outcome n c k act) (range_with_len 0 8)) (replicate 8 0))) e in
          absurd (some none)

  class_is : (outcomes_at p c a ≡ [] → ⊥) → (k : ℕ) → k < 8 → class_outcome p c a k ≡ outcome n c k act
  class_is some k h =
      let r = has_outcomes some in
      ap₂ (λ x y. get_or (cond (x && y) (map (λ j. outcome n c j act) (range_with_len 0 8)) (replicate 8 0)) k 0) r.0 r.1
      ∙ get_or-map-range_with_len (λ j. outcome n c j act) 0 8 k k 0 h (omega arith)

  -- an event that is possible at the valuation, as a world of the product update
  record Possible (e : Event) : Type 0 where
    by : e ∈ act
    at : T (bit c v)
    can : T (sat (model n c) v e.pre)

  member : Fit n c → (e : Event) → Possible e → (let x : ℕ × Event = (v, e) in x ∈ (update n c act).worlds)
  member fits e h =
      let x : ℕ × Event = (v, e) in
      to_update n c act x (record { at = to_cell n c fits v h.at; by = h.by; can = h.can })

  landed_by : Askable → (m : Move) (e : Event) → m ≡ move_of n v e → Possible e → Landed p c v a m
  landed_by asked m e is h =
      let x : ℕ × Event = (v, e) in
      let i = member asked.fits e h in
      let proper = book_events_proper p a in
      record {
        world = x;
        at = refl;
        member = i;
        of_class = ap (λ y. y.class) is;
        leads = ap (λ y. y.valuation) is;
        explained = world_moved n c act asked.fits proper x i;
        lands = λ some.
            let right = (outcomes_right p c a).proper (has_bit c v h.at, asked.fits) asked.below in
            let own = class_is some e.class (proper.class_below e h.by) in
            let there : T (bit (class_outcome p c a e.class) (moved n e v)) = subst (λ o. T (bit o (moved n e v))) (sym own) (world_moved n c act asked.fits proper x i).lands in
            let listed : class_outcome p c a e.class ∈ outcomes_at p c a = subst (λ o. o ∈ outcomes_at p c a) (sym own) ((right.cells (right.applicable_if some)).listed x i) in
            subst (λ y. T (bit (class_outcome p c a y.class) y.valuation) × (class_outcome p c a y.class ∈ outcomes_at p c a)) (sym is) (there, listed);
      }

  -- a move that is answered is one
  pub landed : (k : ℕ) (m : Move) → slice_get (moves_at p c v a) k ≡ Some m → Landed p c v a m
  landed k m e = go (askable p c a) refl (nth_in (moves_at p c v a) k m e)
    where
      go : (b : Bool) → askable p c a ≡ b → m ∈ cond b (moves_of n c v act) [] → Landed p c v a m
      go true t i =
          let r = map_from (move_of n v) (filter (possible_at n c v) act) m i in
          let k = kept_from (possible_at n c v) act r.0 r.1.0 in
          let h = both-parts (bit c v) (sat (model n c) v r.0.pre) k.1 in
          landed_by (from_askable t) m r.0 r.1.1 (record { by = k.0; at = h.0; can = h.1 })
      go false t i = absurd (Memᴰ.not-nil i)

  -- where an act has outcomes, some event is possible at each valuation of the cell
  pub some_move : (r : ℕ) → r ≡ length (moves_at p c v a) → (outcomes_at p c a ≡ [] → ⊥) → T (bit c v) → 0 < r
  some_move r is some t =
      let asks = (has_outcomes some).0 in
      let asked = from_askable asks in
      let right = (outcomes_right p c a).proper (has_bit c v t, asked.fits) asked.below in
      let at = to_cell n c asked.fits v t in
      let e = may_from n c asked.fits v act (every_at (may_after (model n c) (events act) top) at (right.applicable_if some)) in
      let kept = kept_to (possible_at n c v) e.1.0 (both-from (bit c v) (sat (model n c) v e.0.pre) t e.1.1) in
      let there = map_to (move_of n v) kept in
      let all = ap (λ b. length (cond b (moves_of n c v act) [])) asks in
      omega (arith, is, all, member_some there)
