-- The masks of an act's classes, gathered event by event. Assumes nothing.
use Rattle.std.proofs.Common.{◌≡◌, ℕ, ◌^◌, ◌<◌, Bool, true, false, cond, eqb, List, [], ◌∷◌, map, length, get_or, set, sym, ap, ◌∙◌, subst, inl, inr, arith, length-set, get_or-set_other, get_or-set_same}
use lib.Bits.{bit_or, or_zero_l, or_zero_r}
use Rattle.std.specs.List.{range_with_len}
use Rattle.std.proofs.lemmas.List.FromFn.{fill_by_all}
use Rattle.std.proofs.lemmas.Bool.{cases_eq, eq-eqb, ne_eqb}
use Rattle.epistemic.specs.Acts.{Event, moved, possible, outcome}
use Rattle.epistemic.specs.Bits.{image}
use Rattle.epistemic.specs.Cells.{truth}
use Rattle.epistemic.proofs.Bits.{or_assoc}

module _ (n c : ℕ) (act : List Event) where
  -- what has been gathered, and what the events that are left add, is all of it
  pub record SoFar (rest : List Event) (some : ℕ) (classes : List ℕ) : Type 0 where
    pub possible_so : bit_or some (possible n c rest) ≡ possible n c act
    pub long : length classes ≡ 8
    pub classes_so : (k : ℕ) → k < 8 → bit_or (get_or classes k 0) (outcome n c k rest) ≡ outcome n c k act

  -- one event more
  module _ (e : Event) (rest : List Event) (low : e.class < 8) where
    abbrev here : ℕ
    here = truth n c e.pre

    abbrev new : ℕ
    new = image (moved n e) here (2 ^ n)

    class_more : (classes : List ℕ) (k : ℕ) → k < 8 → length classes ≡ 8 → bit_or (get_or (set classes e.class (bit_or (get_or classes e.class 0) new)) k 0) (outcome n c k rest) ≡ bit_or (get_or classes k 0) (outcome n c k (e ∷ rest))
    class_more classes k h long = elim (cases_eq k e.class) [ inl is ↦ same is | inr other ↦ apart other ]
      where
        after : ℕ → ℕ
        after j = outcome n c j rest

        by_class : (b : Bool) → eqb e.class k ≡ b → outcome n c k (e ∷ rest) ≡ bit_or (cond b new 0) (after k)
        by_class b t = ap (λ x. bit_or (cond x new 0) (after k)) t

        same : k ≡ e.class → bit_or (get_or (set classes e.class (bit_or (get_or classes e.class 0) new)) k 0) (after k) ≡ bit_or (get_or classes k 0) (outcome n c k (e ∷ rest))
        same is =
            let within : e.class < length classes = omega arith in
            ap (λ x. bit_or x (after k)) (ap (λ j. get_or (set classes e.class (bit_or (get_or classes e.class 0) new)) j 0) is ∙ get_or-set_same classes e.class (bit_or (get_or classes e.class 0) new) 0 within ∙ ap (λ j. bit_or (get_or classes j 0) new) (sym is))
            ∙ or_assoc (get_or classes k 0) new (after k)
            ∙ ap (bit_or (get_or classes k 0)) (sym (by_class true (eq-eqb e.class k (sym is))))

        apart : (k ≡ e.class → ⊥) → bit_or (get_or (set classes e.class (bit_or (get_or classes e.class 0) new)) k 0) (after k) ≡ bit_or (get_or classes k 0) (outcome n c k (e ∷ rest))
        apart other =
            ap (λ x. bit_or x (after k)) (get_or-set_other classes e.class k (bit_or (get_or classes e.class 0) new) 0 other)
            ∙ ap (bit_or (get_or classes k 0)) (sym (by_class false (ne_eqb e.class k (λ t. other (sym t))) ∙ or_zero_l (after k)))

    more : (some : ℕ) (classes : List ℕ) → SoFar (e ∷ rest) some classes → SoFar rest (bit_or some here) (set classes e.class (bit_or (get_or classes e.class 0) new))
    more some classes s =
        record {
          possible_so = or_assoc some here (possible n c rest) ∙ s.possible_so;
          long = length-set classes e.class (bit_or (get_or classes e.class 0) new) ∙ s.long;
          classes_so = λ k h. class_more classes k h s.long ∙ s.classes_so k h;
        }

    pub more_of : (some : ℕ) (classes : List ℕ) → SoFar (e ∷ rest) some classes → (at to class : ℕ) → at ≡ here → to ≡ new → class ≡ e.class → SoFar rest (bit_or some at) (set classes class (bit_or (get_or classes class 0) to))
    more_of some classes s at to class is leads of_class =
        let gathered : ℕ → ℕ → ℕ → Type 0 = λ x y k. SoFar rest (bit_or some x) (set classes k (bit_or (get_or classes k 0) y)) in
        subst (gathered at to) (sym of_class) (subst (λ y. gathered at y e.class) (sym leads) (subst (λ x. gathered x new e.class) (sym is) (more some classes s)))

  -- all of it
  pub all_possible : (some : ℕ) (classes : List ℕ) → SoFar [] some classes → some ≡ possible n c act
  all_possible some classes s = sym (or_zero_r some) ∙ s.possible_so

  pub all_classes : (some : ℕ) (classes : List ℕ) → SoFar [] some classes → classes ≡ map (λ k. outcome n c k act) (range_with_len 0 8)
  all_classes some classes s =
      fill_by_all (λ k. outcome n c k act) classes 8 0 s.long (λ k h. sym (or_zero_r (get_or classes k 0)) ∙ s.classes_so k h)
