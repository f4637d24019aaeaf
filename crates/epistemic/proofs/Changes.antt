-- An event's new valuations, made feature by feature for a whole mask. Assumes nothing.
use Rattle.std.proofs.Common.{◌≡◌, ℕ, zero, suc, ◌-◌, ◌%◌, ◌^◌, ◌<◌, ◌≤◌, Bool, true, false, cond, not, ◌&&◌, ◌||◌, eqb, ltb, sym, refl, ap, ◌∙◌, ap₂, inl, inr, arith}
use lib.Bits.{bit_and, bit_or, and_mask}
use Rattle.std.proofs.lemmas.Nat.{pow_pos, mod_below}
use Rattle.std.proofs.lemmas.Bool.{cases_eq, cases_lt, eq-eqb, ne_eqb, lt-ltb, le-ltb}
use Rattle.epistemic.specs.Bits.{bit, image, put}
use Rattle.epistemic.specs.Cells.{Fit}
use Rattle.epistemic.specs.Acts.{Event, new_bit, with_feature, with_features, moved}
use Rattle.epistemic.proofs.Bits.{bit_of_and, bit_of_or, bit_below, bit_past, bit_mask, bit_mask_past, same_bits}
use Rattle.epistemic.proofs.Images.{image_same, image_self, image_twice}
use Rattle.epistemic.proofs.Shifts.{bit_complement, bit_cut}
use Rattle.epistemic.proofs.Features.{bit_put, put_same, put_below}

module _ (e : Event) where
  -- one feature more, where those below k are new and the others as they were
  more_with : (k v j w : ℕ) → ((j : ℕ) → bit w j ≡ cond (ltb j k) (new_bit e v j) (bit v j)) → cond (eqb j k) (new_bit e w k) (bit w j) ≡ cond (ltb j (suc k)) (new_bit e v j) (bit v j)
  more_with k v j w so_far = elim (cases_eq j k) [ inl is ↦ here is | inr other ↦ elsewhere other ]
    where
      untouched : bit w k ≡ bit v k
      untouched = so_far k ∙ ap (λ b. cond b (new_bit e v k) (bit v k)) (le-ltb k k (omega arith))

      here : j ≡ k → cond (eqb j k) (new_bit e w k) (bit w j) ≡ cond (ltb j (suc k)) (new_bit e v j) (bit v j)
      here is =
          ap (λ b. cond b (new_bit e w k) (bit w j)) (eq-eqb j k is)
          ∙ ap (λ b. cond (bit e.set k) true (cond (bit e.clear k) false b)) untouched
          ∙ ap (new_bit e v) (sym is)
          ∙ ap (λ b. cond b (new_bit e v j) (bit v j)) (sym (lt-ltb j (suc k) (omega arith)))

      same_test : (j ≡ k → ⊥) → ltb j k ≡ ltb j (suc k)
      same_test other =
          elim (cases_lt j k) [
            | inl l ↦ lt-ltb j k l ∙ sym (lt-ltb j (suc k) (omega arith))
            | inr l ↦ le-ltb j k l ∙ sym (le-ltb j (suc k) (omega arith))
          ]

      elsewhere : (j ≡ k → ⊥) → cond (eqb j k) (new_bit e w k) (bit w j) ≡ cond (ltb j (suc k)) (new_bit e v j) (bit v j)
      elsewhere other =
          ap (λ b. cond b (new_bit e w k) (bit w j)) (ne_eqb j k other)
          ∙ so_far j
          ∙ ap (λ b. cond b (new_bit e v j) (bit v j)) (same_test other)

  -- the features below k are new, the others as they were
  bit_with : (k v j : ℕ) → bit (with_features e k v) j ≡ cond (ltb j k) (new_bit e v j) (bit v j)
  bit_with zero v j = ap (λ b. cond b (new_bit e v j) (bit v j)) (sym (le-ltb j 0 (omega arith)))
  bit_with (suc k) v j =
      let w = with_features e k v in
      bit_put k (new_bit e w k) w j ∙ more_with k v j w (bit_with k v)

  -- with all n features it is the new valuation
  all_features : (n v : ℕ) → v < 2 ^ n → with_features e n v ≡ moved n e v
  all_features n v below =
      same_bits (with_features e n v) (moved n e v)
      (λ j. bit_with n v j
      ∙ elim (cases_lt j n) [
        | inl l ↦ ap (λ b. cond b (new_bit e v j) (bit v j)) (lt-ltb j n l) ∙ sym (bit_mask n (new_bit e v) j l)
        | inr l ↦
            ap (λ b. cond b (new_bit e v j) (bit v j)) (le-ltb j n l)
            ∙ bit_past n v j below l
            ∙ sym (bit_mask_past n (new_bit e v) j l)
      ])

  features_below : (n k v : ℕ) → k ≤ n → v < 2 ^ n → with_features e k v < 2 ^ n
  features_below n zero v h l = l
  features_below n (suc k) v h l =
      put_below k (new_bit e (with_features e k v) k) (with_features e k v) n (omega arith) (features_below n k v (omega arith) l)

  module _ (m : ℕ) (fits : m < 2 ^ 64) where
    -- no feature yet
    pub changed_none : image (with_features e 0) m 64 ≡ m
    changed_none = image_self (with_features e 0) m 64 (λ v t. (bit_below 64 m v fits t, refl))

    -- one feature more
    pub changed_more : (k : ℕ) → k < 6 → image (with_feature e k) (image (with_features e k) m 64) 64 ≡ image (with_features e (suc k)) m 64
    changed_more k h =
        image_twice (with_features e k) (with_feature e k) m 64
        (λ v t. let l = bit_below 64 m v fits t in (l, features_below 6 k v (omega arith) l))

    -- all features
    pub changed_all : (n : ℕ) → n ≤ 6 → Fit n m → image (with_features e n) m 64 ≡ image (moved n e) m (2 ^ n)
    changed_all n h inside =
        image_same (with_features e n) (moved n e) m 64 (2 ^ n)
        (λ v t. let l = bit_below (2 ^ n) m v inside t in (bit_below 64 m v fits t, l, all_features n v l))

    -- a feature that the event sets, clears or leaves
    pub sets_feature : (i : ℕ) → bit e.set i ≡ true → image (put i true) m 64 ≡ image (with_feature e i) m 64
    sets_feature i set =
        image_same (put i true) (with_feature e i) m 64 64
        (λ v t. let l = bit_below 64 m v fits t in (l, l, ap (λ b. put i (cond b true (cond (bit e.clear i) false (bit v i))) v) (sym set)))

    pub clears_feature : (i : ℕ) → bit e.set i ≡ false → bit e.clear i ≡ true → image (put i false) m 64 ≡ image (with_feature e i) m 64
    clears_feature i set clear =
        image_same (put i false) (with_feature e i) m 64 64
        (λ v t. let l = bit_below 64 m v fits t in (l, l, ap₂ (λ b k. put i (cond b true (cond k false (bit v i))) v) (sym set) (sym clear)))

    pub leaves_feature : (i : ℕ) → bit e.set i ≡ false → bit e.clear i ≡ false → m ≡ image (with_feature e i) m 64
    leaves_feature i set clear =
        sym (image_self (with_feature e i) m 64
        (λ v t. (bit_below 64 m v fits t, ap₂ (λ b k. put i (cond b true (cond k false (bit v i))) v) set clear ∙ put_same i (bit v i) v refl)))

-- `(v & !clear | set) & (2 ^ n - 1)`, at w bits, for one valuation
module _ (w n : ℕ) (e : Event) (set clear v : ℕ) (few : n ≤ w) (narrow : clear < 2 ^ w) (sets : (i : ℕ) → i < n → bit e.set i ≡ bit set i) (clears : (i : ℕ) → i < n → bit e.clear i ≡ bit clear i) where
  abbrev whole : ℕ
  whole = bit_or (bit_and v ((2 ^ w - 1) - clear)) set

  by_value : (s k b : Bool) → ((b && not k) || s) ≡ cond s true (cond k false b)
  by_value true true true = refl
  by_value true true false = refl
  by_value true false true = refl
  by_value true false false = refl
  by_value false true true = refl
  by_value false true false = refl
  by_value false false true = refl
  by_value false false false = refl

  listed : (i : ℕ) → i < n → bit whole i ≡ new_bit e v i
  listed i l =
      bit_of_or (bit_and v ((2 ^ w - 1) - clear)) set i
      ∙ ap₂ ◌||◌ (bit_of_and v ((2 ^ w - 1) - clear) i ∙ ap (λ b. bit v i && b) (bit_complement w clear i narrow (omega arith) ∙ ap not (sym (clears i l)))) (sym (sets i l))
      ∙ by_value (bit e.set i) (bit e.clear i) (bit v i)

  pub moved_masked : bit_and whole (2 ^ n - 1) ≡ moved n e v
  moved_masked =
      and_mask whole n
      ∙ same_bits (whole % 2 ^ n) (moved n e v)
      (λ i. elim (cases_lt i n) [
        | inl l ↦ bit_cut whole n i l ∙ listed i l ∙ sym (bit_mask n (new_bit e v) i l)
        | inr l ↦ bit_past n (whole % 2 ^ n) i (mod_below whole (2 ^ n) (pow_pos n)) l ∙ sym (bit_mask_past n (new_bit e v) i l)
      ])
