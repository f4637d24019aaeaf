-- Work in portions is work in one. Assumes nothing.
use Rattle.std.proofs.Common.{◌≡◌, ℕ, ◌+◌, List, ◌++◌, length, take, drop, sym, ap, ◌∙◌, subst, ap₂, arith}
use Rattle.std.proofs.lemmas.List.{take-append-drop}
use Rattle.planning.specs.Meaning.{Meaning}
use Rattle.session.specs.declared.plain.Progress.{Progress}
use Rattle.session.specs.ClosedForm.{progress, known, known_rows}
use Rattle.session.specs.Views.{View, places}
use Rattle.session.specs.Calls.{Stands, Worked}
use Rattle.session.specs.Joins.{Keeps}
use Rattle.session.specs.Course.{Portioned, none_left, one_more, all_of, Portions}
use Rattle.session.proofs.Joining.{same_places, keeps_same, keeps_on}

-- a list is its parts
parts_are : {X : Type 0} (k : ℕ) (xs ys : List X) → take k xs ≡ take k ys → drop k xs ≡ drop k ys → xs ≡ ys
parts_are k xs ys a b = sym (take-append-drop k xs) ∙ ap₂ ◌++◌ a b ∙ take-append-drop k ys

module _ {S : Type 0} (m : Meaning S) where
  worked_keeps : (q : ℕ) (v w : View S) (r : Progress) → Worked m q v r w → Keeps v w
  worked_keeps q v w r a = record { walk = a.walk; grows = a.grows; rest = a.rest }

  -- what calls have made of one session, where each has asked for as many units, is one session
  module _ (u : ℕ) (v x y : View S) (a : Keeps v x) (b : Keeps v y) (h : Stands m u x) (k : Stands m u y) where
    places_are : places x ≡ places y
    places_are = same_places x.plain.listed v x a.rest ∙ sym (same_places y.plain.listed v y b.rest)

    known_are : known m (places x) u ≡ known m (places y) u
    known_are = ap (λ n. known m n u) places_are

    listed_are : x.plain.listed ≡ y.plain.listed
    listed_are = h.listed_is ∙ ap length known_are ∙ sym k.listed_is

    unused : {X : Type 0} (xs ys zs : List X) → drop x.plain.listed xs ≡ drop x.plain.listed zs → drop y.plain.listed ys ≡ drop y.plain.listed zs → drop x.plain.listed xs ≡ drop x.plain.listed ys
    unused xs ys zs p q = p ∙ ap (λ i. drop i zs) listed_are ∙ sym q ∙ ap (λ i. drop i ys) (sym listed_are)

    used : {X : Type 0} (xs ys us ws : List X) → take (length (known m (places x) u)) xs ≡ us → take (length (known m (places y) u)) ys ≡ ws → us ≡ ws → take x.plain.listed xs ≡ take x.plain.listed ys
    used xs ys us ws p q e = ap (λ i. take i xs) h.listed_is ∙ p ∙ e ∙ sym q ∙ ap (λ i. take i ys) (sym k.listed_is ∙ sym listed_are)

    states_are : x.states ≡ y.states
    states_are =
        parts_are x.plain.listed x.states y.states (used x.states y.states (known m (places x) u) (known m (places y) u) h.states_are k.states_are known_are)
        (unused x.states y.states v.states a.rest.unused_states b.rest.unused_states)

    rows_are : x.rows ≡ y.rows
    rows_are =
        parts_are x.plain.listed x.rows y.rows (used x.rows y.rows (known_rows m (places x) u) (known_rows m (places y) u) h.rows_are k.rows_are (ap (λ n. known_rows m n u) places_are))
        (unused x.rows y.rows v.rows a.rest.unused_rows b.rest.unused_rows)

    one_session : x ≡ y
    one_session =
        let p : x.plain.progress ≡ y.plain.progress = h.progress_is ∙ ap (λ n. progress m n u) places_are ∙ sym k.progress_is in
        let w : x.plain.walk ≡ y.plain.walk = a.walk ∙ sym b.walk in
        ap₂ (λ i j. record { states = i; rows = j; plain = x.plain }) states_are rows_are
        ∙ ap (λ i. record { states = y.states; rows = y.rows; plain = record { listed = i; progress = x.plain.progress; walk = x.plain.walk } }) listed_are
        ∙ ap₂ (λ i j. record { states = y.states; rows = y.rows; plain = record { listed = y.plain.listed; progress = i; walk = j } }) p w

  portioned_keeps : {v x : View S} {qs : List ℕ} → Portioned m v qs x → Keeps v x
  portioned_keeps {v} none_left = keeps_same v
  portioned_keeps {v} {x} (one_more {w = w} {q = q} r a p) = keeps_on v w x (worked_keeps q v w r a) (portioned_keeps p)

  portioned_stands : {v x : View S} {qs : List ℕ} (u : ℕ) → Stands m u v → Portioned m v qs x → Stands m (u + all_of m qs) x
  portioned_stands {x} u h none_left = let e : u ≡ u + 0 = omega arith in subst (λ i. Stands m i x) e h
  portioned_stands {x} u h (one_more {q = q} {qs = qs} r a p) =
      let e : (u + q) + all_of m qs ≡ u + (q + all_of m qs) = omega arith in
      subst (λ i. Stands m i x) e (portioned_stands (u + q) (a.stands u h) p)

  pub portions : Portions m
  portions u qs v x y r h p a = one_session (u + all_of m qs) v x y (portioned_keeps p) (worked_keeps (all_of m qs) v y r a) (portioned_stands u h p) (a.stands u h)
