-- What the two kinds of unit do to any session. Assumes nothing.
use Rattle.std.proofs.Common.{◌≡◌, ℕ, suc, ◌+◌, ◌-◌, ◌/◌, ◌%◌, ◌<◌, ◌≤◌, Bool, cond, eqb, Some, None, sym, ap, ◌∙◌, subst, ap₂, mod-lt, add-one, arith}
use Rattle.std.specs.List.{slice_get}
use Rattle.session.specs.declared.plain.Row.{Row}
use Rattle.session.specs.declared.plain.Standing.{Standing}
use Rattle.session.specs.declared.plain.Standing.TheVariants.{Working, Full}
use Rattle.planning.specs.Meaning.{Meaning, Lawful}
use Rattle.planning.specs.Finding.{outcomes_from}
use Rattle.session.specs.Views.{View}
use Rattle.session.specs.Calls.{Stands}
use Rattle.session.specs.Joins.{Joins}
use Rattle.session.specs.Judging.{visited}
use Rattle.session.specs.Units.{outlook, Moves}
use Rattle.session.proofs.Joining.{keeps_same}
use Rattle.planning.proofs.Lists.{place_past}
use Rattle.session.proofs.Standings.{Sweeping, expands, sweeps}
use Rattle.session.proofs.Steps.{after, ready, moved, keeps_moved, keeps_visit, expand_stands, small, turns, turn, visit_stands}

module _ {S : Type 0} (m : Meaning S) (v : View S) where
  abbrev units : ℕ
  units = v.plain.progress.units

  abbrev count : ℕ
  count = v.plain.listed

  pub expand_none : slice_get v.states units ≡ None → Moves m (units < count) v v
  expand_none e =
      record {
        stands = λ u h w l.
            let x = expands m u v h w l in
            let o = x.reach u (omega arith) in
            absurd (omega (arith, place_past v.states units e, x.units_are, x.lists.count, x.lists.fits));
        keeps = keeps_same v;
      }

  pub expand_moves : (w : View S) (s : S) (fits : Bool) (st : Standing) → slice_get v.states units ≡ Some s → Joins m (outcomes_from m s 0 m.acts) v fits w → st ≡ cond fits Working (Full (units + 1)) → Moves m (units < count) v (moved w st (units + 1))
  expand_moves w s fits st at j is =
      record {
        stands = λ u h o l.
            let x = expands m u v h o l in
            let e : units ≡ u = x.units_are in
            let k : units + 1 ≡ suc u = ap (λ i. i + 1) e ∙ add-one u in
            let d = expand_stands m u v w s fits x (ap (slice_get v.states) (sym e) ∙ at) j in
            let f : moved w st (units + 1) ≡ moved w (cond fits Working (Full (suc u))) (suc u) = ap (λ y. moved w y (units + 1)) is ∙ ap (λ i. moved w (cond fits Working (Full i)) i) k in
            subst (λ i. Stands m i (moved w st (units + 1))) (sym (add-one u)) (subst (Stands m (suc u)) (sym f) d);
        keeps = keeps_moved v w st (units + 1) j.keeps;
      }

module _ {S : Type 0} (m : Meaning S) (law : Lawful m) (v : View S) where
  -- what a session that works by its own book never comes to
  never : ((u r : ℕ) → Sweeping m u r v → ⊥) → Moves m (count m v ≤ units m v) v v
  never f = record { stands = λ u h w l. let x = sweeps m u v h w l in absurd (f u x.0 x.1); keeps = keeps_same v }

  pub visit_empty : count m v ≡ 0 → Moves m (count m v ≤ units m v) v v
  visit_empty e = never (λ u r x. omega (arith, x.listed_are, ready m law v u r x))

  pub visit_last : units m v ≡ 4294967295 → Moves m (count m v ≤ units m v) v v
  visit_last e = never (λ u r x. omega (arith, x.units_are, small m law v u r x))

  pub visit_deep : 65535 < units m v / count m v → Moves m (count m v ≤ units m v) v v
  visit_deep h = never (λ u r x. let e : units m v / count m v ≡ u / r = ap₂ ◌/◌ x.units_are x.listed_are in omega (arith, turns m law v u r x))

  module _ (w : View S) (i j : ℕ) (st : Standing) (some : 0 < count m v) (i-is : i ≡ units m v % count m v) (j-is : j ≡ units m v / count m v)
      (states : w.states ≡ v.states) (rows : w.rows ≡ visited m v i j) (plain : w.plain ≡ v.plain) (is : st ≡ outlook w j (eqb ((units m v + 1) % count m v) 0)) where
    visit_after : (u r : ℕ) → Sweeping m u r v → Stands m (u + 1) (moved w st (units m v + 1))
    visit_after u r x =
        let e = x.units_are in
        let f = x.listed_are in
        let a : i ≡ u % r = i-is ∙ ap₂ ◌%◌ e f in
        let b : j ≡ suc (u / r - 1) = j-is ∙ ap₂ ◌/◌ e f ∙ turn m law v u r x in
        let z = after m law v u r x in
        let y : w ≡ z =
        ap (λ q. record { states = q; rows = w.rows; plain = w.plain }) states
        ∙ ap (λ q. record { states = v.states; rows = q; plain = w.plain }) (rows ∙ ap₂ (visited m v) a b)
        ∙ ap (λ q. record { states = v.states; rows = visited m v (u % r) (suc (u / r - 1)); plain = q }) plain in
        let k : units m v + 1 ≡ u + 1 = ap (λ q. q + 1) e in
        let g : eqb ((units m v + 1) % count m v) 0 ≡ eqb ((u + 1) % r) 0 = ap (λ q. eqb q 0) (ap₂ ◌%◌ k f) in
        let o : st ≡ outlook z (suc (u / r - 1)) (eqb ((u + 1) % r) 0) =
        is ∙ ap (λ q. outlook q j (eqb ((units m v + 1) % count m v) 0)) y ∙ ap₂ (outlook z) b g in
        let q : moved w st (units m v + 1) ≡ moved z (outlook z (suc (u / r - 1)) (eqb ((u + 1) % r) 0)) (u + 1) =
        ap (λ p. moved p st (units m v + 1)) y ∙ ap₂ (moved z) o k in
        subst (Stands m (u + 1)) (sym q) (visit_stands m law v u r x)

    pub visit_moves : Row → Moves m (count m v ≤ units m v) v (moved w st (units m v + 1))
    visit_moves d =
        record {
          stands = λ u h o l. let x = sweeps m u v h o l in visit_after u x.0 x.1;
          keeps = keeps_moved v w st (units m v + 1) (keeps_visit m v w i j (let q = mod-lt (units m v) some in omega arith) states rows plain d);
        }
