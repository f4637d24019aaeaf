-- Unit after unit, and a fresh session. Assumes nothing.
use Rattle.std.proofs.Common.{◌≡◌, ℕ, ◌+◌, ◌-◌, ◌<◌, ◌≤◌, min, true, false, List, [], ◌∷◌, length, set, None, sym, refl, ap, ◌∙◌, subst, arith}
use Rattle.session.specs.declared.plain.Row.{Row}
use Rattle.session.specs.declared.plain.Standing.{Standing}
use Rattle.session.specs.declared.plain.Standing.TheVariants.{Working, NoPlan, Found, Full}
use Rattle.session.specs.declared.plain.Record.{Record}
use Rattle.std.proofs.lemmas.List.{length-set, drop-set-lt, take_more_set}
use Rattle.planning.specs.Meaning.{Meaning}
use Rattle.session.specs.ClosedForm.{row_by, rows_from, progress}
use Rattle.session.specs.Views.{View, places}
use Rattle.session.specs.Calls.{Stands, Worked, Made}
use Rattle.session.specs.Joins.{Keeps}
use Rattle.session.specs.Units.{Moves, works_at}
use Rattle.session.proofs.Joining.{same_places, keeps_on}
use Rattle.session.proofs.Phases.{working, full_after, Open, Reach, when_open}
use Rattle.session.proofs.Standings.{stands_from, decided, known_open}

pub works_true : (st : Standing) → works_at st ≡ true → st ≡ Working
works_true Working e = refl
works_true NoPlan e = absurd (let z : ◌≡◌ {A = ℕ} 0 1 = cc in omega arith)
works_true (Found d) e = absurd (let z : ◌≡◌ {A = ℕ} 0 1 = cc in omega arith)
works_true (Full k) e = absurd (let z : ◌≡◌ {A = ℕ} 0 1 = cc in omega arith)

pub works_false : (st : Standing) → works_at st ≡ false → st ≡ Working → ⊥
works_false st e f = let g = ap works_at f in let z : ◌≡◌ {A = ℕ} 0 1 = cc in omega arith

module _ {S : Type 0} (m : Meaning S) where
  -- d units have been done
  pub record Went (d : ℕ) (v v' : View S) : Type 0 where
    pub stands : (u : ℕ) → Stands m u v → Stands m (u + d) v'
    pub keeps : Keeps v v'

  pub went_more : (d : ℕ) (v w x : View S) → Went d v w → w.plain.progress.standing ≡ Working → Moves m (Unit {0}) w x → Went (d + 1) v x
  went_more d v w x a o b =
      record {
        stands = λ u h. let e : (u + d) + 1 ≡ u + (d + 1) = omega arith in subst (λ k. Stands m k x) e (b.stands (u + d) (a.stands u h) o tt);
        keeps = keeps_on v w x a.keeps b.keeps;
      }

  pub went_idle : (d q : ℕ) (v w : View S) → d ≤ q → Went d v w → (w.plain.progress.standing ≡ Working → ⊥) → Went q v w
  went_idle d q v w l a o =
      record {
        stands = λ u h. let e : (u + d) + (q - d) ≡ u + q = omega arith in subst (λ k. Stands m k w) e (decided m (u + d) (q - d) w (a.stands u h) o);
        keeps = a.keeps;
      }

  pub worked : (q : ℕ) (v w : View S) → Went q v w → Worked m q v w.plain.progress w
  worked q v w a =
      let e = same_places w.plain.listed v w a.keeps.rest in
      record {
        answer = λ u h. (a.stands u h).progress_is ∙ ap (λ n. progress m n (u + q)) e;
        stands = a.stands;
        walk = a.keeps.walk;
        told = refl;
        grows = a.keeps.grows;
        rest = a.keeps.rest;
      }

  -- a session that has just been made, without a place and with one
  pub made_empty : (ss : List S) (rs : List Row) (p : Record) → min (length ss) (length rs) ≡ 0 → p ≡ record { listed = 0; progress = full_after 0; walk = None } → Made m ss rs (record { states = ss; rows = rs; plain = p })
  made_empty ss rs p e q = subst (λ x. Made m ss rs (record { states = ss; rows = rs; plain = x })) (sym q) made
    where
      v : View S
      v = record { states = ss; rows = rs; plain = record { listed = 0; progress = full_after 0; walk = None } }

      made : Made m ss rs v
      made =
          record {
            stands = stands_from m 0 0 [] v (record { places_are = omega arith; known_are = refl; progress_is = refl; listed_is = refl; states_are = refl; rows_are = refl; walk_is = tt });
            no_walk = refl;
            rest = record { states_length = refl; rows_length = refl; unused_states = refl; unused_rows = refl };
          }

  module _ (ss : List S) (rs : List Row) (some : 0 < min (length ss) (length rs)) where
    abbrev begun : View S
    begun = record { states = set ss 0 m.start; rows = set rs 0 (row_by m 0 m.start); plain = record { listed = 1; progress = working 0; walk = None } }

    begun_stands : Stands m 0 begun
    begun_stands =
        let n = places begun in
        let large : 0 < n = simp length-set (omega arith) in
        let reach : Reach m n 1 = λ i h. let z : i ≡ 0 = omega arith in subst (λ k. Open m n k) (sym z) (record { fits = omega arith; more = omega arith }) in
        stands_from m n 0 (m.start ∷ []) begun
        (record {
          places_are = refl;
          known_are = known_open m n 0 reach;
          progress_is = sym (when_open m n 0 reach);
          listed_is = refl;
          states_are = take_more_set ss 0 m.start (omega arith);
          rows_are = take_more_set rs 0 (row_by m 0 m.start) (omega arith) ∙ sym (ap (λ w. rows_from m 1 w.units 0 (m.start ∷ [])) (when_open m n 0 reach));
          walk_is = tt;
        })

    begun_made : Made m ss rs begun
    begun_made =
        record {
          stands = begun_stands;
          no_walk = refl;
          rest =
              record {
                states_length = length-set ss 0 m.start;
                rows_length = length-set rs 0 (row_by m 0 m.start);
                unused_states = drop-set-lt 1 ss 0 m.start (omega arith);
                unused_rows = drop-set-lt 1 rs 0 (row_by m 0 m.start) (omega arith);
              };
        }

    pub made_start : (s : S) (row : Row) (p : Record) → s ≡ m.start → row ≡ row_by m 0 s → p ≡ record { listed = 1; progress = working 0; walk = None } → Made m ss rs (record { states = set ss 0 s; rows = set rs 0 row; plain = p })
    made_start s row p e f q =
        let whole : record { states = set ss 0 s; rows = set rs 0 row; plain = p } ≡ begun =
        ap (λ x. record { states = set ss 0 x; rows = set rs 0 row; plain = p }) e
        ∙ ap (λ x. record { states = set ss 0 m.start; rows = set rs 0 x; plain = p }) (f ∙ ap (row_by m 0) e)
        ∙ ap (λ x. record { states = set ss 0 m.start; rows = set rs 0 (row_by m 0 m.start); plain = x }) q in
        subst (Made m ss rs) (sym whole) begun_made
