-- What a session that stands tells of a state's row. Assumes nothing.
use Rattle.std.proofs.Common.{◌≡◌, ℕ, ◌+◌, ◌<◌, length, take, Some, None, Ok, Option, Result, sym, refl, ap, ◌∙◌, ap₂, arith}
use Rattle.std.specs.List.{slice_get}
use Rattle.std.specs.Option.{ok_or}
use Rattle.std.proofs.lemmas.Option.{slice_get_within}
use Rattle.planning.specs.Meaning.{Meaning}
use Rattle.planning.specs.Finding.{place_of}
use Rattle.planning.proofs.Seen.{placed}
use Rattle.session.specs.declared.plain.Row.{Row}
use Rattle.session.specs.declared.plain.Standing.{Standing}
use Rattle.session.specs.declared.plain.Standing.TheVariants.{Working, NoPlan, Found, Full}
use Rattle.session.specs.declared.stops.AskStop.{AskStop}
use Rattle.session.specs.ClosedForm.{known, known_rows}
use Rattle.session.specs.Views.{View, places, row_at, row_told}
use Rattle.session.specs.Calls.{Stands, row_of, conclusion, ask_answer, Asked}
use Rattle.planning.proofs.Lists.{nth_take}

module _ {S : Type 0} (m : Meaning S) (v : View S) (u : ℕ) (h : Stands m u v) where
  pub states_known : take v.plain.listed v.states ≡ known m (places v) u
  states_known = ap (λ k. take k v.states) h.listed_is ∙ h.states_are

  pub row_known : (p : ℕ) → p < length (known m (places v) u) → slice_get v.rows p ≡ slice_get (known_rows m (places v) u) p
  row_known p l = sym (nth_take (length (known m (places v) u)) v.rows p l) ∙ ap (λ rs. slice_get rs p) h.rows_are

  pub told_known : (s : S) → row_told m v s ≡ row_of m (places v) u s
  told_known s = ap (λ ts. row_at v.rows (place_of m ts s)) states_known ∙ go (place_of m (known m (places v) u) s) refl
    where
      go : (o : Option ℕ) → place_of m (known m (places v) u) s ≡ o → row_at v.rows o ≡ row_at (known_rows m (places v) u) o
      go None e = refl
      go (Some p) e =
          let w = placed m s 0 (known m (places v) u) p e in
          let q = w.is in
          let z : 0 + w.place ≡ p = cc in
          row_known p (omega (arith, slice_get_within (known m (places v) u) w.place w.state w.at))

-- a search that has gone to its end has a row to tell, or none
pub ask_concluded : (st : Standing) (row : Option Row) → conclusion st ≡ Ok tt → ok_or row AskStop.Unlisted ≡ ask_answer st row
ask_concluded Working row e = absurd (let z : ◌≡◌ {A = ℕ} 0 1 = cc in omega arith)
ask_concluded (Full f) row e = absurd (let z : ◌≡◌ {A = ℕ} 0 1 = cc in omega arith)
ask_concluded NoPlan None e = refl
ask_concluded NoPlan (Some r) e = refl
ask_concluded (Found d) None e = refl
ask_concluded (Found d) (Some r) e = refl

pub asked : {S : Type 0} (m : Meaning S) (s : S) (v : View S) (r : Result Row AskStop) → r ≡ ask_answer v.plain.progress.standing (row_told m v s) → Asked m s v r v
asked m s v r e = record { answer = λ u h. e ∙ ap₂ ask_answer (ap (λ p. p.standing) h.progress_is) (told_known m v u h s); session = refl }
