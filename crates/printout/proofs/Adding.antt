-- Adding lines to a text. Assumes nothing.
use Rattle.std.proofs.Common.{◌≡◌, ℕ, suc, ◌+◌, ◌≤◌, List, ◌++◌, length, take, IfOk, sym, ap, ◌∙◌, add-one, arith}
use Rattle.planning.specs.Meaning.{Meaning}
use Rattle.session.specs.ClosedForm.{known}
use Rattle.session.specs.Views.{View, places}
use Rattle.session.specs.Calls.{Stands, Made, Worked}
use Rattle.session.specs.declared.plain.Row.{Row}
use Rattle.session.specs.declared.plain.Progress.{Progress}
use Rattle.session.proofs.Asking.{states_known}
use Rattle.session.proofs.Joining.{same_places}
use Rattle.lines.specs.Words.{line_text}
use Rattle.printout.specs.Plans.{first_lines, all_lines, plan_text}

module _ {S : Type 0} (m : Meaning S) (v : View S) (u : ℕ) where
  -- one line more
  pub next_lines : (text new : List ℕ) (i : ℕ) → new ≡ text ++ line_text m (places v) u i → text ≡ first_lines m (places v) u i → new ≡ first_lines m (places v) u (i + 1)
  next_lines text new i e f = e ∙ ap (λ xs. xs ++ line_text m (places v) u i) f ∙ ap (first_lines m (places v) u) (sym (add-one i))

  -- as many lines as there are states, and one
  pub whole_text : Stands m u v → (text : List ℕ) (ss : List S) (i : ℕ) → ss ≡ take v.plain.listed v.states → length ss ≤ i → i ≤ length ss → text ≡ first_lines m (places v) u (i + 1) → text ≡ all_lines m (places v) u
  whole_text h text ss i is low high e =
      let k : i + 1 ≡ suc (length (known m (places v) u)) = let f = ap length (is ∙ states_known m v u h) in omega arith in
      e ∙ ap (first_lines m (places v) u) k

-- a session over lists of 4,096 places that has worked for all units
pub planned : {S : Type 0} (m : Meaning S) (ss : List S) (rs : List Row) (v w : View S) (r : Progress) → length ss ≡ 4096 → length rs ≡ 4096 → Made m ss rs v → Worked m 4294967295 v r w → (t : List ℕ) → ((u : ℕ) → Stands m u w → t ≡ all_lines m (places w) u) → t ≡ plan_text m
unfolding plan_text
planned m ss rs v w r a b IfOk worked t h =
    let x = same_places v.plain.listed (record { states = ss; rows = rs; plain = v.plain }) v IfOk.rest in
    let y = same_places w.plain.listed v w worked.rest in
    let n : places w ≡ 4096 = omega arith in
    h 4294967295 (worked.stands 0 IfOk.stands) ∙ ap (λ n. all_lines m n 4294967295) n
