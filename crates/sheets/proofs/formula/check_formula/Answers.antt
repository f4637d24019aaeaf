use Rattle.std.proofs.Common.{◌≡◌, ℕ, ◌<◌, ◌≤◌, List, length, Some, None, Err, Result, sym, ap, ◌∙◌, arith}
use Rattle.std.proofs.lemmas.Result.{err_from_is_err_and}
use Rattle.std.specs.Option.{ok_or}
use Rattle.std.proofs.lemmas.Grind.{common_steps}
use Rattle.sheets.specs.declared.fault.FormulaFault.{FormulaFault}
use Rattle.sheets.specs.declared.fault.FormulaFault.TheVariants.{Wrong}
use Rattle.sheets.specs.Signs.{arity_over}
use Rattle.sheets.specs.Checks.{checked, Accepts, ToldFirst}
use Rattle.sheets.proofs.Checking.{arity_most, check_turn, check_wrong, checked_short}
use Rattle.sheets.proofs.Polish.{check_accepts, check_told}
use Rattle.sheets.proofs.formula.check_formula.Goals as goal

-- all that is promised of an answer follows from the equation
right : (n : ℕ) (bs : List ℕ) (r : Result (Unit {0}) FormulaFault) → r ≡ checked n bs → record { answer : r ≡ checked n bs; grammar : n ≤ 26 → Accepts n bs r; place : n ≤ 26 → ToldFirst n bs r }
right n bs r e = record { answer = e; grammar = check_accepts n bs r e; place = check_told n bs r e }

pub returns-then-owed-eq0 : goal.returns-then-owed-eq0
returns-then-owed-eq0 c = right c.args.letters c.args.text.now _ (grind (arith, common_steps))

pub loop-place-preserved : goal.loop-place-preserved
loop-place-preserved c =
    let h = c.in-Some.ensures.steps in
    let a : arity_over c.args.letters c.in-Some.sign.now ≡ Some c.in_ok-own.own = ap (arity_over c.args.letters) (sym c.from.ensures) ∙ sym c.arity_over.ensures ∙ c.in_ok-own.ensures.ok_part in
    let most = arity_most c.args.letters c.in-Some.sign.now c.in_ok-own.own a in
    let z : 0 < c.loop-place.owed = omega arith in
    record {
      can = (tt, tt);
      ends = tt;
      same = check_turn c.args.letters _ _ c.loop-place.owed c.in_ok-own.own c.in-Some.sign.now _ _ h.1 h.0.1.2 z a ∙ c.loop-place.invariant.same;
      small = omega arith;
      end = h.0.0 ∙ c.loop-place.invariant.end;
      short = c.loop-place.invariant.short;
      whole = omega (arith, ap length h.1);
    }

pub returns-in_err-own : goal.returns-in_err-own
returns-in_err-own c =
    let h = c.in-Some.ensures.steps in
    let n = c.args.letters in
    let place = c.in-Some.place in
    let p = err_from_is_err_and c.from_residual.result c.from_residual.ensures.1 in
    let a : arity_over n c.in-Some.sign.now ≡ None = ap (arity_over n) (sym c.from.ensures) ∙ sym c.arity_over.ensures ∙ c.in_err-own.ensures.ok_part in
    let z : 0 < c.loop-place.owed = omega arith in
    let e = c.in_err-own.ensures.value ∙ ap (λ o. ok_or o (Wrong place)) c.in_err-own.ensures.ok_part in
    let t : c.in_err-own.field-0.0 ≡ Wrong place = cc in
    let w = check_wrong n _ c.loop-place.owed c.in-Some.sign.now _ _ h.1 z a in
    right n c.args.text.now _ (p.1 ∙ ap Err (p.2 ∙ t) ∙ ap (λ i. Err (Wrong i)) h.0.1.1 ∙ sym w ∙ c.loop-place.invariant.same ∙ sym (checked_short n c.args.text.now c.loop-place.invariant.short))

pub returns-then-owed-gt0 : goal.returns-then-owed-gt0
returns-then-owed-gt0 c = right c.args.letters c.args.text.now _ (grind (arith, common_steps))

pub returns : goal.returns
returns c = right c.args.letters c.args.text.now _ (grind (arith, common_steps))
