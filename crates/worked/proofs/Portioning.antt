-- The example worked on in portions, and in few places. Assumes nothing.
use Rattle.std.proofs.Common.{◌≡◌, ℕ, zero, suc, ◌<◌, ◌≤◌, length, refl, ◌∙◌, arith}
use Rattle.planning.specs.Finding.{found, Final}
use Rattle.session.specs.declared.plain.Standing.TheVariants.{Working, Found, Full}
use Rattle.session.specs.ClosedForm.{progress, settle}
use Rattle.session.specs.Views.{places}
use Rattle.session.proofs.Phases.{when_final, settle_done}
use Rattle.session.proofs.Settling.{reach_final}
use Rattle.session.proofs.Course.{course}
use Rattle.session.proofs.Joining.{same_places}
use Rattle.epistemic.specs.Bits.{mask, image}
use Rattle.knowledge.specs.Laws.{book_lawful}
use Rattle.sheets.specs.Reading.{parts_at}
use Rattle.worked.specs.Patches.{example}
use Rattle.worked.specs.Worked.{patch, at_unit, Places, Portions}

four_states : Final patch 4
unfolding mask image
four_states = refl

early : settle patch 15 4 ≡ at_unit Working 15
unfolding mask image
early = refl

-- after any 16 units or more
late : (u : ℕ) → 16 ≤ u → settle patch u 4 ≡ at_unit (Found 2) 16
unfolding mask image
late u h = settle_done patch u 4 h

settles : (n u : ℕ) → 4 ≤ n → progress patch n u ≡ settle patch u 4
settles n u h = when_final patch n u 4 (reach_final patch n 4 four_states h) four_states

fits : (n u : ℕ) → 4 ≤ n → 16 ≤ u → progress patch n u ≡ at_unit (Found 2) 16
fits n u h l = settles n u h ∙ late u l

-- the list's length once no place, one and two are expanded
lengths : (length (found patch 0) ≡ 1) × ((length (found patch 1) ≡ 3) × (length (found patch 2) ≡ 4))
unfolding mask image
lengths = (refl, (refl, refl))

-- full from the unit on in which there is no place for a state
full : (n f u : ℕ) → n < length (found patch f) → ((k : ℕ) → k < f → length (found patch k) ≤ n) → f ≤ u → progress patch n u ≡ at_unit (Full f) f
full n f u more enough h = ((course patch (book_lawful (parts_at example))).full n f u more enough h).stands

full_at_three : (u : ℕ) → 2 ≤ u → progress patch 3 u ≡ at_unit (Full 2) 2
full_at_three u h = full 3 2 u (omega (arith, lengths)) enough h
  where
    enough : (k : ℕ) → k < 2 → length (found patch k) ≤ 3
    enough zero l = omega (arith, lengths)
    enough (suc zero) l = omega (arith, lengths)
    enough (suc (suc k)) l = omega arith

full_at_two : (u : ℕ) → 1 ≤ u → progress patch 2 u ≡ at_unit (Full 1) 1
full_at_two u h = full 2 1 u (omega (arith, lengths)) enough h
  where
    enough : (k : ℕ) → k < 1 → length (found patch k) ≤ 2
    enough zero l = omega (arith, lengths)
    enough (suc k) l = omega arith

full_at_none : (u : ℕ) → progress patch 0 u ≡ at_unit (Full 0) 0
full_at_none u = full 0 0 u (omega (arith, lengths)) (λ k l. omega arith) (omega arith)

three_places : progress patch 3 1 ≡ at_unit Working 1
unfolding mask image
three_places = refl

two_places : progress patch 2 0 ≡ at_unit Working 0
unfolding mask image
two_places = refl

pub in_places : Places
in_places =
    record {
      read = refl;
      four_states = four_states;
      fits = fits;
      three_places = three_places;
      full_at_three = full_at_three;
      two_places = two_places;
      full_at_two = full_at_two;
      full_at_none = full_at_none;
    }

pub in_portions : Portions
in_portions states rows v w x y p q r made h first second third =
    let fresh = made.stands in
    let one = first.stands 0 fresh in
    let two = second.stands 15 one in
    let same_w = same_places w.plain.listed v w first.rest in
    let same-x = same_places x.plain.listed w x second.rest in
    (first.answer 0 fresh ∙ (settles (places v) 15 h ∙ early), (second.answer 15 one ∙ (settles (places w) 15 (omega (arith, same_w)) ∙ early), third.answer 15 two ∙ fits (places x) 16 (omega (arith, same_w, same-x)) (omega arith)))
