-- From bytes to lines, by computing. Assumes nothing.
use Rattle.std.proofs.Common.{◌≡◌, ℕ, true, List, [], ◌∷◌, ◌++◌, codes, decimal, refl, ap, ◌∙◌}
use Rattle.epistemic.specs.Bits.{mask, image}
use Rattle.lines.specs.Words.{sentence}
use Rattle.tables.specs.Books.{table_meaning}
use Rattle.printout.specs.Plans.{plan_text}
use Rattle.printout.specs.Printouts.{printed, accepts}
use Rattle.worked.specs.Patches.{example, half_look, mended, without_look}
use Rattle.worked.specs.Worked.{slip}
use Rattle.worked.proofs.Figures.{decimal_figures}

-- the lines of the example, with numbers as d writes them
abbrev example_text : (ℕ → List ℕ) → List ℕ
example_text d =
    sentence (codes "found" ∷ d 2 ∷ d 4 ∷ d 16 ∷ [])
    ++ sentence (d 0 ∷ d 2 ∷ d 0 ∷ d 1 ∷ d 2 ∷ [])
    ++ sentence (d 1 ∷ d 1 ∷ d 1 ∷ d 3 ∷ [])
    ++ sentence (d 2 ∷ d 1 ∷ d 2 ∷ d 3 ∷ [])
    ++ sentence (d 3 ∷ d 0 ∷ codes "-" ∷ [])

example_said : printed example ≡ example_text decimal
unfolding mask image printed plan_text
example_said = refl

pub example_lines : printed example ≡ codes "found 2 4 16\n0 2 0 1 2\n1 1 1 3\n2 1 2 3\n3 0 -\n"
example_lines = example_said ∙ ap example_text decimal_figures

pub example_accepted : accepts example ≡ true
unfolding accepts
example_accepted = refl

abbrev nothing_text : (ℕ → List ℕ) → List ℕ
nothing_text d = sentence (codes "none" ∷ d 1 ∷ d 2 ∷ []) ++ sentence (d 0 ∷ codes "-" ∷ codes "-" ∷ [])

half_look_said : printed half_look ≡ nothing_text decimal
unfolding mask image printed plan_text
half_look_said = refl

without_look_said : printed without_look ≡ nothing_text decimal
unfolding mask image printed plan_text
without_look_said = refl

pub half_look_lines : printed half_look ≡ codes "none 1 2\n0 - -\n"
half_look_lines = half_look_said ∙ ap nothing_text decimal_figures

pub without_look_lines : printed without_look ≡ codes "none 1 2\n0 - -\n"
without_look_lines = without_look_said ∙ ap nothing_text decimal_figures

abbrev mended_text : (ℕ → List ℕ) → List ℕ
mended_text d = sentence (codes "found" ∷ d 0 ∷ d 1 ∷ d 2 ∷ []) ++ sentence (d 0 ∷ d 0 ∷ codes "-" ∷ [])

mended_said : printed mended ≡ mended_text decimal
unfolding mask image printed plan_text
mended_said = refl

pub mended_lines : printed mended ≡ codes "found 0 1 2\n0 0 -\n"
mended_lines = mended_said ∙ ap mended_text decimal_figures

abbrev slip_text : (ℕ → List ℕ) → List ℕ
slip_text d = sentence (codes "none" ∷ d 2 ∷ d 4 ∷ []) ++ sentence (d 0 ∷ codes "-" ∷ codes "-" ∷ []) ++ sentence (d 1 ∷ d 0 ∷ codes "-" ∷ [])

slip_said : plan_text (table_meaning slip) ≡ slip_text decimal
unfolding plan_text
slip_said = refl

pub slip_lines : plan_text (table_meaning slip) ≡ codes "none 2 4\n0 - -\n1 0 -\n"
slip_lines = slip_said ∙ ap slip_text decimal_figures
