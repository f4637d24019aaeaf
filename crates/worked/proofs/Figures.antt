-- Numbers below 100 in decimal, by computing. Assumes nothing.
use Rattle.std.proofs.Common.{◌≡◌, ℕ, ◌+◌, ◌/◌, ◌%◌, ◌<◌, ◌≤◌, Bool, cond, ltb, List, [], ◌∷◌, ◌++◌, decimal, sym, ap, ◌∙◌, ap₂, inl, inr, arith}
use mathlib.Core.Path.{fun_ext}
use Rattle.std.proofs.lemmas.Nat.{div_below}
use Rattle.std.proofs.lemmas.Fmt.{decimal_digit, decimal_step}
use Rattle.std.proofs.lemmas.Bool.{lt-ltb, le-ltb, cases_lt}

-- a number's figures, by whether it is below 10 and below 100
abbrev by : ℕ → Bool → Bool → List ℕ
by n one two = cond one ((48 + n) ∷ []) (cond two ((48 + n / 10) ∷ (48 + n % 10) ∷ []) (decimal n))

abbrev pub figures : ℕ → List ℕ
figures n = by n (ltb n 10) (ltb n 100)

two_figures : (n : ℕ) → 10 ≤ n → n < 100 → decimal n ≡ (48 + n / 10) ∷ (48 + n % 10) ∷ []
two_figures n h l = decimal_step n h (omega arith) ∙ ap (λ ds. ds ++ (48 + n % 10) ∷ []) (decimal_digit (n / 10) (div_below n 10 10 (omega arith) (omega arith)))

shown : (n : ℕ) → decimal n ≡ figures n
shown n =
    elim (cases_lt n 10) [
      | inl l ↦ decimal_digit n l ∙ sym (ap (λ one. by n one (ltb n 100)) (lt-ltb n 10 l))
      | inr h ↦
          elim (cases_lt n 100) [
            | inl l ↦ two_figures n h l ∙ sym (ap₂ (by n) (le-ltb n 10 h) (lt-ltb n 100 l))
            | inr k ↦ sym (ap₂ (by n) (le-ltb n 10 h) (le-ltb n 100 k))
          ]
    ]

pub decimal_figures : decimal ≡ figures
decimal_figures = fun_ext shown
