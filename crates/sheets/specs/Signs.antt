-- Signs of formulas and how many formulas each stands before. Assumes nothing.
use Rattle.std.specs.Prelude.{ℕ, ◌+◌, Bool, cond, ◌&&◌, ◌||◌, Some, None, Option, ◌==◌, nat_le}

-- the sign is a letter, `a` to `z`
abbrev pub letter_sign : ℕ → Bool
letter_sign s = nat_le 97 s && nat_le s 122

-- how many formulas a sign stands before: `T` and a letter none, `!`, `K` and `M` one, `&` and `|` two
abbrev pub arity : ℕ → Option ℕ
arity s =
    cond (s == 84 || letter_sign s) (Some 0)
    (cond (s == 33 || (s == 75 || s == 77)) (Some 1)
    (cond (s == 38 || s == 124) (Some 2) None))

-- the same over n letters: a letter past them is no sign
abbrev pub arity_over : ℕ → ℕ → Option ℕ
arity_over n s = cond (letter_sign s && nat_le (97 + n) s) None (arity s)
