-- Bytes read as a formula, whatever they are: a total reading, which on the text of a formula gives that formula.
-- Assumes nothing.
use Rattle.std.specs.Prelude.{ℕ, zero, suc, ◌-◌, cond, ◌&&◌, List, [], ◌∷◌, length, ◌==◌, nat_le, nat_lt}
use Rattle.sheets.specs.Formulas.{Formula, top, letter, neg, and, or, K, M}

-- a formula and the bytes after it
pub record Read : Type 0 where
  pub formula : Formula
  pub rest : List ℕ

-- the formula that is true nowhere
abbrev pub never : Formula
never = neg top

-- a byte that governs nothing: `T`, a letter among the first n; any other is read as what is true nowhere
abbrev pub atom : ℕ → ℕ → Formula
atom n b = cond (b == 84) top (cond (nat_le 97 b && nat_lt (b - 97) n) (letter (b - 97)) never)

-- how many formulas a sign governs: one after `!`, `K` and `M`, two after `&` and `|`
pub data Sign : Type 0 where
  alone : Formula → Sign
  one : (Formula → Formula) → Sign
  two : (Formula → Formula → Formula) → Sign

-- what a byte is in a formula over n letters
abbrev pub sign : ℕ → ℕ → Sign
sign n b =
    cond (b == 33) (one neg)
    (cond (b == 75) (one K)
    (cond (b == 77) (one M)
    (cond (b == 38) (two and)
    (cond (b == 124) (two or) (alone (atom n b))))))

-- the formula that a sign begins, where `after` reads the formulas after it
abbrev pub governed : (List ℕ → Read) → List ℕ → Sign → Read
governed after bs (alone f) = record { formula = f; rest = bs }
governed after bs (one g) = record { formula = g (after bs).formula; rest = (after bs).rest }
governed after bs (two g) =
    record { formula = g (after bs).formula (after (after bs).rest).formula; rest = (after (after bs).rest).rest }

-- the formula that the bytes begin with, read in at most so many steps; bytes that end early are read as what is true
-- nowhere
abbrev pub read_within : ℕ → ℕ → List ℕ → Read
read_within n zero bs = record { formula = never; rest = bs }
read_within n (suc k) [] = record { formula = never; rest = [] }
read_within n (suc k) (b ∷ bs) = governed (read_within n k) bs (sign n b)

-- the formula that the bytes begin with, and the bytes after it
abbrev pub read : ℕ → List ℕ → Read
read n bs = read_within n (length bs) bs
