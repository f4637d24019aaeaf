-- The bits of a number, and numbers as sets of their bits. Assumes nothing.
use Rattle.std.specs.Prelude.{ℕ, zero, suc, ◌+◌, ◌/◌, ◌%◌, ◌^◌, Bool, true, false, cond, ◌==◌, bit_or, bit_xor}

-- bit i of m is set: `m >> i & 1 == 1`
abbrev pub bit : ℕ → ℕ → Bool
bit m i = m / 2 ^ i % 2 == 1

-- the number whose bit i, for i below k, is set where f i
unfoldable pub mask : ℕ → (ℕ → Bool) → ℕ
mask zero f = 0
mask (suc k) f = mask k f + cond (f k) (2 ^ k) 0

-- the set of g v, for each v below k in the set x
unfoldable pub image : (ℕ → ℕ) → ℕ → ℕ → ℕ
image g x zero = 0
image g x (suc k) = bit_or (image g x k) (cond (bit x k) (2 ^ g k) 0)

-- the number with bit i set or cleared
abbrev pub put : ℕ → Bool → ℕ → ℕ
put i true v = bit_or v (2 ^ i)
put i false v = bit_xor (bit_or v (2 ^ i)) (2 ^ i)
