-- The example sheet, and sheets that differ from it in one thing, byte by byte. Assumes nothing.
use Rattle.std.specs.Prelude.{ℕ, List, [], ◌∷◌, ◌++◌, codes}

-- a number of two bytes, for one below 256
abbrev word : ℕ → List ℕ
word n = n ∷ 0 ∷ []

-- an offset and a length
abbrev pair : ℕ → ℕ → List ℕ
pair at size = word at ++ word size

-- a mask of eight bytes, for one below 256
abbrev cell : ℕ → List ℕ
cell m = m ∷ 0 ∷ 0 ∷ 0 ∷ 0 ∷ 0 ∷ 0 ∷ 0 ∷ []

-- an event: class, set, clear, and the condition's length and text
abbrev event : ℕ → ℕ → ℕ → ℕ → List ℕ → List ℕ
event class set clear size condition = class ∷ set ∷ clear ∷ size ∷ condition

-- a patch may be folded (`a`) and may be mended (`b`)

-- the event of seeing that it is folded
abbrev pub look_folded : List ℕ
look_folded = event 0 0 0 1 (codes "a")

-- to look: to see that the patch is folded, or to see that it is not
abbrev pub look : List ℕ
look = look_folded ++ event 1 0 0 2 (codes "!a")

-- to unfold mends a folded patch, which is then no longer folded
abbrev pub open_out : List ℕ
open_out = event 0 2 1 1 (codes "a")

-- to smooth mends a patch that is not folded
abbrev pub smooth : List ℕ
smooth = event 0 2 0 2 (codes "!a")

-- the example: all that is known is that the patch is not mended, and it is to be mended
abbrev pub example : List ℕ
example = 2 ∷ 3 ∷ pair 22 8 ++ pair 30 1 ++ pair 31 11 ++ pair 42 5 ++ pair 47 6 ++ cell 3 ++ codes "b" ++ look ++ open_out ++ smooth

-- the same, where to look is only to see that the patch is folded
abbrev pub half_look : List ℕ
half_look = 2 ∷ 3 ∷ pair 22 8 ++ pair 30 1 ++ pair 31 5 ++ pair 36 5 ++ pair 41 6 ++ cell 3 ++ codes "b" ++ look_folded ++ open_out ++ smooth

-- the same, without look
abbrev pub without_look : List ℕ
without_look = 2 ∷ 2 ∷ pair 18 8 ++ pair 26 1 ++ pair 27 5 ++ pair 32 6 ++ cell 3 ++ codes "b" ++ open_out ++ smooth

-- the patch is mended, and there is no act
abbrev pub mended : List ℕ
mended = 2 ∷ 0 ∷ pair 10 8 ++ pair 18 1 ++ cell 12 ++ codes "b"
