-- The rules on single values of a sheet, and where its sections stand. Assumes nothing.
use Rattle.std.specs.Prelude.{ℕ, ◌+◌, ◌*◌, ◌^◌, Bool, ◌&&◌, List, [], ◌∷◌, take, drop, ◌==◌, bit_and, nat_le, nat_lt, slice_index}
use Rattle.sheets.specs.Events.{Entry}

-- there are 1 to 6 features
abbrev pub features_fit : ℕ → Bool
features_fit n = nat_le 1 n && nat_le n 6

-- there are at most 16 acts
abbrev pub acts_fit : ℕ → Bool
acts_fit a = nat_le a 16

-- a start mask of n features has a bit, and none from 2 ^ n up
abbrev pub start_fits : ℕ → ℕ → Bool
start_fits n m = nat_lt 0 m && nat_lt m (2 ^ (2 ^ n))

-- classes are 0 to 7
abbrev pub class_fits : ℕ → Bool
class_fits c = nat_le c 7

-- set and clear are masks of n features without a common bit
abbrev pub change_fits : ℕ → ℕ → ℕ → Bool
change_fits n set clear = (nat_lt set (2 ^ n) && nat_lt clear (2 ^ n)) && (bit_and set clear) == 0

-- the class, set and clear of an event are as the rules say
abbrev pub fields_fit : ℕ → Entry → Bool
fields_fit n e = class_fits e.class && change_fits n e.set e.clear

-- the number that bytes spell, the low byte first
abbrev pub low_first : List ℕ → ℕ
low_first [] = 0
low_first (b ∷ bs) = b + 256 * low_first bs

-- the number of the first eight bytes: a mask of valuations
abbrev pub mask_of : List ℕ → ℕ
mask_of bs = low_first (take 8 bs)

-- the number of two bytes at a place
abbrev pub word : List ℕ → ℕ → ℕ
word bs i = slice_index bs i + 256 * slice_index bs (i + 1)

-- the sections are the start, the goal and the acts
abbrev pub section_count : ℕ → ℕ
section_count acts = acts + 2

-- where the header ends: two bytes, and four for each section
abbrev pub header_end : ℕ → ℕ
header_end acts = 2 + 4 * section_count acts

-- where section k begins, as its pair says
abbrev pub offset : List ℕ → ℕ → ℕ
offset bs k = word bs (2 + 4 * k)

-- how many bytes section k has, as its pair says
abbrev pub size : List ℕ → ℕ → ℕ
size bs k = word bs (2 + 4 * k + 2)

-- where section k ends
abbrev pub ending : List ℕ → ℕ → ℕ
ending bs k = offset bs k + size bs k

-- the bytes of section k, as far as the sheet has them
abbrev pub section_bytes : List ℕ → ℕ → List ℕ
section_bytes bs k = take (size bs k) (drop (offset bs k) bs)
