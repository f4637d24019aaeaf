-- How a sheet is laid out: a header, then sections in its order with gaps of any bytes. Assumes nothing.
use Rattle.std.specs.Prelude.{◌≡◌, ℕ, ◌+◌, ◌*◌, ◌≤◌, true, List, [], ◌∷◌, ◌++◌, length, Ok, Result}
use Rattle.sheets.specs.declared.fault.SheetFault.{SheetFault}
use Rattle.sheets.specs.Checks.{IsFormula}
use Rattle.sheets.specs.Events.{Entry}
use Rattle.sheets.specs.Rules.{features_fit, acts_fit, start_fits, fields_fit, low_first}
use Rattle.sheets.specs.Reading.{Parts}

-- an event's bytes: class, set, clear, the condition's length, the condition
abbrev pub event_bytes : Entry → List ℕ
event_bytes e = e.class ∷ e.set ∷ e.clear ∷ length e.condition ∷ e.condition

-- an event by the rules: its fields fit, and its condition is a formula of at most 200 bytes
pub record EventRight (n : ℕ) (e : Entry) : Type 0 where
  pub fields : fields_fit n e ≡ true
  pub formula : IsFormula n e.condition
  pub short : length e.condition ≤ 200

-- the bytes are those of right events, one after another
pub data EventsSpelled (n : ℕ) : List ℕ → List Entry → Type 0 where
  no_event : EventsSpelled n [] []
  an_event : {e : Entry} {bs : List ℕ} {es : List Entry} → EventRight n e → EventsSpelled n bs es → EventsSpelled n (event_bytes e ++ bs) (e ∷ es)

-- the bytes are those of an act: one to sixteen right events
pub record ActRight (n : ℕ) (bs : List ℕ) (es : List Entry) : Type 0 where
  pub events : EventsSpelled n bs es
  pub some : 1 ≤ length es
  pub few : length es ≤ 16

-- each of the texts is an act
pub data ActsSpelled (n : ℕ) : List (List ℕ) → List (List Entry) → Type 0 where
  no_act : ActsSpelled n [] []
  an_act : {bs : List ℕ} {es : List Entry} {texts : List (List ℕ)} {acts : List (List Entry)} → ActRight n bs es → ActsSpelled n texts acts → ActsSpelled n (bs ∷ texts) (es ∷ acts)

-- the bytes are pairs of offset and length, two bytes each, the low byte first
pub data PairsSpelled : List (ℕ × ℕ) → List ℕ → Type 0 where
  no_pair : PairsSpelled [] []
  a_pair : {a b c d : ℕ} {ps : List (ℕ × ℕ)} {bs : List ℕ} → PairsSpelled ps bs → PairsSpelled ((a + 256 * b, c + 256 * d) ∷ ps) (a ∷ b ∷ c ∷ d ∷ bs)

-- from a place of the sheet on, the bytes hold the sections of the pairs in their order: before each and after the last
-- any bytes may stand
pub data Spread : ℕ → List (ℕ × ℕ) → List (List ℕ) → List ℕ → Type 0 where
  any_rest : {at : ℕ} {bs : List ℕ} → Spread at [] [] bs
  a_section : {at offset size : ℕ} {section bs : List ℕ} {ps : List (ℕ × ℕ)} {ss : List (List ℕ)} (gap : List ℕ) → offset ≡ at + length gap → size ≡ length section → Spread (offset + size) ps ss bs → Spread at ((offset, size) ∷ ps) (section ∷ ss) (gap ++ (section ++ bs))

-- the sheet is laid out by the rules, and says these parts
pub record LaidOut (bs : List ℕ) (p : Parts) : Type 0 where
  pub pairs : List (ℕ × ℕ)
  pub header : List ℕ
  pub body : List ℕ
  pub mask : List ℕ
  pub texts : List (List ℕ)
  pub whole : bs ≡ p.features ∷ length p.acts ∷ (header ++ body)
  pub short : length bs ≤ 16384
  pub features : features_fit p.features ≡ true
  pub acts : acts_fit (length p.acts) ≡ true
  pub header_spelled : PairsSpelled pairs header
  pub spread : Spread (2 + length header) pairs (mask ∷ p.goal ∷ texts) body
  pub mask_size : length mask ≡ 8
  pub mask_is : low_first mask ≡ p.start
  pub start : start_fits p.features p.start ≡ true
  pub goal : IsFormula p.features p.goal
  pub goal_short : length p.goal ≤ 200
  pub acts_spelled : ActsSpelled p.features texts p.acts

-- an answer accepts the sheet exactly if it is laid out by the rules, and with the parts that it then says
pub record AcceptsLayout (bs : List ℕ) (r : Result Parts SheetFault) : Type 0 where
  pub only : (p : Parts) → r ≡ Ok p → LaidOut bs p
  pub all : (p : Parts) → LaidOut bs p → r ≡ Ok p
