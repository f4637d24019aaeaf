-- A text under way, which keeps no more than 64 bytes. Assumes nothing.
use Rattle.std.specs.Prelude.{◌≡◌, ℕ, List, ◌++◌, take}
use Rattle.lines.specs.declared.text.Text.{Text}

-- the part of a text that is kept
abbrev pub clip : List ℕ → List ℕ
clip bs = take 64 bs

-- what has been written
abbrev pub text : Text → List ℕ
text t = clip t.bytes.items

-- bs has been written at the end of t
abbrev pub Adds : Text → List ℕ → Text → Type 0
Adds t bs t' = text t' ≡ clip (text t ++ bs)
