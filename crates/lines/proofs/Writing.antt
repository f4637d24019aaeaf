-- What is written one after another in a text that keeps 64 bytes. Assumes nothing.
use Rattle.std.proofs.Common.{◌≡◌, ℕ, ◌+◌, ◌-◌, ◌≤◌, min, List, [], ◌++◌, length, take, Some, Ok, Err, Result, sym, refl, ap, ◌∙◌, inl, inr, arith}
use Rattle.std.specs.Io.KnownBytes.{WriteAppends}
use Rattle.std.proofs.Math.Seq.{take-append-add}
use Rattle.std.proofs.lemmas.List.{append_assoc, append-nil, length-take-le, take_all, take-append-le, take_min, take-take}
use Rattle.std.proofs.lemmas.Bool.{cases_lt}
use Rattle.lines.specs.Texts.{clip}

clip_on : (xs ys : List ℕ) → clip (clip xs ++ ys) ≡ clip (xs ++ ys)
clip_on xs ys =
    elim (cases_lt 64 (length xs)) [
      | inl l ↦
          let h : 64 ≤ length xs = omega arith in
          let k : 64 ≤ length (take 64 xs) = omega (arith, length-take-le 64 xs h) in
          take-append-le 64 (take 64 xs) ys k ∙ take-take 64 64 xs (omega arith) ∙ sym (take-append-le 64 xs ys h)
      | inr l ↦ ap (λ zs. clip (zs ++ ys)) (take_all 64 xs l)
    ]

-- a is written, and then b
pub written_on : (t t' t'' a b : List ℕ) → t' ≡ clip (t ++ a) → t'' ≡ clip (t' ++ b) → t'' ≡ clip (t ++ (a ++ b))
written_on t t' t'' a b p q = q ∙ ap (λ xs. clip (xs ++ b)) p ∙ clip_on (t ++ a) b ∙ ap clip (append_assoc t a b)

-- nothing is written
pub written_none : (xs : List ℕ) → clip xs ≡ clip (clip xs ++ [])
written_none xs = sym (clip_on xs [] ∙ ap clip (append-nil xs))

-- the first n bytes of a word are written: as many as there is room for
pub word_in : {E : Type 0} (old new word : List ℕ) (r : Result ℕ E) → WriteAppends (Some old) (Some new) r word → r ≡ Ok (min (64 - length old) (length word)) → clip new ≡ clip (clip old ++ word)
word_in old new word (Err e) h c = absurd (let z : ◌≡◌ {A = ℕ} 0 1 = cc in omega arith)
word_in old new word (Ok n) h c =
    let k : ℕ = 64 - length old in
    let e : n ≡ min k (length word) = cc in
    ap clip (h ∙ ap (λ i. old ++ take i word) e ∙ ap (λ xs. old ++ xs) (take_min k word)) ∙ go k refl ∙ sym (clip_on old word)
  where
    go : (k : ℕ) → k ≡ 64 - length old → clip (old ++ take k word) ≡ clip (old ++ word)
    go k e =
        elim (cases_lt 64 (length old)) [
          | inl l ↦ take-append-le 64 old (take k word) (omega arith) ∙ sym (take-append-le 64 old word (omega arith))
          | inr l ↦
              let z : 64 ≡ length old + k = omega arith in
              ap (λ i. take i (old ++ take k word)) z ∙ take-append-add old (take k word) k ∙ ap (λ xs. old ++ xs) (take-take k k word (omega arith))
              ∙ sym (ap (λ i. take i (old ++ word)) z ∙ take-append-add old word k)
        ]
