-- Words written one after another make a line. Assumes nothing.
use Rattle.std.proofs.Common.{◌≡◌, ℕ, List, [], ◌∷◌, ◌++◌, map, Option, sym, refl, ap, ◌∙◌}
use Rattle.std.proofs.lemmas.List.{append_assoc, append-nil}
use Rattle.planning.specs.Meaning.{Meaning}
use Rattle.planning.specs.Finding.{place_of}
use Rattle.lines.specs.Texts.{clip}
use Rattle.lines.specs.Words.{number_word, sentence, spaced}
use Rattle.lines.proofs.Writing.{written_on}

pub spaced_on : (ws vs : List (List ℕ)) → spaced (ws ++ vs) ≡ spaced ws ++ spaced vs
spaced_on [] vs = refl
spaced_on (w ∷ ws) vs = ap (λ bs. 32 ∷ bs) (ap (λ bs. w ++ bs) (spaced_on ws vs) ∙ sym (append_assoc w (spaced ws) (spaced vs)))

-- a space is written, and then a word
pub word_next : (t t' t'' w : List ℕ) → t' ≡ clip (t ++ 32 ∷ []) → t'' ≡ clip (t' ++ w) → t'' ≡ clip (t ++ spaced (w ∷ []))
word_next t t' t'' w p q = written_on t t' t'' (32 ∷ []) w p q ∙ ap (λ bs. clip (t ++ 32 ∷ bs)) (sym (append-nil w))

-- what is written of a number that is known by another name
pub number_same : (t t' : List ℕ) (o p : Option ℕ) → t' ≡ clip (t ++ spaced (number_word o ∷ [])) → o ≡ p → t' ≡ clip (t ++ spaced (number_word p ∷ []))
number_same t t' o p e q = e ∙ ap (λ n. clip (t ++ spaced (number_word n ∷ []))) q

-- words are written, and then others
pub words_on : (t t' t'' : List ℕ) (ws vs : List (List ℕ)) → t' ≡ clip (t ++ spaced ws) → t'' ≡ clip (t' ++ spaced vs) → t'' ≡ clip (t ++ spaced (ws ++ vs))
words_on t t' t'' ws vs p q = written_on t t' t'' (spaced ws) (spaced vs) p q ∙ ap (λ bs. clip (t ++ bs)) (sym (spaced_on ws vs))

-- the text once the words that are left are written
abbrev pub ahead : List ℕ → List (List ℕ) → List ℕ
ahead t ws = clip (t ++ spaced ws)

-- a word is written, and the others are left
pub next_word : (t t' w : List ℕ) (ws : List (List ℕ)) → t' ≡ ahead t (w ∷ []) → ahead t' ws ≡ ahead t (w ∷ ws)
next_word t t' w ws p = words_on t t' (ahead t' ws) (w ∷ []) ws p refl

-- the places of some states
abbrev pub place_names : {S : Type 0} → Meaning S → List S → List S → List (List ℕ)
place_names m ts os = map (λ o. number_word (place_of m ts o)) os

-- a word, more words and a newline are written
pub line_whole : (t t' t'' t''' w : List ℕ) (ws : List (List ℕ)) → t ≡ [] → t' ≡ clip (t ++ w) → t'' ≡ ahead t' ws → t''' ≡ clip (t'' ++ 10 ∷ []) → t''' ≡ clip (sentence (w ∷ ws))
line_whole t t' t'' t''' w ws e p q r =
    written_on [] t' t''' w (spaced ws ++ 10 ∷ []) (p ∙ ap (λ bs. clip (bs ++ w)) e) (written_on t' t'' t''' (spaced ws) (10 ∷ []) q r)
