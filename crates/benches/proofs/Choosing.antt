-- What a script bench makes of its next byte. Assumes nothing.
use Rattle.std.proofs.Common.{◌≡◌, ℕ, ◌+◌, ◌-◌, ◌%◌, cond, ltb, List, [], ◌∷◌, length, drop, Some, Ok, Err, sym, refl, ap, ◌∙◌, subst, ap₂, mod-lt, arith}
use Rattle.std.proofs.lemmas.List.{drop_more, length-drop}
use Rattle.std.proofs.lemmas.Option.{get_or_from_slice_get, none-some, slice_get-get_or, slice_get_within}
use Rattle.std.proofs.lemmas.Bool.{lt-ltb}
use Rattle.std.specs.List.{slice_get}
use mathlib.Core.List.{Memᴰ}
use Rattle.planning.specs.Meaning.{Meaning, Lawful}
use Rattle.planning.specs.Ranks.{some_of}
use Rattle.planning.proofs.Lists.{nth_in}
use Rattle.session.specs.declared.stops.CarryStop.{CarryStop}
use Rattle.session.specs.Walks.{Post, Carried}
use Rattle.benches.specs.Scripts.{Script, post, answer_by, leaves_by, carry_answer, carry_leaves}

module _ {S : Type 0} (m : Meaning S) (law : Lawful m) (s : S) (a : ℕ) where
  carried_by : (xs : List ℕ) (os : List S) → os ≡ m.outcomes s a → Ok tt ≡ answer_by xs os → Carried m (post (record { state = s; bytes = xs })) a 0 (post (leaves_by s xs os))
  carried_by [] os e h = absurd (let z : ◌≡◌ {A = ℕ} 0 1 = cc in omega arith)
  carried_by (x ∷ xs) [] e h = absurd (let z : ◌≡◌ {A = ℕ} 0 1 = cc in omega arith)
  carried_by (x ∷ xs) (o ∷ os) e h =
      let i = x % length (o ∷ os) in
      let there = slice_get-get_or (o ∷ os) i o (mod-lt x (omega arith)) in
      record {
        number_is = ap (λ ys. cond (some_of ys) 0 16) e;
        leaves = (tt, (_, (subst (Memᴰ _) e (nth_in (o ∷ os) i _ there), law.reflexive _)));
      }

-- an act that is answered so and leaves the bench so has been carried
pub carried : {S : Type 0} (m : Meaning S) → Lawful m → (k k' : Script S) (a : ℕ) → Ok tt ≡ carry_answer m k a → k' ≡ carry_leaves m k a → Carried m (post k) a 0 (post k')
carried m law k k' a h e = subst (λ j. Carried m (post k) a 0 (post j)) (sym e) (carried_by m law k.state a k.bytes (m.outcomes k.state a) refl h)

-- how many bytes are left from a place on
pub left_long : (xs : List ℕ) (n : ℕ) → length xs - n ≡ length (drop n xs)
left_long xs n = sym (length-drop n xs)

-- a list that is longer than nothing has something
pub some_long : (xs : List ℕ) → ltb 0 (length xs) ≡ some_of xs
some_long [] = refl
some_long (x ∷ xs) = lt-ltb 0 (length (x ∷ xs)) (omega arith)

-- the next byte of a script, and those after it
pub next_byte : (xs : List ℕ) (n x : ℕ) → slice_get xs n ≡ Some x → drop n xs ≡ x ∷ drop (n + 1) xs
next_byte xs n x e =
    drop_more xs n 0 (slice_get_within xs n x e) ∙ ap (λ y. y ∷ drop (n + 1) xs) (get_or_from_slice_get xs n x 0 e)

-- carrying refused, at a bench that has those bytes left
module _ {S : Type 0} (m : Meaning S) (s : S) (a : ℕ) (xs : List ℕ) where
  abbrev os : List S
  os = m.outcomes s a

  abbrev here : Post S
  here = post (record { state = s; bytes = xs })

  -- no byte is left
  module _ (e : xs ≡ []) where
    pub spent_carried : Carried m here a 15 here
    spent_carried = record { number_is = sym (ap (λ r. cond r (cond (some_of os) 0 16) 15) (ap some_of e)); leaves = refl }

    pub spent_answer : Err CarryStop.NotReady ≡ answer_by xs os
    spent_answer = ap (λ zs. answer_by zs os) (sym e)

    pub spent_leaves : record { state = s; bytes = xs } ≡ leaves_by s xs os
    spent_leaves = subst (λ zs. record { state = s; bytes = zs } ≡ leaves_by s zs os) (sym e) refl

  -- there is no outcome
  module _ (x : ℕ) (ys : List ℕ) (e : xs ≡ x ∷ ys) (none : os ≡ []) where
    pub bare_carried : Carried m here a 16 here
    bare_carried =
        record {
          number_is = sym (ap (λ r. cond r (cond (some_of os) 0 16) 15) (ap some_of e) ∙ ap (λ zs. cond (some_of zs) 0 16) none);
          leaves = refl;
        }

    pub bare_answer : Err CarryStop.NotApplicable ≡ answer_by xs os
    bare_answer = sym (ap₂ answer_by e none)

-- an act that has an outcome is carried while bytes remain
pub took_answer : {S : Type 0} (xs ys : List ℕ) (os : List S) (x i : ℕ) (o : S) → xs ≡ x ∷ ys → slice_get os i ≡ Some o → Ok tt ≡ answer_by xs os
took_answer xs ys [] x i o e h = absurd (none-some o h)
took_answer xs ys (p ∷ ps) x i o e h = ap (λ zs. answer_by zs (p ∷ ps)) (sym e)

-- the outcome that the next byte chooses is taken, and the byte is used up
pub took_leaves : {S : Type 0} (s : S) (xs ys : List ℕ) (os : List S) (x n : ℕ) (o : S) → xs ≡ x ∷ ys → n ≡ length os → slice_get os (x % n) ≡ Some o → record { state = o; bytes = ys } ≡ leaves_by s xs os
took_leaves s xs ys [] x n o e f h = absurd (none-some o h)
took_leaves s xs ys (p ∷ ps) x n o e f h =
    let there : slice_get (p ∷ ps) (x % length (p ∷ ps)) ≡ Some o = ap (λ k. slice_get (p ∷ ps) (x % k)) (sym f) ∙ h in
    let taken = ap (λ q. record { state = q; bytes = ys }) (sym (get_or_from_slice_get (p ∷ ps) (x % length (p ∷ ps)) o p there)) in
    taken ∙ ap (λ zs. leaves_by s zs (p ∷ ps)) (sym e)
