-- The moves from a valuation, event by event. Assumes nothing.
use Rattle.std.proofs.Common.{◌≡◌, ℕ, ◌≤◌, Bool, true, false, cond, List, [], ◌∷◌, map, length, Some, None, Option, filter, sym, refl, ap, ◌∙◌, subst, arith}
use denote.Param.Members.{Mut}
use denote.Ref.{Bor}
use Rattle.std.specs.Fn.{CalledAt}
use Rattle.std.specs.List.{FoldsTo}
use Rattle.std.specs.Option.{IfSome}
use Rattle.std.specs.Iterator.{Yields, YieldsThen, YieldsFirstBy}
use Rattle.std.proofs.lemmas.List.{length-map}
use Rattle.std.proofs.lemmas.List.Sums.{count_by-le-length, length-filter}
use Rattle.sheets.specs.Events.{events_of}
use Rattle.knowledge.specs.Acting.{event_of, act_of}
use Rattle.knowledge.specs.Moves.{possible_at, move_of, moves_of}

-- there are no more moves than events
pub few_moves : (n c v : ℕ) (bs : List ℕ) → length (moves_of n c v (act_of n bs)) ≤ length (events_of bs)
few_moves n c v bs =
    omega (
      arith,
      length-map (filter (possible_at n c v) (act_of n bs)) (move_of n v),
      length-filter (possible_at n c v) (act_of n bs),
      count_by-le-length (possible_at n c v) (act_of n bs),
      length-map (events_of bs) (event_of n),
    )

-- where `find` asks an iterator's items one after another, what is left of those that pass is what was left but for the
-- item found
module _ {S A B C : Type 0} (rest : S → List B) (view : A → B) (h : B → C) (test : C → Bool) where
  abbrev kept : S → List C
  kept s = filter test (map h (rest s))

  -- a call of the closure answers the test, and leaves the closure as it was
  abbrev Asks : {F : Type 0} → Mut F (Bor A × Unit {0}) Bool → F → Type 0
  Asks {F} g f = (x : A) (b : Bool) (q : F) → CalledAt g f x b q → (q ≡ f) × (b ≡ test (h (view x)))

  step : (s t : S) (x : A) (b : Bool) → rest s ≡ view x ∷ rest t → test (h (view x)) ≡ b → kept s ≡ cond b (h (view x) ∷ kept t) (kept t)
  step s t x b e is = ap (λ ys. filter test (map h ys)) e ∙ ap (λ b. cond b (h (view x) ∷ kept t) (kept t)) is

  passed : {F : Type 0} (g : Mut F (Bor A × Unit {0}) Bool) (f : F) → Asks g f → (s t : S) (xs : List A) (p j : F) → p ≡ f → Yields (YieldsFirstBy view rest) s xs t → FoldsTo (λ p x q. CalledAt g p x false q) p xs j → (j ≡ f) × (kept s ≡ kept t)
  passed g f asks s t [] p j is y l = (sym l ∙ is, ap kept y)
  passed g f asks s t (x ∷ xs) p j is y l =
      let r = asks x false l.0 (subst (λ p. CalledAt g p x false l.0) is l.1) in
      let after = passed g f asks y.0 t xs l.0 j r.0 y.2 l.2 in
      (after.0, step s y.0 x false y.1 (sym r.1) ∙ after.1)

  pub found : {F : Type 0} {g : Mut F (Bor A × Unit {0}) Bool} {f : F} (s u : S) (r : Option A) → (xs : List A) × (j : F) × YieldsThen (YieldsFirstBy view rest) s xs r u × FoldsTo (λ p x q. CalledAt g p x false q) f xs j × IfSome r (λ x. (q : F) × CalledAt g j x true q) → Asks g f → YieldsFirstBy (λ x. h (view x)) kept s r u
  found {g = g} {f = f} s u (Some x) ran asks =
      let before = passed g f asks s ran.2.0 ran.0 f ran.1 refl ran.2.1 ran.3 in
      let r = asks x true ran.4.0 (subst (λ p. CalledAt g p x true ran.4.0) before.0 ran.4.1) in
      before.1 ∙ step ran.2.0 u x true ran.2.2 (sym r.1)
  found {g = g} {f = f} s u None ran asks =
      let before = passed g f asks s ran.2.0 ran.0 f ran.1 refl ran.2.1 ran.3 in
      (before.1 ∙ ap (λ ys. filter test (map h ys)) ran.2.2.0, ap (λ ys. filter test (map h ys)) ran.2.2.1)
