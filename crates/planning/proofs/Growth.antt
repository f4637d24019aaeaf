-- How the finding list grows: at its end alone, by states that are new, until it is final. Assumes nothing.
use Rattle.std.proofs.Common.{◌≡◌, ℕ, zero, suc, ◌<◌, ◌≤◌, Bool, true, false, cond, T, ◌⊎◌, List, [], ◌∷◌, ◌++◌, length, Some, None, Option, sym, refl, ap, subst, inl, inr, arith}
use mathlib.Core.List.{Memᴰ}
use Rattle.std.specs.List.{slice_get}
use Rattle.std.proofs.lemmas.Bool.{cases_lt}
use Rattle.std.proofs.lemmas.Option.{slice_get_within}
use Rattle.planning.specs.Meaning.{Meaning, Lawful, Alike}
use Rattle.planning.specs.Finding.{listed, joined, joined_all, outcomes_from, expanded, found, Final}
use Rattle.planning.specs.Theory.{ListGrows}
use Rattle.planning.proofs.Tests.{clash, fails, or_left, or_right}
use Rattle.planning.proofs.Lists.{none_some, no_member}
use Rattle.planning.proofs.Places.{Placed, placed_listed, kept_found, short_stays, expands, closed}

module _ {S : Type 0} (m : Meaning S) where
  pub final_stays : (r k : ℕ) → Final m r → r ≤ k → found m k ≡ found m r
  final_stays r k f h = short_stays m r k h (omega arith)

  -- a list is final at one length only
  same_final : (r k : ℕ) → Final m r → Final m k → r ≤ k → r ≡ k
  same_final r k f g h = let e = ap length (final_stays r k f h) in omega arith

  pub one_final : (r k : ℕ) → Final m r → Final m k → r ≡ k
  one_final r k f g = elim (cases_lt r k) [ inl h ↦ same_final r k f g (omega arith) | inr h ↦ sym (same_final k r g f h) ]

  pub listed_placed : (xs : List S) (s : S) → Placed m xs s → T (listed m xs s)
  listed_placed xs s p = go xs p.place p.at
    where
      go : (ys : List S) (i : ℕ) → slice_get ys i ≡ Some p.state → T (listed m ys s)
      go [] i at = absurd (none_some refl at)
      go (y ∷ ys) zero at = let e : p.state ≡ y = cc in or_left (m.same y s) (listed m ys s) (subst (λ x. T (m.same x s)) e p.same)
      go (y ∷ ys) (suc i) at = or_right (m.same y s) (listed m ys s) (go ys i at)

  -- no two places hold same states
  abbrev pub Distinct : List S → Type 0
  Distinct xs = (i j : ℕ) (s t : S) → slice_get xs i ≡ Some s → slice_get xs j ≡ Some t → i < j → m.same s t ≡ false

  -- the places of a list with one more state at its end
  nth_end : (xs : List S) (y : S) (j : ℕ) (t : S) → slice_get (xs ++ y ∷ []) j ≡ Some t → (slice_get xs j ≡ Some t) ⊎ ((j ≡ length xs) × (y ≡ t))
  nth_end [] y zero t e = inr (refl, let z : y ≡ t = cc in z)
  nth_end [] y (suc j) t e = absurd (none_some refl e)
  nth_end (x ∷ xs) y zero t e = inl e
  nth_end (x ∷ xs) y (suc j) t e = elim (nth_end xs y j t e) [ inl h ↦ inl h | inr h ↦ inr (ap suc h.0, h.1) ]

  not_listed : (xs : List S) (y : S) → listed m xs y ≡ false → (i : ℕ) (s : S) → slice_get xs i ≡ Some s → m.same s y ≡ false
  not_listed xs y none i s at = fails (m.same s y) (λ t. clash (listed m xs y) none (listed_placed xs y (record { place = i; state = s; at = at; same = t })))

  distinct_end : (xs : List S) (y : S) → listed m xs y ≡ false → Distinct xs → Distinct (xs ++ y ∷ [])
  distinct_end xs y none h i j s t a b l =
      elim (nth_end xs y i s a) [
        | inl a' ↦
            elim (nth_end xs y j t b) [
              | inl b' ↦ h i j s t a' b' l
              | inr b' ↦ subst (λ x. m.same s x ≡ false) b'.1 (not_listed xs y none i s a')
            ]
        | inr a' ↦
            elim (nth_end xs y j t b) [
              | inl b' ↦ absurd (omega (arith, slice_get_within xs j t b', a'.0))
              | inr b' ↦ absurd (omega (arith, a'.0, b'.0))
            ]
      ]

  distinct_joined : (xs : List S) (y : S) → Distinct xs → Distinct (joined m xs y)
  distinct_joined xs y h = go (listed m xs y) refl
    where
      go : (b : Bool) → listed m xs y ≡ b → Distinct (cond b xs (xs ++ y ∷ []))
      go true e = h
      go false e = distinct_end xs y e h

  distinct_all : (xs ss : List S) → Distinct xs → Distinct (joined_all m xs ss)
  distinct_all xs [] h = h
  distinct_all xs (s ∷ ss) h = distinct_all (joined m xs s) ss (distinct_joined xs s h)

  distinct_expanded : (xs : List S) (o : Option S) → Distinct xs → Distinct (expanded m xs o)
  distinct_expanded xs None h = h
  distinct_expanded xs (Some s) h = distinct_all xs (outcomes_from m s 0 m.acts) h

  distinct : (k : ℕ) → Distinct (found m k)
  distinct zero = λ i j s t a b l. absurd (omega (arith, slice_get_within (found m 0) j t b))
  distinct (suc k) = distinct_expanded (found m k) (slice_get (found m k) k) (distinct k)

module _ {S : Type 0} (m : Meaning S) (law : Lawful m) where
  -- an act that has an outcome is known
  known_act : (s o : S) (a : ℕ) → Memᴰ o (m.outcomes s a) → a < m.acts
  known_act s o a out = elim (cases_lt a m.acts) [ inl h ↦ h | inr h ↦ absurd (no_member (law.no_act s a h) out) ]

  -- an outcome of a state is the same as some outcome of a state that is the same
  matched : (xs ys : List S) (o : S) → Alike m.same xs ys → Memᴰ o ys → (x : S) × (Memᴰ x xs × T (m.same x o))
  matched [] [] o h i = absurd (no_member refl i)
  matched [] (y ∷ ys) o h i = absurd h
  matched (x ∷ xs) [] o h i = absurd h
  matched (x ∷ xs) (y ∷ ys) o h (Memᴰ.head e) = (x, (Memᴰ.head refl, subst (λ z. T (m.same x z)) (sym e) h.0))
  matched (x ∷ xs) (y ∷ ys) o h (Memᴰ.tail i) = let r = matched xs ys o h.1 i in (r.0, (Memᴰ.tail r.1.0, r.1.1))

  pub outcomes_listed : (r : ℕ) → Final m r → (s : S) → T (listed m (found m r) s) → (a : ℕ) (o : S) → Memᴰ o (m.outcomes s a) → T (listed m (found m r) o)
  outcomes_listed r final s there a o out =
      let p = placed_listed m (found m r) s there in
      let x = matched (m.outcomes p.state a) (m.outcomes s a) o (law.same_outcomes p.state s a p.same) out in
      let q = closed m law r final p.place p.state p.at a (known_act s o a out) x.0 x.1.0 in
      listed_placed m (found m r) o (record { place = q.place; state = q.state; at = q.at; same = law.transitive q.state x.0 o q.same x.1.1 })

  pub list_grows : ListGrows m
  list_grows =
      record {
        keeps = kept_found m;
        stable = final_stays m;
        one_final = one_final m;
        distinct = distinct m;
        expands = λ k i s below at a o out. listed_placed m (found m k) o (expands m law k i s below at a (known_act s o a out) o out);
        closed = outcomes_listed;
      }
