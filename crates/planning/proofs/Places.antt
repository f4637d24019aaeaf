-- The places of the finding list: it only grows at its end, and each outcome of a state of a final list is the same as
-- some state of it. Assumes nothing.
use Rattle.std.proofs.Common.{◌≡◌, ℕ, zero, suc, ◌+◌, ◌<◌, ◌≤◌, Bool, true, false, cond, T, List, [], ◌∷◌, ◌++◌, length, Some, None, Option, sym, refl, ap, ◌∙◌, subst, inl, inr, arith}
use mathlib.Core.List.Memᴰ
use mathlib.Core.List.{Memᴰ}
use native.Mathlib.Decide.{le_ind}
use Rattle.std.specs.List.{slice_get}
use Rattle.std.proofs.lemmas.Option.{slice_get_past, slice_get_within}
use Rattle.std.proofs.lemmas.Bool.{cases_lt}
use Rattle.planning.specs.Meaning.{Meaning, Lawful}
use Rattle.planning.specs.Finding.{listed, joined, joined_all, outcomes_from, expanded, found, Final}
use Rattle.planning.proofs.Tests.{or_cases}
use Rattle.planning.proofs.Lists.{none_some, place_past}

-- what has a place in xs has it in ys
abbrev pub Kept : {S : Type 0} → List S → List S → Type 0
Kept {S} xs ys = (i : ℕ) (s : S) → slice_get xs i ≡ Some s → slice_get ys i ≡ Some s

kept_append : {S : Type 0} (xs ys : List S) → Kept xs (xs ++ ys)
kept_append [] ys i s at = absurd (none_some refl at)
kept_append (x ∷ xs) ys zero s at = at
kept_append (x ∷ xs) ys (suc i) s at = kept_append xs ys i s at

nth_last : {S : Type 0} (xs : List S) (s : S) → slice_get (xs ++ s ∷ []) (length xs) ≡ Some s
nth_last [] s = refl
nth_last (x ∷ xs) s = nth_last xs s

module _ {S : Type 0} (m : Meaning S) where
  -- some place holds a state that is the same as s
  pub record Placed (xs : List S) (s : S) : Type 0 where
    pub place : ℕ
    pub state : S
    pub at : slice_get xs place ≡ Some state
    pub same : T (m.same state s)

  placed_kept : {xs ys : List S} {s : S} → Kept xs ys → Placed xs s → Placed ys s
  placed_kept h p = record { place = p.place; state = p.state; at = h p.place p.state p.at; same = p.same }

  pub placed_listed : (xs : List S) (s : S) → T (listed m xs s) → Placed xs s
  placed_listed [] s t = absurd t
  placed_listed (x ∷ xs) s t =
      elim (or_cases (m.same x s) (listed m xs s) t) [
        | inl u ↦ record { place = 0; state = x; at = refl; same = u }
        | inr u ↦ let p = placed_listed xs s u in record { place = suc p.place; state = p.state; at = p.at; same = p.same }
      ]

  kept_joined : (xs : List S) (s : S) → Kept xs (joined m xs s)
  kept_joined xs s =
      elim (listed m xs s) as (λ b. Kept xs (cond b xs (xs ++ s ∷ []))) [ true ↦ λ i t at. at | false ↦ kept_append xs (s ∷ []) ]

  pub kept_all : (xs ss : List S) → Kept xs (joined_all m xs ss)
  kept_all xs [] i s at = at
  kept_all xs (s ∷ ss) i t at = kept_all (joined m xs s) ss i t (kept_joined xs s i t at)

  pub kept_expanded : (xs : List S) (o : Option S) → Kept xs (expanded m xs o)
  kept_expanded xs None i s at = at
  kept_expanded xs (Some t) i s at = kept_all xs (outcomes_from m t 0 m.acts) i s at

  pub kept_found : (k r : ℕ) → k ≤ r → Kept (found m k) (found m r)
  kept_found k r h = le_ind (λ n. Kept (found m k) (found m n)) (λ i s at. at) (λ n _ kept i s at. kept_expanded (found m n) (slice_get (found m n) n) i s (kept i s at)) r h

  from_act : (s t : S) (a b n : ℕ) → b ≤ a → a < b + n → Memᴰ t (m.outcomes s a) → Memᴰ t (outcomes_from m s b n)
  from_act s t a b zero l h i = absurd (omega arith)
  from_act s t a b (suc n) l h i =
      elim (cases_lt b a) [
        | inl k ↦ Memᴰ.append_right (m.outcomes s b) (from_act s t a (suc b) n k (omega arith) i)
        | inr k ↦ Memᴰ.append_left (outcomes_from m s (suc b) n) (let e : a ≡ b = omega arith in subst (λ c. Memᴰ t (m.outcomes s c)) e i)
      ]

  -- a place that is empty when its turn comes stays empty
  pub empty_stays : (i r : ℕ) → i ≤ r → slice_get (found m i) i ≡ None → found m r ≡ found m i
  empty_stays i r h none = le_ind (λ n. found m n ≡ found m i) refl step r h
    where
      step : (n : ℕ) → i ≤ n → found m n ≡ found m i → found m (suc n) ≡ found m i
      step n k e =
          let past : length (found m i) ≤ i = place_past (found m i) i none in
          let empty : slice_get (found m n) n ≡ None = ap (λ xs. slice_get xs n) e ∙ slice_get_past (found m i) n (omega arith) in
          ap (expanded m (found m n)) empty ∙ e

  pub short_stays : (i r : ℕ) → i ≤ r → length (found m i) ≤ i → found m r ≡ found m i
  short_stays i r h short = empty_stays i r h (slice_get_past (found m i) i short)

  -- the start stands at place 0
  pub start_first : (r : ℕ) → slice_get (found m r) 0 ≡ Some m.start
  start_first r = kept_found 0 r (omega arith) 0 m.start refl

  -- a state that is listed once its place is expanded was there when its turn came
  pub was_there : (k i : ℕ) (s : S) → i < k → slice_get (found m k) i ≡ Some s → slice_get (found m i) i ≡ Some s
  was_there k i s below at = go (slice_get (found m i) i) refl
    where
      go : (o : Option S) → slice_get (found m i) i ≡ o → slice_get (found m i) i ≡ Some s
      go None none = absurd (none_some (ap (λ xs. slice_get xs i) (empty_stays i k (omega arith) none) ∙ none) at)
      go (Some t) here = let kept = kept_found i k (omega arith) i t here in cc

module _ {S : Type 0} (m : Meaning S) (law : Lawful m) where
  placed_joined : (xs : List S) (s : S) → Placed m (joined m xs s) s
  placed_joined xs s = go (listed m xs s) (placed_listed m xs s)
    where
      go : (b : Bool) → (T b → Placed m xs s) → Placed m (cond b xs (xs ++ s ∷ [])) s
      go true there = there tt
      go false there = record { place = length xs; state = s; at = nth_last xs s; same = law.reflexive s }

  placed_all : {s : S} (xs : List S) {ss : List S} → Memᴰ s ss → Placed m (joined_all m xs ss) s
  placed_all xs (Memᴰ.head {x = t} {xs = ss} e) = placed_kept m (kept_all m (joined m xs t) ss) (subst (Placed m (joined m xs t)) (sym e) (placed_joined xs t))
  placed_all xs (Memᴰ.tail {x = t} i) = placed_all (joined m xs t) i

  -- every outcome of an expanded place has a place
  pub expands : (k i : ℕ) (s : S) → i < k → slice_get (found m k) i ≡ Some s → (a : ℕ) → a < m.acts → (o : S) → Memᴰ o (m.outcomes s a) → Placed m (found m k) o
  expands k i s below at a known o out =
      let new = placed_all (found m i) (from_act m s o a 0 m.acts (omega arith) (omega arith) out) in
      placed_kept m (kept_found m (suc i) k below) (subst (λ x. Placed m (expanded m (found m i) x) o) (sym (was_there m k i s below at)) new)

  pub closed : (r : ℕ) → Final m r → (i : ℕ) (s : S) → slice_get (found m r) i ≡ Some s → (a : ℕ) → a < m.acts → (o : S) → Memᴰ o (m.outcomes s a) → Placed m (found m r) o
  closed r final i s at = expands r i s (omega (arith, slice_get_within (found m r) i s at)) at
