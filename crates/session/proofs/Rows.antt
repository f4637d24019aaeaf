-- The row of a state in a search that has gone to its end: it tells the state's rank, and the lowest act that gives it.
-- Assumes nothing.
use Rattle.std.proofs.Common.{◌≡◌, ℕ, zero, suc, ◌+◌, ◌-◌, ◌*◌, ◌<◌, false, cond, T, length, Some, None, Option, sym, refl, ap, ◌∙◌, subst, ap₂, inl, inr, suc-mul, mul_comm, mul-add, arith}
use mathlib.Core.Path.{fun_ext}
use mathlib.Core.List.{Memᴰ}
use Rattle.std.specs.List.{slice_get}
use Rattle.std.proofs.lemmas.Bool.{cases_lt}
use Rattle.std.proofs.lemmas.Option.{slice_get_within}
use Rattle.planning.specs.Meaning.{Meaning, Lawful}
use Rattle.planning.specs.Finding.{found, place_of}
use Rattle.planning.specs.Ranks.{every, some_of, first_act, within, Ranked, Lowest, ActGiven, rank_next, rank_by, act_of, largest}
use Rattle.planning.proofs.Tests.{clash, and_parts}
use Rattle.planning.proofs.Lists.{every_at}
use Rattle.planning.proofs.Within.{within_alike, brings_alike, ranked_alike}
use Rattle.planning.proofs.Deepest.{rank_stays, deepest_most}
use Rattle.planning.proofs.Bridges.{ranked_some, ranked_none}
use Rattle.planning.proofs.Seen.{Seen, seen, placed}
use Rattle.planning.proofs.Settled.{ranks_settled}
use Rattle.session.specs.ClosedForm.{row_by, rows_from, known, known_rows}
use Rattle.session.specs.Views.{row_at}
use Rattle.session.specs.Calls.{row_of}
use Rattle.session.proofs.Levels.{level, level_is, rows_at}
use Rattle.session.proofs.Phases.{total}
use Rattle.session.proofs.Settling.{Settled, settled_progress, settled_known}

-- same states have the same row
module _ {S : Type 0} (m : Meaning S) (law : Lawful m) (s t : S) (e : T (m.same s t)) where
  rank_alike : (j : ℕ) → rank_by m j s ≡ rank_by m j t
  rank_alike zero = ap (λ b. cond b (Some 0) None) (law.same_goal s t e)
  rank_alike (suc j) = ap₂ (rank_next j) (rank_alike j) (within_alike m law (suc j) s t e)

  act_alike : (o : Option ℕ) → act_of m s o ≡ act_of m t o
  act_alike None = refl
  act_alike (Some zero) = refl
  act_alike (Some (suc j)) = ap (λ f. first_act f 0 m.acts) (fun_ext (λ a. brings_alike m law j s t a e))

  row_alike : (j : ℕ) → row_by m j s ≡ row_by m j t
  row_alike j = ap₂ (λ r a. record { rank = r; act = a }) (rank_alike j) (act_alike (rank_by m j s) ∙ ap (act_of m t) (rank_alike j))

module _ {S : Type 0} (m : Meaning S) (n u : ℕ) (c : Settled m n u) where
  abbrev r : ℕ
  r = c.count

  -- the sweep that ranked nothing
  abbrev pub last : ℕ
  last = suc (largest m (found m r))

  -- the first place of a state that is the same as o
  pub record Stood (o : S) : Type 0 where
    pub place : ℕ
    pub state : S
    pub is : place_of m (known m n u) o ≡ Some place
    pub at : slice_get (known m n u) place ≡ Some state
    pub same : T (m.same state o)

  level_last : (p : ℕ) → p < r → level r (total m r) p ≡ last
  level_last p h =
      let l = largest m (found m r) in
      let a : total m r ≡ r * l + r * 2 = mul-add r l 2 in
      let b : suc l * r ≡ l * r + r = suc-mul l r in
      let d : l * r ≡ r * l = mul_comm l r in
      level_is r (total m r) p (suc l) (r - (p + 1)) (omega arith) (omega arith)

  pub known_count : length (known m n u) ≡ r
  known_count = ap length (settled_known m n u c) ∙ c.ends

  row_there : (p : ℕ) (s : S) → slice_get (known m n u) p ≡ Some s → slice_get (known_rows m n u) p ≡ Some (row_by m last s)
  row_there p s e =
      let below : p < r = omega (arith, slice_get_within (known m n u) p s e, known_count) in
      let z : 0 + p ≡ p = omega arith in
      ap₂ (λ k w. slice_get (rows_from m k w 0 (known m n u)) p) known_count (ap (λ x. x.units) (settled_progress m n u c))
      ∙ rows_at m r (total m r) 0 (known m n u) p s e
      ∙ ap (λ k. Some (row_by m (level r (total m r) k) s)) z
      ∙ ap (λ k. Some (row_by m k s)) (level_last p below)

  stood_from : (o : S) → Seen m o 0 (known m n u) → Stood o
  stood_from o w = let z : 0 + w.place ≡ w.place = omega arith in record { place = w.place; state = w.state; is = w.is ∙ ap Some z; at = w.at; same = w.same }

  pub stood : (o : S) (p : ℕ) (s : S) → slice_get (known m n u) p ≡ Some s → T (m.same s o) → Stood o
  stood o p s e h = stood_from o (seen m o 0 (known m n u) p s e h)

  pub stood_at : (o : S) (p : ℕ) → place_of m (known m n u) o ≡ Some p → Stood o
  stood_at o p e = stood_from o (placed m o 0 (known m n u) p e)

module _ {S : Type 0} (m : Meaning S) (law : Lawful m) (n u : ℕ) (c : Settled m n u) (o : S) where
  abbrev by_last : Option ℕ
  by_last = rank_by m (last m n u c) o

  -- the row at a place is the row of each state that is the same as the one there
  pub row_same : (p : ℕ) (s : S) → slice_get (known m n u) p ≡ Some s → T (m.same s o) → slice_get (known_rows m n u) p ≡ Some (row_by m (last m n u c) o)
  row_same p s e h = row_there m n u c p s e ∙ ap Some (row_alike m law s o h (last m n u c))

  module _ (w : Stood m n u c o) where
    pub row_own : row_of m n u o ≡ Some (row_by m (last m n u c) o)
    row_own = ap (row_at (known_rows m n u)) w.is ∙ row_same w.place w.state w.at w.same

    blank_own : by_last ≡ None → Ranked m o None
    blank_own e =
        let r = c.count in
        let at : slice_get (found m r) w.place ≡ Some w.state = ap (λ xs. slice_get xs w.place) (sym (settled_known m n u c)) ∙ w.at in
        let stays = rank_stays m law r c.ends w.place w.state at in
        let there : rank_by m (last m n u c) w.state ≡ None = rank_alike m law w.state o w.same (last m n u c) ∙ e in
        ranked_alike m law w.state o None w.same
        (ranked_none m law r c.ends w.place w.state at (stays r (deepest_most m law r c.ends) ∙ sym (stays (last m n u c) (omega arith)) ∙ there))

    -- the rank in the row is the state's
    pub rank_own : Ranked m o by_last
    rank_own = go by_last refl
      where
        go : (x : Option ℕ) → by_last ≡ x → Ranked m o x
        go None e = blank_own e
        go (Some k) e = ranked_some m (last m n u c) o k e

    pub rank_told : (x : Option ℕ) → Ranked m o x → by_last ≡ x
    rank_told x h = (ranks_settled m law).one_rank o by_last x rank_own h

    -- the act in the row is the lowest that gives the rank
    pub act_told : (x : Option ℕ) → Ranked m o x → ActGiven m o x (act_of m o by_last)
    act_told x h = subst (λ y. ActGiven m o y (act_of m o by_last)) (rank_told x h) ((ranks_settled m law).act_given (last m n u c) o)

module _ {S : Type 0} (m : Meaning S) (law : Lawful m) (o : S) where
  -- the lowest act that gives a rank leads to lower ranks only
  pub leads : (j a : ℕ) → Lowest m o j a → (x y : S) → Memᴰ x (m.outcomes o a) → T (m.same x y) → T (within m j y)
  leads j a l x y out s =
      let each = (and_parts (some_of (m.outcomes o a)) (every (within m j) (m.outcomes o a)) l.gives).1 in
      subst T (within_alike m law j x y s) (every_at (within m j) out each)

  pub falls : (k a : ℕ) → m.goal o ≡ false → Ranked m o (Some k) → ActGiven m o (Some k) (Some a) → (x y : S) → Memᴰ x (m.outcomes o a) → T (m.same x y) → (i : ℕ) → Ranked m y (Some i) → i < k
  falls zero a f h g x y out s i q = absurd (clash (m.goal o) f h.0)
  falls (suc j) a f h g x y out s i q = elim (cases_lt j i) [ inl l ↦ absurd (clash (within m j y) (q.1 j l) (leads j a g x y out s)) | inr l ↦ omega arith ]
