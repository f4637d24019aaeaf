-- From a ranked state that is no goal a walk can go on: its row has an act, the act is applicable, and each outcome is
-- listed with a rank. Assumes nothing.
use Rattle.std.proofs.Common.{◌≡◌, ℕ, suc, T, Some, None, Option, sym, refl, ap, ◌∙◌}
use mathlib.Core.List.{Memᴰ}
use Rattle.std.specs.List.{slice_get}
use Rattle.planning.specs.Meaning.{Meaning, Lawful}
use Rattle.planning.specs.Finding.{found, listed}
use Rattle.planning.specs.Ranks.{every, some_of, within, Ranked, Lowest, ActGiven, rank_by, act_of}
use Rattle.planning.proofs.Tests.{clash, holds, and_parts}
use Rattle.planning.proofs.Places.{placed_listed}
use Rattle.planning.proofs.Growth.{outcomes_listed}
use Rattle.planning.proofs.Seen.{seen_listed}
use Rattle.session.specs.ClosedForm.{known}
use Rattle.session.proofs.Settling.{Settled, settled_known}
use Rattle.session.proofs.Rows.{last, Stood, stood, rank_own, act_told, leads}

module _ {S : Type 0} (m : Meaning S) (law : Lawful m) (n u : ℕ) (c : Settled m n u) (o : S) (w : Stood m n u c o) (j : ℕ) (ranked : Ranked m o (Some (suc j))) where
  abbrev act : Option ℕ
  act = act_of m o (rank_by m (last m n u c) o)

  -- the act of the row
  pub record Next : Type 0 where
    pub by : ℕ
    pub is : act ≡ Some by
    pub low : Lowest m o j by

  pub next : Next
  next = go act refl (act_told m law n u c o w (Some (suc j)) ranked)
    where
      go : (x : Option ℕ) → act ≡ x → ActGiven m o (Some (suc j)) x → Next
      go None e g = absurd g
      go (Some a) e g = record { by = a; is = e; low = g }

  pub usable : (a : ℕ) → Lowest m o j a → T (some_of (m.outcomes o a))
  usable a l = (and_parts (some_of (m.outcomes o a)) (every (within m j) (m.outcomes o a)) l.gives).0

  -- a state that is listed, and has a rank
  pub record Landed (y : S) : Type 0 where
    pub stood : Stood m n u c y
    pub rank : ℕ
    pub is : rank_by m (last m n u c) y ≡ Some rank

  landed : (y : S) (s : Stood m n u c y) → T (within m j y) → Landed y
  landed y s low = go (rank_by m (last m n u c) y) refl (rank_own m law n u c y s)
    where
      go : (r : Option ℕ) → rank_by m (last m n u c) y ≡ r → Ranked m y r → Landed y
      go None q h = absurd (clash (within m j y) (h j) low)
      go (Some k) q h = record { stood = s; rank = k; is = q }

  -- whatever is the same as an outcome of the act
  pub lands : (a : ℕ) → Lowest m o j a → (x y : S) → Memᴰ x (m.outcomes o a) → T (m.same x y) → Landed y
  lands a l x y out e =
      let here : T (listed m (found m c.count) o) = holds (listed m (found m c.count) o) (ap (λ xs. listed m xs o) (sym (settled_known m n u c)) ∙ seen_listed m o 0 (known m n u) w.place w.is) in
      let p = placed_listed m (found m c.count) x (outcomes_listed m law c.count c.ends o here a x out) in
      let at : slice_get (known m n u) p.place ≡ Some p.state = ap (λ xs. slice_get xs p.place) (settled_known m n u c) ∙ p.at in
      landed y (stood m n u c y p.place p.state at (law.transitive p.state x y p.same e)) (leads m law o j a l x y out e)
