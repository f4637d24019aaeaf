-- Which move an act makes, and where it leads. Assumes nothing.
use Rattle.std.proofs.Common.{◌≡◌, ℕ, zero, suc, ◌%◌, ◌<◌, Bool, true, false, cond, T, List, [], ◌∷◌, length, Some, None, sym, refl, ap, ◌∙◌, subst, mod-lt, arith}
use Rattle.std.specs.List.{slice_get}
use Rattle.planning.specs.Ranks.{some_of}
use Rattle.sheets.specs.Reading.{Parts}
use Rattle.epistemic.specs.Bits.{bit}
use Rattle.epistemic.specs.Lists.{◌∈◌}
use Rattle.planning.proofs.Tests.{so, holds, fails}
use Rattle.knowledge.specs.Books.{outcomes_at}
use Rattle.knowledge.specs.Moves.{moves_at, class_outcome}
use Rattle.knowledge.specs.declared.moves.Move.{Move}
use Rattle.knowledge.proofs.Landing.{landed, some_move}
use Rattle.worlds.specs.Worlds.{World, applicable, chosen, Happens}

-- each number below the length is that of an element
numbered : {X : Type 0} (xs : List X) (k : ℕ) → k < length xs → (x : X) × (slice_get xs k ≡ Some x)
numbered [] k h = absurd (omega arith)
numbered (x ∷ xs) zero h = (x, refl)
numbered (x ∷ xs) (suc k) h = numbered xs k (omega arith)

module _ (p : Parts) (w : World) (a : ℕ) where
  abbrev moves : List Move
  moves = moves_at p w.cell w.valuation a

  some_outcomes : T (applicable p w a) → outcomes_at p w.cell a ≡ [] → ⊥
  some_outcomes t e = subst T (ap some_of e) t

  from_outcomes : (b : Bool) → applicable p w a ≡ b → chosen p w a ≡ cond b (slice_get moves (w.choice % length moves)) None
  from_outcomes b e = ap (λ t. cond t (slice_get moves (w.choice % length moves)) None) e

  -- a move that is chosen, and where it leads
  pub record Taken (m : Move) : Type 0 where
    pub applies : applicable p w a ≡ true
    pub lands : T (bit (class_outcome p w.cell a m.class) m.valuation) × (class_outcome p w.cell a m.class ∈ outcomes_at p w.cell a)

  -- a move is chosen only where the act is applicable
  pub taken : (m : Move) → Some m ≡ chosen p w a → Taken m
  taken m e = go (applicable p w a) refl e
    where
      go : (b : Bool) → applicable p w a ≡ b → Some m ≡ cond b (slice_get moves (w.choice % length moves)) None → Taken m
      go true t h =
          record {
            applies = t;
            lands = (landed p w.cell w.valuation a (w.choice % length moves) m (sym h)).lands (some_outcomes (holds (applicable p w a) t));
          }
      go false t h = absurd (let z : ◌≡◌ {A = ℕ} 0 1 = cc in omega arith)

  -- where the actual valuation lies in the cell, a move is chosen wherever the act is applicable
  pub happens : T (bit w.cell w.valuation) → Happens p w a
  happens inside t =
      let some = some_move p w.cell w.valuation a (length moves) refl (some_outcomes t) inside in
      let r = numbered moves (w.choice % length moves) (mod-lt w.choice some) in
      (r.0, (from_outcomes true (so (applicable p w a) t) ∙ r.1, landed p w.cell w.valuation a (w.choice % length moves) r.0 r.1))

  -- and none only where it is not
  pub stuck : T (bit w.cell w.valuation) → None ≡ chosen p w a → applicable p w a ≡ false
  stuck inside e =
      fails (applicable p w a) (λ t. let m = happens inside t in let is = m.1.0 in let z : ◌≡◌ {A = ℕ} 0 1 = cc in omega arith)
