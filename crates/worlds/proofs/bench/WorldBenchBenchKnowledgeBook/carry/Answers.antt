use Rattle.std.proofs.Common.{◌≡◌, ℕ, cond, T, Some, None, Ok, Err, sym, refl, ap, ◌∙◌, subst, arith}
use mathlib.Core.List.{Memᴰ}
use lib.Dec.{eqb_refl}
use Rattle.session.specs.declared.stops.CarryStop.{CarryStop}
use Rattle.epistemic.specs.Bits.{bit}
use Rattle.knowledge.specs.Books.{content, outcomes_at}
use Rattle.knowledge.specs.Moves.{class_outcome}
use Rattle.worlds.specs.Worlds.{seen, chosen, led}
use Rattle.worlds.proofs.Carrying.{happens, stuck, taken}
use Rattle.worlds.proofs.bench.WorldBenchBenchKnowledgeBook.carry.Goals as goal

pub returns-in_default : goal.returns-in_default
returns-in_default c =
    let p = content c.args.book.now in
    let b = c.args.self.now in
    let a = c.args.act in
    let is : None ≡ chosen p (seen b) a = c.in_default.ensures in
    let no_act = stuck p (seen b) a b.inside is in
    record {
      answer = sym (ap (λ t. cond t (Ok tt) (Err CarryStop.NotApplicable)) no_act);
      stop = sym (ap (λ t. cond t 0 16) no_act);
      bench = ap (led p (seen b) a) is;
      happens = happens p (seen b) a b.inside;
      carried = record { number_is = sym (ap (λ t. cond t 0 16) no_act); leaves = refl };
      refused = λ e _. refl;
    }

pub invariant_of-self : goal.invariant_of-self
invariant_of-self c =
    let p = content c.args.book.now in
    let b = c.args.self.now in
    let a = c.args.act in
    let m = c.in-Some.taken in
    let o : c.class_outcome-self.result ≡ class_outcome p b.cell a m.class = c.class_outcome-self.ensures in
    record { inside = subst (λ k. T (bit k m.valuation)) (sym o) (taken p (seen b) a m c.in-Some.ensures).lands.0 }

pub returns : goal.returns
returns c =
    let p = content c.args.book.now in
    let b = c.args.self.now in
    let a = c.args.act in
    let m = c.in-Some.taken in
    let is : Some m ≡ chosen p (seen b) a = c.in-Some.ensures in
    let t = taken p (seen b) a m is in
    let o : c.class_outcome-self.result ≡ class_outcome p b.cell a m.class = c.class_outcome-self.ensures in
    record {
      answer = sym (ap (λ t. cond t (Ok tt) (Err CarryStop.NotApplicable)) t.applies);
      stop = sym (ap (λ t. cond t 0 16) t.applies);
      bench = ap (λ o. record { cell = o; valuation = m.valuation; choice = b.choice }) o ∙ ap (led p (seen b) a) is;
      happens = happens p (seen b) a b.inside;
      carried =
          record {
            number_is = sym (ap (λ t. cond t 0 16) t.applies);
            leaves = (tt, (c.class_outcome-self.result, (subst (λ o. Memᴰ o (outcomes_at p b.cell a)) (sym o) t.lands.1, eqb_refl c.class_outcome-self.result)));
          };
      refused = λ e h. absurd (let z : ◌≡◌ {A = ℕ} 0 1 = cc in omega arith);
    }
