-- Runs: a choice's runs, and of each plan, from each state, a run that does most. Assumes nothing.
use Rattle.std.proofs.Common.{◌≡◌, ℕ, ◌+◌, ◌≤◌, Bool, false, T, ◌⊎◌, [], inl, inr, arith}
use mathlib.Core.List.{Memᴰ}
use Rattle.planning.specs.Meaning.{Meaning}
use Rattle.planning.specs.Plans.{Plan, skip, act, choose, andthen, End, failed, ends, Run, skipped, acted, stuck, chose_first, chose_second, broke_off, went_on}
use Rattle.planning.proofs.Tests.{so, holds, clash, decide}
use Rattle.planning.proofs.Lists.{no_member, best}

module _ {S : Type 0} (m : Meaning S) where
  pub run_choose : {f : S → Bool} {p q : Plan S} {s : S} {k : ℕ} {e : End S} → Run m (choose f p q) s k e → (T (f s) × Run m p s k e) ⊎ ((f s ≡ false) × Run m q s k e)
  run_choose {f} {s} (chose_first c r) = inl (holds (f s) c, r)
  run_choose (chose_second c r) = inr (c, r)

  -- a run of p from s that does most, where an end e counts for f e acts more
  pub record Longest (f : End S → ℕ) (p : Plan S) (s : S) : Type 0 where
    pub count : ℕ
    pub end : End S
    pub run : Run m p s count end
    pub most : (k : ℕ) (e : End S) → Run m p s k e → k + f e ≤ count + f end

  module _ (f : End S → ℕ) where
    most_skip : {s : S} {k : ℕ} {e : End S} → Run m skip s k e → k + f e ≤ 0 + f (ends s)
    most_skip skipped = omega arith

    most_act : {s : S} {a k : ℕ} {e : End S} (b : ℕ) → ((t : S) → Memᴰ t (m.outcomes s a) → 1 + f (ends t) ≤ b) → (m.outcomes s a ≡ [] → f failed ≤ b) → Run m (act a) s k e → k + f e ≤ b
    most_act b h n (acted i) = h _ i
    most_act b h n (stuck none) = omega (arith, n none)

    -- what an end of a first plan counts for, where a second follows
    abbrev after : {q : Plan S} → ((t : S) → Longest f q t) → End S → ℕ
    after next failed = f failed
    after next (ends t) = (next t).count + f (next t).end

    most_then : {p q : Plan S} {s : S} {k : ℕ} {e : End S} (b : ℕ) (next : (t : S) → Longest f q t) → ((k : ℕ) (e : End S) → Run m p s k e → k + after next e ≤ b) → Run m (andthen p q) s k e → k + f e ≤ b
    most_then b next h (broke_off r) = h _ _ r
    most_then b next h (went_on {t = t} {k = k} {l = l} {e = e} r r') = omega (arith, h k (ends t) r, (next t).most l e r')

    longest_then : {p q : Plan S} {s : S} (next : (t : S) → Longest f q t) (k : ℕ) (e : End S) → Run m p s k e → ((l : ℕ) (d : End S) → Run m p s l d → l + after next d ≤ k + after next e) → Longest f (andthen p q) s
    longest_then next k failed r h = record { count = k; end = failed; run = broke_off r; most = λ l d r'. most_then (k + f failed) next h r' }
    longest_then next k (ends t) r h =
        let n = next t in
        record { count = k + n.count; end = n.end; run = went_on r n.run; most = λ l d r'. omega (arith, most_then (k + (n.count + f n.end)) next h r') }

  pub longest : (f : End S → ℕ) (p : Plan S) (s : S) → Longest f p s
  longest f skip s = record { count = 0; end = ends s; run = skipped; most = λ k e r. most_skip f r }
  longest f (act a) s =
      elim (best (λ t. f (ends t)) (m.outcomes s a)) [
        | inl none ↦
            record { count = 0; end = failed; run = stuck none; most = λ k e r. most_act f (0 + f failed) (λ t i. absurd (no_member none i)) (λ _. omega arith) r }
        | inr b ↦
            record {
              count = 1;
              end = ends b.one;
              run = acted b.member;
              most = λ k e r. most_act f (1 + f (ends b.one)) (λ t i. omega (arith, b.most t i)) (λ none. absurd (no_member none b.member)) r;
            }
      ]
  longest f (choose c p q) s =
      elim (decide (c s)) [
        | inl t ↦
            let x = longest f p s in
            record {
              count = x.count;
              end = x.end;
              run = chose_first (so (c s) t) x.run;
              most = λ k e r. elim (run_choose r) [ inl h ↦ x.most k e h.1 | inr h ↦ absurd (clash (c s) h.0 t) ];
            }
        | inr n ↦
            let x = longest f q s in
            record {
              count = x.count;
              end = x.end;
              run = chose_second n x.run;
              most = λ k e r. elim (run_choose r) [ inl h ↦ absurd (clash (c s) n h.0) | inr h ↦ x.most k e h.1 ];
            }
      ]
  longest f (andthen p q) s =
      let next : (t : S) → Longest f q t = longest f q in
      let x = longest (after f next) p s in
      longest_then f next x.count x.end x.run x.most
