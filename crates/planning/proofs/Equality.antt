-- A book whose sameness is equality is lawful once its acts and outcomes are few. Assumes nothing.
use Rattle.std.proofs.Common.{◌≡◌, ℕ, ◌≤◌, T, List, [], ◌∷◌, length, ap, subst}
use Rattle.planning.specs.Meaning.{Meaning, Alike, Lawful}

module _ {S : Type 0} (m : Meaning S) (same_itself : (s : S) → T (m.same s s)) (equal : (s t : S) → T (m.same s t) → s ≡ t) where
  alike_itself : (ss : List S) → Alike m.same ss ss
  alike_itself [] = tt
  alike_itself (s ∷ ss) = (same_itself s, alike_itself ss)

  pub lawful_by_equality : m.acts ≤ 16 → ((s : S) (a : ℕ) → m.acts ≤ a → m.outcomes s a ≡ []) → ((s : S) (a : ℕ) → length (m.outcomes s a) ≤ 8) → Lawful m
  lawful_by_equality few_acts no_act few_outcomes =
      record {
        few_acts = few_acts;
        no_act = no_act;
        few_outcomes = few_outcomes;
        reflexive = same_itself;
        symmetric = λ s t h. subst (λ x. T (m.same x s)) (equal s t h) (same_itself s);
        transitive = λ s t u h k. subst (λ x. T (m.same s x)) (equal t u k) h;
        same_goal = λ s t h. ap m.goal (equal s t h);
        same_outcomes = λ s t a h. subst (λ x. Alike m.same (m.outcomes s a) (m.outcomes x a)) (equal s t h) (alike_itself (m.outcomes s a));
      }
