-- The answers of a knowledge book are those of epistemic models. Assumes nothing.
use Rattle.std.proofs.Common.{◌≡◌, ℕ, ◌%◌, ◌^◌, ◌<◌, Bool, true, false, cond, ◌&&◌, eqb, ltb, List, [], Some, None, Option, is_some, map, get_or, replicate, filter, sym, refl, ap, ◌∙◌, subst, ap₂, mod-eq_of_lt, arith, eqb→eq}
use mathlib.Core.List.Memᴰ
use native.Mathlib.Nat.{min-le_right}
use Rattle.std.specs.List.{range_with_len}
use Rattle.std.specs.Option.{MatchOption}
use Rattle.std.proofs.lemmas.Nat.{mod_below, pow_pos}
use Rattle.std.proofs.lemmas.Bool.{lt-ltb}
use Rattle.sheets.specs.Events.{Entry}
use Rattle.sheets.specs.Formulas.{Formula}
use Rattle.sheets.specs.Reading.{Parts}
use Rattle.epistemic.specs.Lists.{◌∈◌}
use Rattle.epistemic.specs.Cells.{fit, ProperCell, goal, truth}
use Rattle.epistemic.specs.Acts.{Proper, nonempty, possible, outcome, outcomes}
use Rattle.epistemic.specs.Claims.{OutcomesExplained}
use Rattle.epistemic.proofs.Tests.{eqb_from}
use Rattle.epistemic.proofs.Lists.{map_from}
use Rattle.epistemic.proofs.Truths.{goal_valid}
use Rattle.epistemic.proofs.Sameness.{equal_if_bisimilar}
use Rattle.epistemic.proofs.Outcomes.{outcomes_explained, outcome_proper, outside_none, outside_no_goal, empty_none, empty_goal}
use Rattle.knowledge.specs.Texts.{read}
use Rattle.knowledge.specs.Acting.{event_of}
use Rattle.knowledge.specs.Books.{letters, act_count, events_at, goal_formula, outcomes_at, class_masks}
use Rattle.knowledge.specs.Claims.{TextsRead, OutcomesRight, GoalRight, SameRight}
use Rattle.knowledge.specs.Laws.{past_none}
use Rattle.knowledge.specs.declared.cell.Cell.{Cell}
use Rattle.knowledge.proofs.Readings.{read_whole}

-- events read from bytes are proper
events_proper : (n : ℕ) (es : List Entry) → Proper n (map (event_of n) es)
events_proper n es =
    record {
      class_below = λ e i. let r = map_from (event_of n) es e i in subst (λ x. x.class < 8) (sym r.1.1) (mod_below r.0.class 8 (omega arith));
      set_below = λ e i. let r = map_from (event_of n) es e i in subst (λ x. x.set < 2 ^ n) (sym r.1.1) (mod_below r.0.set (2 ^ n) (pow_pos n));
    }

module _ (p : Parts) where
  abbrev n : ℕ
  n = letters p

  pub book_events_proper : (a : ℕ) → Proper n (events_at p a)
  book_events_proper a = events_proper n (get_or p.acts a [])

  pub texts_read : TextsRead p
  texts_read =
      record {
        goal = λ f s. ap (λ r. r.formula) (read_whole n (min-le_right p.features 6) s);
        event = λ e f class set clear s. whole e f (mod-eq_of_lt class) (mod-eq_of_lt set) (mod-eq_of_lt clear) (ap (λ r. r.formula) (read_whole n (min-le_right p.features 6) s));
      }
    where
      whole : (e : Entry) (f : Formula) → e.class % 8 ≡ e.class → e.set % 2 ^ n ≡ e.set → e.clear % 2 ^ n ≡ e.clear → (read n e.condition).formula ≡ f → event_of n e ≡ record { class = e.class; pre = f; set = e.set; clear = e.clear }
      whole e f class set clear pre =
          ap₂ (λ k g. record { class = k; pre = g; set = e.set % 2 ^ n; clear = e.clear % 2 ^ n }) class pre
          ∙ ap₂ (λ s k. record { class = e.class; pre = f; set = s; clear = k }) set clear

  -- the outcomes of an act below the last
  below : (c a : ℕ) → a < act_count p → outcomes_at p c a ≡ outcomes n c (events_at p a)
  below c a h = ap (λ b. cond b (outcomes n c (events_at p a)) []) (lt-ltb a (act_count p) h)

  either : (c a : ℕ) → outcomes n c (events_at p a) ≡ [] → outcomes_at p c a ≡ []
  either c a none = ap (λ os. cond (ltb a (act_count p)) os []) none ∙ same (ltb a (act_count p))
    where
      same : (b : Bool) → cond {A = List ℕ} b [] [] ≡ []
      same true = refl
      same false = refl

  pub outcomes_right : (c a : ℕ) → OutcomesRight p c a
  outcomes_right c a =
      record {
        proper = λ cell h. subst (OutcomesExplained n c (events_at p a)) (sym (below c a h)) (outcomes_explained n c (events_at p a) cell (book_events_proper a));
        cells = λ o i. member (ltb a (act_count p)) o i;
        empty = λ e. either c a (ap (λ x. outcomes n x (events_at p a)) e ∙ empty_none n (events_at p a));
        outside = λ h. either c a (outside_none n c (events_at p a) h);
        past = past_none p c a;
      }
    where
      member : (b : Bool) (o : ℕ) → o ∈ cond b (outcomes n c (events_at p a)) [] → ProperCell n o
      member true o i = outcome_proper n c (events_at p a) o i
      member false o i = absurd (Memᴰ.not-nil i)

  pub goal_right : (c : ℕ) → GoalRight p c (goal n (goal_formula p) c)
  goal_right c =
      record {
        proper = λ cell. goal_valid n c (goal_formula p) cell.1;
        empty = λ e. ap (goal n (goal_formula p)) e ∙ empty_goal n (goal_formula p);
        outside = outside_no_goal n c (goal_formula p);
      }

  -- the goal formula is compared by its mask in a cell, and nothing else is a goal
  pub goal_masked : (c : ℕ) (o : Option Cell) → is_some o ≡ fit n c → ((x : Cell) → o ≡ Some x → (x.letters ≡ n) × (x.mask ≡ c)) → (r : Bool) (tells : Cell → Type 0) → MatchOption o (r ≡ false) tells → ((x : Cell) → tells x → r ≡ eqb (truth x.letters x.mask (read x.letters p.goal).formula) x.mask) → r ≡ goal n (goal_formula p) c
  goal_masked c (Some x) some cell r tells told tell =
      tell x told
      ∙ ap₂ (λ k m. eqb (truth k m (read k p.goal).formula) m) (cell x refl).0 (cell x refl).1
      ∙ ap (λ b. b && eqb (truth n c (goal_formula p)) c) some
  goal_masked c None some cell r tells told tell = told ∙ ap (λ b. b && eqb (truth n c (goal_formula p)) c) some

  pub same_right : (c d : ℕ) → SameRight p c d (eqb c d)
  same_right c d =
      record {
        if = λ cell-c cell-d b. eqb_from c d ((equal_if_bisimilar n c d cell-c.1 cell-d.1).if b);
        only_if = λ cell-c cell-d t. (equal_if_bisimilar n c d cell-c.1 cell-d.1).only_if (eqb→eq c d t);
      }

  -- the outcomes are the masks of the classes that are not empty
  pub kept_classes : (c a : ℕ) → filter nonempty (class_masks p c a) ≡ outcomes_at p c a
  kept_classes c a = go (ltb a (act_count p)) (fit n c) (eqb (possible n c (events_at p a)) c)
    where
      all : List ℕ
      all = map (λ k. outcome n c k (events_at p a)) (range_with_len 0 8)

      go : (b f t : Bool) → filter nonempty (cond ((b && f) && t) all (replicate 8 0)) ≡ cond b (cond (f && t) (filter nonempty all) []) []
      go true true true = refl
      go true true false = refl
      go true false t = refl
      go false f t = refl
