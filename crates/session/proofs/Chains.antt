-- Joining one list after another. Assumes nothing.
use Rattle.std.proofs.Common.{◌≡◌, ℕ, zero, suc, ◌+◌, ◌-◌, ◌<◌, ◌≤◌, Bool, true, false, cond, List, [], ◌∷◌, ◌++◌, length, take, sym, refl, ap, ◌∙◌, subst, arith}
use Rattle.std.proofs.lemmas.List.{append-nil, append_assoc, length-append, take-append-le}
use Rattle.planning.specs.Meaning.{Meaning}
use Rattle.planning.specs.Finding.{listed, joined, joined_all, outcomes_from}
use Rattle.session.specs.Views.{View, places}
use Rattle.session.specs.Joins.{Lists, Tried, Joins}
use Rattle.session.proofs.Joining.{keeps_on, keeps_same}

module _ {S : Type 0} (m : Meaning S) where
  pub all_on : (ts ss us : List S) → joined_all m ts (ss ++ us) ≡ joined_all m (joined_all m ts ss) us
  all_on ts [] us = refl
  all_on ts (s ∷ ss) us = all_on (joined m ts s) ss us

  joined_new : (ts : List S) (s : S) → (new : List S) × (joined m ts s ≡ ts ++ new)
  joined_new ts s = elim (listed m ts s) as (λ b. (new : List S) × (cond b ts (ts ++ s ∷ []) ≡ ts ++ new)) [ true ↦ ([], sym (append-nil ts)) | false ↦ (s ∷ [], refl) ]

  pub all_new : (ts ss : List S) → (new : List S) × (joined_all m ts ss ≡ ts ++ new)
  all_new ts [] = ([], sym (append-nil ts))
  all_new ts (s ∷ ss) =
      let a = joined_new ts s in
      let b = all_new (joined m ts s) ss in
      (a.0 ++ b.0, b.1 ∙ ap (λ xs. xs ++ b.0) a.1 ∙ append_assoc ts a.0 b.0)

  full_stays : (ts ss : List S) (v : View S) → Tried m false ts v → Tried m false (joined_all m ts ss) v
  full_stays ts ss v (over, l) =
      let n = all_new ts ss in
      let long : length (joined_all m ts ss) ≡ length ts + length n.0 = ap length n.1 ∙ length-append ts n.0 in
      let same : take (places v) (joined_all m ts ss) ≡ take (places v) ts = ap (take (places v)) n.1 ∙ take-append-le (places v) ts n.0 (omega arith) in
      let o : places v < length (joined_all m ts ss) = omega arith in
      (o, subst (λ xs. Lists m xs v) (sym same) l)

  pub joins_on : (ss us : List S) (v w x : View S) (r : Bool) → Joins m ss v true w → Joins m us w r x → Joins m (ss ++ us) v r x
  joins_on ss us v w x r a b =
      record {
        lists = λ ts l. subst (λ xs. Tried m r xs x) (sym (all_on ts ss us)) (b.lists (joined_all m ts ss) (a.lists ts l));
        progress = b.progress ∙ a.progress;
        keeps = keeps_on v w x a.keeps b.keeps;
      }

  pub joins_stop : (ss us : List S) (v w : View S) → Joins m ss v false w → Joins m (ss ++ us) v false w
  joins_stop ss us v w a =
      record {
        lists = λ ts l. subst (λ xs. Tried m false xs w) (sym (all_on ts ss us)) (full_stays (joined_all m ts ss) us w (a.lists ts l));
        progress = a.progress;
        keeps = a.keeps;
      }

  -- the outcomes of the first n acts, and of k more
  pub outcomes_on : (s : S) (a n k : ℕ) → outcomes_from m s a (n + k) ≡ outcomes_from m s a n ++ outcomes_from m s (a + n) k
  outcomes_on s a zero k = ap₂o (let e : 0 + k ≡ k = omega arith in e) (let e : a ≡ a + 0 = omega arith in e)
    where
      ap₂o : {i j b c : ℕ} → i ≡ j → b ≡ c → outcomes_from m s b i ≡ outcomes_from m s c j
      ap₂o p q = cc
  outcomes_on s a (suc n) k =
      let e : suc n + k ≡ suc (n + k) = omega arith in
      let f : suc a + n ≡ a + suc n = omega arith in
      ap (outcomes_from m s a) e ∙ ap (λ xs. m.outcomes s a ++ xs) (outcomes_on s (suc a) n k) ∙ sym (append_assoc (m.outcomes s a) (outcomes_from m s (suc a) n) (outcomes_from m s (suc a + n) k))
      ∙ ap (λ i. (m.outcomes s a ++ outcomes_from m s (suc a) n) ++ outcomes_from m s i k) f

  pub outcomes_more : (s : S) (n : ℕ) → outcomes_from m s 0 (n + 1) ≡ outcomes_from m s 0 n ++ m.outcomes s n
  outcomes_more s n =
      let e : 0 + n ≡ n = omega arith in
      outcomes_on s 0 n 1 ∙ ap (λ xs. outcomes_from m s 0 n ++ xs) (append-nil (m.outcomes s (0 + n)) ∙ ap (m.outcomes s) e)

  pub outcomes_rest : (s : S) (n k : ℕ) → n + 1 ≤ k → outcomes_from m s 0 k ≡ (outcomes_from m s 0 n ++ m.outcomes s n) ++ outcomes_from m s (0 + (n + 1)) (k - (n + 1))
  outcomes_rest s n k h =
      let e : k ≡ (n + 1) + (k - (n + 1)) = omega arith in
      ap (outcomes_from m s 0) e ∙ outcomes_on s 0 (n + 1) (k - (n + 1)) ∙ ap (λ xs. xs ++ outcomes_from m s (0 + (n + 1)) (k - (n + 1))) (outcomes_more s n)

  -- over the outcomes of one act, of which ys have joined and others are left
  pub none_joined : (v : View S) → Joins m [] v true v
  none_joined v = record { lists = λ ts l. l; progress = refl; keeps = keeps_same v }

  pub outcome_stopped : (ys : List S) (o : S) (left os : List S) (v w x : View S) → ys ++ o ∷ left ≡ os → Joins m ys v true w → Joins m (o ∷ []) w false x → Joins m os v false x
  outcome_stopped ys o left os v w x e before h = subst (λ xs. Joins m xs v false x) e (joins_on ys (o ∷ left) v w x false before (joins_stop (o ∷ []) left w x h))

  pub left_on : (ys : List S) (o : S) (left later os : List S) → left ≡ o ∷ later → ys ++ left ≡ os → (ys ++ o ∷ []) ++ later ≡ os
  left_on ys o left later os e f = append_assoc ys (o ∷ []) later ∙ ap (λ xs. ys ++ xs) (sym e) ∙ f

  pub all_joined : (ys left os : List S) (v w : View S) → left ≡ [] → ys ++ left ≡ os → Joins m ys v true w → Joins m os v true w
  all_joined ys left os v w e f = subst (λ xs. Joins m xs v true w) (sym (append-nil ys) ∙ sym (ap (λ xs. ys ++ xs) e) ∙ f)

  -- over the acts
  module _ (s : S) (a : ℕ) (v w x : View S) (before : Joins m (outcomes_from m s 0 a) v true w) where
    pub act_joined : (r : Bool) → Joins m (m.outcomes s a) w r x → Joins m (outcomes_from m s 0 (a + 1)) v r x
    act_joined r h = subst (λ xs. Joins m xs v r x) (sym (outcomes_more s a)) (joins_on (outcomes_from m s 0 a) (m.outcomes s a) v w x r before h)

    pub act_stopped : (n : ℕ) → a < n → Joins m (m.outcomes s a) w false x → Joins m (outcomes_from m s 0 n) v false x
    act_stopped n l h =
        subst (λ xs. Joins m xs v false x) (sym (outcomes_rest s a n (omega arith)))
        (joins_stop (outcomes_from m s 0 a ++ m.outcomes s a) (outcomes_from m s (0 + (a + 1)) (n - (a + 1))) v x (joins_on (outcomes_from m s 0 a) (m.outcomes s a) v w x false before h))
