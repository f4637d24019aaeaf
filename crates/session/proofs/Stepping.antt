-- What a step answers, and that the walk in the record keeps pace with the walk that the calls tell of. Assumes nothing.
use Rattle.std.proofs.Common.{◌≡◌, ℕ, ◌+◌, ◌<◌, ◌≤◌, Bool, true, false, cond, T, [], ◌∷◌, Some, None, Ok, Err, Option, Result, sym, refl, ap, ◌∙◌, subst, arith}
use Rattle.std.specs.List.{slice_get}
use Rattle.session.specs.declared.plain.Walk.{Walk}
use Rattle.session.specs.declared.stops.StepStop.{StepStop}
use Rattle.session.specs.declared.calls.Step.{Step}
use Rattle.session.specs.declared.calls.Step.TheVariants.{Goal, Acted}
use Rattle.planning.specs.Meaning.{Meaning, Lawful}
use Rattle.planning.specs.Ranks.{Ranked, ActGiven}
use Rattle.planning.proofs.Tests.{iff, clash}
use Rattle.planning.proofs.Within.{ranked_alike, one_rank}
use Rattle.session.specs.ClosedForm.{progress, known}
use Rattle.session.specs.Views.{View, places, act_in}
use Rattle.session.specs.Stops.{step_number}
use Rattle.session.specs.Calls.{WalkKept}
use Rattle.session.specs.Walks.{Post, Carries, step_at, step_case, Moved, StepKept}
use Rattle.session.specs.Histories.{Event}
use Rattle.session.specs.Promise.{Trail, trail, step_owes, StepRight}
use Rattle.session.proofs.Settling.{Settled, settled_from}
use Rattle.session.proofs.Rows.{Stood, stood, stood_at, row_same, act_told, falls}

-- which answer a step gives and which number it owes: the state is the walk's, it is a goal, the bench is ready
abbrev near : Bool → Bool → Bool → ℕ
near x g r = cond x (cond g 0 (cond r 1 15)) 14

abbrev owed : Bool → Bool → Bool → ℕ
owed x g r = cond x (cond g 0 (cond r 0 15)) 14

owed_goal : (x g h r : Bool) → (T x → g ≡ h) → owed x g r ≡ owed x h r
owed_goal true g h r e = ap (λ y. cond y 0 (cond r 0 15)) (e tt)
owed_goal false g h r e = refl

refused : (x g r : Bool) (k : ℕ) → 13 ≤ k → k ≡ near x g r → k ≡ owed x g r
refused true true r k l e = e
refused true false true k l e = absurd (omega arith)
refused true false false k l e = e
refused false g r k l e = e

at_goal : (x g r : Bool) → near x g r ≡ 0 → T x × (T g × (owed x g r ≡ 0))
at_goal true true r e = (tt, (tt, refl))
at_goal true false true e = absurd (omega arith)
at_goal true false false e = absurd (omega arith)
at_goal false g r e = absurd (omega arith)

at_act : (x g r : Bool) → near x g r ≡ 1 → T x × ((g ≡ false) × (owed x g r ≡ 0))
at_act true true r e = absurd (omega arith)
at_act true false true e = (tt, (refl, refl))
at_act true false false e = absurd (omega arith)
at_act false g r e = absurd (omega arith)

stop_number : (e : StepStop) → 13 ≤ step_number {A = Step} (Err e)
stop_number StepStop.NoWalk = omega arith
stop_number StepStop.Elsewhere = omega arith
stop_number StepStop.NotReady = omega arith
stop_number StepStop.NotApplicable = omega arith

module _ {S : Type 0} (m : Meaning S) (n u : ℕ) where
  -- the walk in the record stands where the calls tell, and the acts done with the rank left are at most the first rank
  pub record Told (t : Trail S) (w : Walk) : Type 0 where
    pub state : S
    pub at : slice_get (known m n u) w.place ≡ Some state
    pub same : T (m.same state t.at)
    pub rank : ℕ
    pub ranked : Ranked m t.at (Some rank)
    pub bound : t.done + rank ≤ t.first

  abbrev pub Tells : Option (Trail S) → Option Walk → Type 0
  Tells None None = Unit {0}
  Tells None (Some w) = ⊥
  Tells (Some t) None = ⊥
  Tells (Some t) (Some w) = Told t w

module _ {S : Type 0} (m : Meaning S) (law : Lawful m) (u : ℕ) (v : View S) (b b' : Post S) where
  abbrev n : ℕ
  n = places v

  module _ (t : Trail S) (w : Walk) (told : Told m n u t w) where
    abbrev here : Bool
    here = m.same told.state b.state

    case_is : step_case m n u (Some w) b ≡ near here (m.goal told.state) b.ready
    case_is = ap (λ x. step_at m x b) told.at

    here_is : m.same t.at b.state ≡ here
    here_is = iff (m.same t.at b.state) here (λ h. law.transitive told.state t.at b.state told.same h) (λ h. law.transitive t.at told.state b.state (law.symmetric told.state t.at told.same) h)

    goal_is : T here → m.goal b.state ≡ m.goal told.state
    goal_is h = sym (law.same_goal told.state b.state h)

    owes_is : step_owes m (Some t) b ≡ owed here (m.goal told.state) b.ready
    owes_is = ap (λ x. owed x (m.goal b.state) b.ready) here_is ∙ owed_goal here (m.goal b.state) (m.goal told.state) b.ready goal_is

  module _ (w w' : Walk) (t : Trail S) (a k : ℕ) (kept : WalkKept m n (progress m n u) (Some w)) (told : Told m n u t w) (case : step_case m n u (Some w) b ≡ 1) (moves : Moved m u v b a k b' w w') where
    abbrev c : Settled m n u
    c = settled_from m n u kept.0

    -- the bench is where the walk is, at no goal
    at_walk : T (here t w told) × ((m.goal told.state ≡ false) × (owed (here t w told) (m.goal told.state) b.ready ≡ 0))
    at_walk = at_act (here t w told) (m.goal told.state) b.ready (sym (case_is t w told) ∙ case)

    no_goal : m.goal b.state ≡ false
    no_goal = goal_is t w told at_walk.0 ∙ at_walk.1.0

    -- the act is the lowest that gives the rank of the bench's state
    lowest : (j : ℕ) → Ranked m b.state (Some j) → ActGiven m b.state (Some j) (Some a)
    lowest j h =
        let s = stood m n u c b.state w.place told.state told.at at_walk.0 in
        let e = ap act_in (sym (row_same m law n u c b.state w.place told.state told.at at_walk.0)) ∙ moves.act_is in
        subst (ActGiven m b.state (Some j)) e (act_told m law n u c b.state s (Some j) h)

    -- one step lowers the rank of the walk
    lower : k < told.rank
    lower =
        let there : T (m.same t.at b.state) = subst T (sym (here_is t w told)) at_walk.0 in
        let rank = ranked_alike m law t.at b.state (Some told.rank) there told.ranked in
        let (ready, (x, (out, same))) = moves.carried in
        falls m law b.state told.rank a no_goal rank (lowest told.rank rank) x b'.state out same k moves.rank_is

    new : Stood m n u c b'.state
    new = stood_at m n u c b'.state w'.place (sym moves.place_is)

    new_at : slice_get (known m n u) w'.place ≡ Some new.state
    new_at = let e : Some w'.place ≡ Some new.place = moves.place_is ∙ new.is in let z : w'.place ≡ new.place = cc in ap (slice_get (known m n u)) z ∙ new.at

    act_kept : WalkKept m n (progress m n u) (Some w')
    act_kept =
        let (done, (s, (j, (at, (rank, low))))) = kept in
        let e : s ≡ told.state = let f : Some s ≡ Some told.state = sym at ∙ told.at in cc in
        let r : Ranked m t.at (Some j) = ranked_alike m law s t.at (Some j) (subst (λ x. T (m.same x t.at)) (sym e) told.same) rank in
        let same : j ≡ told.rank = one_rank m t.at j told.rank r told.ranked in
        (done, (new.state, (k, (new_at, (ranked_alike m law b'.state new.state (Some k) (law.symmetric new.state b'.state new.same) moves.rank_is, omega (arith, lower, moves.acts_are))))))

    walk_told : Told m n u (record { first = t.first; done = t.done + 1; at = b'.state }) w'
    walk_told = record { state = new.state; at = new_at; same = new.same; rank = k; ranked = moves.rank_is; bound = omega (arith, lower, told.bound) }

  -- what a step answers
  right_refused : (v' : View S) (t : Option (Trail S)) (e : StepStop) → step_number {A = Step} (Err e) ≡ step_owes m t b → (b' ≡ b) × (v' ≡ v) → StepRight m v t b (Err e) b' v'
  right_refused v' t e number same =
      record {
        number = number;
        goal = λ q. absurd (omega (arith, stop_number e));
        one_act = λ a k q. absurd (let z : ◌≡◌ {A = ℕ} 0 1 = cc in omega arith);
        lowest = λ a k j q. absurd (let z : ◌≡◌ {A = ℕ} 0 1 = cc in omega arith);
        goal_moves_nothing = λ q. same;
        refused = λ f q. same;
      }

  right_goal : (v' : View S) (t : Trail S) → 0 ≡ step_owes m (Some t) b → T (m.goal b.state) → (b' ≡ b) × (v' ≡ v) → StepRight m v (Some t) b (Ok Goal) b' v'
  right_goal v' t number g same =
      record {
        number = number;
        goal = λ q. (λ _. g, λ _. refl);
        one_act = λ a k q. absurd (let z : ◌≡◌ {A = ℕ} 0 1 = cc in omega arith);
        lowest = λ a k j q. absurd (let z : ◌≡◌ {A = ℕ} 0 1 = cc in omega arith);
        goal_moves_nothing = λ q. same;
        refused = λ f q. same;
      }

  right_act : (v' : View S) (t : Trail S) (w w' : Walk) (a k : ℕ) (kept : WalkKept m n (progress m n u) (Some w)) (told : Told m n u t w) (case : step_case m n u (Some w) b ≡ 1) (moves : Moved m u v b a k b' w w') → StepRight m v (Some t) b (Ok (Acted a k)) b' v'
  right_act v' t w w' a k kept told case moves =
      record {
        number = sym (owes_is t w told ∙ (at_walk w w' t a k kept told case moves).1.1);
        goal = λ q. (λ e. absurd (let z : ◌≡◌ {A = ℕ} 0 1 = cc in omega arith), λ i. absurd (clash (m.goal b.state) (no_goal w w' t a k kept told case moves) i));
        one_act = λ a' k' q. let y : a ≡ a' = cc in let z : k ≡ k' = cc in (subst (λ x. Carries m b x b') y moves.carried, subst (λ x. Ranked m b'.state (Some x)) z moves.rank_is);
        lowest = λ a' k' j q h. let y : a ≡ a' = cc in subst (λ x. ActGiven m b.state (Some j) (Some x)) y (lowest w w' t a k kept told case moves j h);
        goal_moves_nothing = λ q. absurd (let z : ◌≡◌ {A = ℕ} 0 1 = cc in omega arith);
        refused = λ f q. absurd (let z : ◌≡◌ {A = ℕ} 0 1 = cc in omega arith);
      }

  pub step_right : (v' : View S) (t : Option (Trail S)) (w w' : Option Walk) (r : Result Step StepStop) → WalkKept m n (progress m n u) w → Tells m n u t w → StepKept m u v b r b' v' w w' → StepRight m v t b r b' v'
  step_right v' None (Some w) w' r kept h k = absurd h
  step_right v' (Some t) None w' r kept h k = absurd h
  step_right v' None None w' (Err e) kept h k = right_refused v' None e k.0 k.1
  step_right v' None None w' (Ok Goal) kept h k = absurd (omega (arith, k.0))
  step_right v' None None w' (Ok (Acted a j)) kept h k = absurd k
  step_right v' (Some t) (Some w) w' (Err e) kept h k =
      right_refused v' (Some t) e (refused (here t w h) (m.goal h.state) b.ready (step_number {A = Step} (Err e)) (stop_number e) (k.0 ∙ case_is t w h) ∙ sym (owes_is t w h)) k.1
  step_right v' (Some t) (Some w) w' (Ok Goal) kept h k =
      let g = at_goal (here t w h) (m.goal h.state) b.ready (sym (case_is t w h) ∙ k.0) in
      right_goal v' t (sym (owes_is t w h ∙ g.1.1)) (subst T (sym (goal_is t w h g.0)) g.1.0) k.1
  step_right v' (Some t) (Some w) None (Ok (Acted a j)) kept h k = absurd k
  step_right v' (Some t) (Some w) (Some w') (Ok (Acted a j)) kept h k = right_act v' t w w' a j kept h k.0 k.1

  -- what a step leaves of the walk
  pub step_keeps : (v' : View S) (t : Option (Trail S)) (w w' : Option Walk) (r : Result Step StepStop) → (v' ≡ v → w' ≡ w) → WalkKept m n (progress m n u) w → Tells m n u t w → StepKept m u v b r b' v' w w' → WalkKept m n (progress m n u) w' × Tells m n u (trail t (Event.stepped b r b' ∷ [])) w'
  step_keeps v' t w w' (Err e) q kept h k = subst (λ x. WalkKept m n (progress m n u) x × Tells m n u t x) (sym (q k.1.1)) (kept, h)
  step_keeps v' t w w' (Ok Goal) q kept h k = subst (λ x. WalkKept m n (progress m n u) x × Tells m n u t x) (sym (q k.1.1)) (kept, h)
  step_keeps v' (Some t) (Some w) (Some w') (Ok (Acted a j)) q kept h k = (act_kept w w' t a j kept h k.0 k.1, walk_told w w' t a j kept h k.0 k.1)
  step_keeps v' None (Some w) (Some w') (Ok (Acted a j)) q kept h k = absurd h
  step_keeps v' t None w' (Ok (Acted a j)) q kept h k = absurd k
  step_keeps v' t (Some w) None (Ok (Acted a j)) q kept h k = absurd k
