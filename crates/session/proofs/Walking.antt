-- What start and step do to any session, and why a step of a session that stands never loses its way. Assumes nothing.
use Rattle.std.proofs.Common.{◌≡◌, ℕ, zero, suc, ◌+◌, ◌<◌, ◌≤◌, min, Bool, true, false, cond, T, List, length, take, is_err, IsErrAnd, Some, None, Ok, Err, Option, Result, sym, refl, ap, ◌∙◌, subst, ap₂, arith, length-take}
use Rattle.std.specs.List.{slice_get}
use Rattle.std.specs.Option.{ok_or}
use Rattle.std.proofs.lemmas.Option.{slice_get_within}
use Rattle.session.specs.declared.plain.Row.{Row}
use Rattle.session.specs.declared.plain.Walk.{Walk}
use Rattle.session.specs.declared.stops.AskStop.{AskStop}
use Rattle.session.specs.declared.stops.StartStop.{StartStop}
use Rattle.session.specs.declared.stops.StepStop.{StepStop}
use Rattle.session.specs.declared.stops.CarryStop.{CarryStop}
use Rattle.session.specs.declared.calls.Step.{Step}
use Rattle.session.specs.declared.calls.Step.TheVariants.{Goal, Acted}
use Rattle.planning.specs.Meaning.{Meaning, Lawful}
use Rattle.planning.specs.Finding.{place_of, found}
use Rattle.planning.specs.Ranks.{some_of, Ranked, Lowest, rank_by, act_of}
use Rattle.planning.proofs.Tests.{so, clash}
use Rattle.planning.proofs.Lists.{none_some}
use Rattle.planning.proofs.Within.{ranked_alike}
use Rattle.session.specs.ClosedForm.{progress, row_by, known}
use Rattle.session.specs.Views.{View, places, row_at, rank_in, act_in, row_told, with_rank, ranked_at, ranked_place}
use Rattle.session.specs.Stops.{carry_number, step_stop}
use Rattle.session.specs.Calls.{Stands, WalkKept, row_of, conclusion, ask_answer}
use Rattle.session.specs.Walks.{Post, Carries, Carried, ranked_answer, start_answer, OnlyWalk, Started, step_at, step_case, StepKept}
use Rattle.planning.proofs.Lists.{nth_take}
use Rattle.session.proofs.Asking.{states_known, row_known, told_known, ask_concluded}
use Rattle.session.proofs.Settling.{Settled, settled_from}
use Rattle.session.proofs.Rows.{last, Stood, stood, row_same, row_own, rank_own, rank_told}
use Rattle.session.proofs.Onward.{next, usable, lands}
use Rattle.session.proofs.Histories.{walked}

-- what `?` makes of a bench's refusal
pub refusal : (r : Result Step StepStop) (e : CarryStop) → is_err r ≡ true → IsErrAnd r (λ x. x ≡ step_stop e) → r ≡ Err (step_stop e)
refusal (Ok x) e q h = absurd (let z : ◌≡◌ {A = ℕ} 0 1 = cc in omega arith)
refusal (Err x) e q h = ap Err h

-- what a bench's number tells of it
not_ready : (r x : Bool) → ◌≡◌ {A = ℕ} 15 (cond r (cond x 0 16) 15) → r ≡ false
not_ready true true e = absurd (omega arith)
not_ready true false e = absurd (omega arith)
not_ready false x e = refl

not_usable : (r x : Bool) → ◌≡◌ {A = ℕ} 16 (cond r (cond x 0 16) 15) → x ≡ false
not_usable true true e = absurd (omega arith)
not_usable true false e = refl
not_usable false x e = absurd (omega arith)

same_parts : (a b p j : ℕ) → ◌≡◌ {A = Option (ℕ × ℕ)} (Some (a, b)) (Some (p, j)) → (a ≡ p) × (b ≡ j)
same_parts a b p j e = (ap (λ o. elim o [ None ↦ a | Some x ↦ x.0 ]) e, ap (λ o. elim o [ None ↦ b | Some x ↦ x.1 ]) e)

module _ {S : Type 0} (m : Meaning S) (v : View S) where
  -- the states that are listed
  abbrev pub listed_states : List S
  listed_states = take v.plain.listed v.states

  pub same_walk : OnlyWalk v v
  same_walk = record { states = refl; rows = refl; listed = refl; progress = refl }

  -- a start at a session that is neither working nor full
  module _ (b : Post S) (ended : conclusion v.plain.progress.standing ≡ Ok tt) where
    abbrev answer : Result ℕ StartStop
    answer = start_answer (ask_answer v.plain.progress.standing (row_told m v b.state))

    by_row : (o : Option Row) → row_told m v b.state ≡ o → answer ≡ start_answer (ok_or o AskStop.Unlisted)
    by_row o e = ap start_answer (sym (ask_concluded v.plain.progress.standing (row_told m v b.state) ended) ∙ ap (λ x. ok_or x AskStop.Unlisted) e)

    stood_answer : (r : Result ℕ StartStop) → answer ≡ r → (u : ℕ) → Stands m u v → r ≡ start_answer (ask_answer (progress m (places v) u).standing (row_of m (places v) u b.state))
    stood_answer r e u h = sym e ∙ ap start_answer (ap₂ ask_answer (ap (λ p. p.standing) h.progress_is) (told_known m v u h b.state))

    refused : (e : StartStop) → answer ≡ Err e → Started m b v (Err e) v
    refused e q = record { answer = stood_answer (Err e) q; walk = λ u h. refl; rest = same_walk }

    pub start_blank : (row : Row) → row_told m v b.state ≡ Some row → row.rank ≡ None → Started m b v (Err StartStop.Blank) v
    start_blank row e q = refused StartStop.Blank (by_row (Some row) e ∙ ap ranked_answer q)

    pub start_begins : (p : ℕ) (row : Row) (k : ℕ) → place_of m listed_states b.state ≡ Some p → slice_get v.rows p ≡ Some row → row.rank ≡ Some k → Started m b v (Ok k) (walked v (Some (record { place = p; acts = 0 })))
    start_begins p row k e f q =
        record {
          answer = stood_answer (Ok k) (by_row (Some row) (told_at p e ∙ f) ∙ ap ranked_answer q);
          walk = λ u h. (sym e ∙ ap (λ ts. place_of m ts b.state) (states_known m v u h), refl);
          rest = record { states = refl; rows = refl; listed = refl; progress = refl };
        }
      where
        told_at : (p : ℕ) → place_of m listed_states b.state ≡ Some p → row_told m v b.state ≡ slice_get v.rows p
        told_at p e = ap (row_at v.rows) e

-- a step of a session that stands, with a walk
module _ {S : Type 0} (m : Meaning S) (law : Lawful m) (v : View S) (w : Walk) (is : v.plain.walk ≡ Some w) (u : ℕ) (h : Stands m u v) where
  abbrev n : ℕ
  n = places v

  kept : WalkKept m n (progress m n u) (Some w)
  kept = subst (WalkKept m n (progress m n u)) is h.walk_is

  c : Settled m n u
  c = settled_from m n u kept.0

  -- the state at the walk's place, and its rank
  abbrev here : S
  here = kept.1.0

  abbrev rank : ℕ
  rank = kept.1.1.0

  at : slice_get (known m n u) w.place ≡ Some here
  at = kept.1.1.1.0

  ranked : Ranked m here (Some rank)
  ranked = kept.1.1.1.1.0

  below : w.place < length (known m n u)
  below = slice_get_within (known m n u) w.place here at

  state_there : slice_get v.states w.place ≡ Some here
  state_there = sym (nth_take (length (known m n u)) v.states w.place below) ∙ ap (λ xs. slice_get xs w.place) h.states_are ∙ at

  row_there : (o : S) → T (m.same here o) → slice_get v.rows w.place ≡ Some (row_by m (last m n u c) o)
  row_there o e = row_known m v u h w.place below ∙ row_same m law n u c o w.place here at e

  module _ (b : Post S) where
    case_there : step_case m n u (Some w) b ≡ step_at m (Some here) b
    case_there = ap (λ x. step_at m x b) at

    -- what the step leaves, the walk being w
    abbrev Leaves : Result Step StepStop → Post S → View S → Type 0
    Leaves r b' v' = StepKept m u v b r b' v' v.plain.walk v'.plain.walk

    leaves : (r : Result Step StepStop) (b' : Post S) (v' : View S) → StepKept m u v b r b' v' (Some w) v'.plain.walk → Leaves r b' v'
    leaves r b' v' k = subst (λ x. StepKept m u v b r b' v' x v'.plain.walk) (sym is) k

    -- the bench is where the walk is
    module _ (s : S) (e : slice_get v.states w.place ≡ Some s) (t : T (m.same s b.state)) where
      there : T (m.same here b.state)
      there = let z : s ≡ here = let q : Some s ≡ Some here = sym e ∙ state_there in cc in subst (λ x. T (m.same x b.state)) z t

      case_near : step_case m n u (Some w) b ≡ cond (m.goal here) 0 (cond b.ready 1 15)
      case_near = case_there ∙ ap (λ x. cond x (cond (m.goal here) 0 (cond b.ready 1 15)) 14) (so (m.same here b.state) there)

      abbrev own : Option ℕ
      own = rank_by m (last m n u c) b.state

      stands_there : Stood m n u c b.state
      stands_there = stood m n u c b.state w.place here at there

      own_ranked : Ranked m b.state (Some rank)
      own_ranked = ranked_alike m law here b.state (Some rank) there ranked

      module _ (row : Row) (f : slice_get v.rows w.place ≡ Some row) where
        act_is : row.act ≡ act_of m b.state own
        act_is = let q : Some row ≡ Some (row_by m (last m n u c) b.state) = sym f ∙ row_there b.state there in ap act_in q

        -- a row without an act is a goal's
        pub step_goal : row.act ≡ None → Leaves (Ok Goal) b v
        step_goal g = leaves (Ok Goal) b v (case_near ∙ ap (λ x. cond x 0 (cond b.ready 1 15)) (so (m.goal here) (goal rank ranked own_ranked)), (refl, refl))
          where
            goal : (k : ℕ) → Ranked m here (Some k) → Ranked m b.state (Some k) → T (m.goal here)
            goal zero r o = r.0
            goal (suc j) r o = let x = next m law n u c b.state stands_there j o in let q : None ≡ Some x.by = sym g ∙ act_is ∙ x.is in absurd (let z : ◌≡◌ {A = ℕ} 0 1 = cc in omega arith)

        -- a row with an act is not
        module _ (a : ℕ) (g : row.act ≡ Some a) where
          -- the rank is above 0, and the act is the lowest that gives it
          record Ahead : Type 0 where
            less : ℕ
            own_rank : Ranked m b.state (Some (suc less))
            lowest : Lowest m b.state less a

          ahead : Ahead
          ahead = go rank own_ranked
            where
              go : (k : ℕ) → Ranked m b.state (Some k) → Ahead
              go zero o = let q : None ≡ Some a = ap (act_of m b.state) (sym (rank_told m law n u c b.state stands_there (Some 0) o)) ∙ sym act_is ∙ g in absurd (let z : ◌≡◌ {A = ℕ} 0 1 = cc in omega arith)
              go (suc j) o =
                  let x = next m law n u c b.state stands_there j o in
                  let z : x.by ≡ a = let q : Some x.by ≡ Some a = sym x.is ∙ sym act_is ∙ g in cc in
                  record { less = j; own_rank = o; lowest = subst (Lowest m b.state j) z x.low }

          no_goal : m.goal here ≡ false
          no_goal = law.same_goal here b.state there ∙ ahead.own_rank.1 0 (omega arith)

          case_act : step_case m n u (Some w) b ≡ cond b.ready 1 15
          case_act = case_near ∙ ap (λ x. cond x 0 (cond b.ready 1 15)) no_goal

          refuses : (e : CarryStop) (b' : Post S) → Carried m b a (carry_number {A = Unit {0}} (Err e)) b' → Leaves (Err (step_stop e)) b' v
          refuses CarryStop.NotReady b' k = leaves (Err StepStop.NotReady) b' v (sym (case_act ∙ ap (λ x. cond x 1 15) (not_ready b.ready (some_of (m.outcomes b.state a)) k.number_is)), (k.leaves, refl))
          refuses CarryStop.NotApplicable b' k =
              let none = not_usable b.ready (some_of (m.outcomes b.state a)) k.number_is in
              absurd (clash (some_of (m.outcomes b.state a)) none (usable m law n u c b.state stands_there ahead.less ahead.own_rank a ahead.lowest))

          pub step_refused : (e : CarryStop) (r : Result Step StepStop) → r ≡ Err (step_stop e) → (b' : Post S) → Carried m b a (carry_number {A = Unit {0}} (Err e)) b' → Leaves r b' v
          step_refused e r is b' k = subst (λ x. Leaves x b' v) (sym is) (refuses e b' k)

          module _ (b' : Post S) (k : Carries m b a b') where
            abbrev o : S
            o = b'.state

            -- where the bench has come to is listed, with a rank
            record Arrived : Type 0 where
              stood : Stood m n u c o
              left : ℕ
              left_is : rank_by m (last m n u c) o ≡ Some left

            arrived : Arrived
            arrived =
                let (ready, (x, (out, same))) = k in
                let y = lands m law n u c b.state stands_there ahead.less ahead.own_rank a ahead.lowest x o out same in
                record { stood = y.stood; left = y.rank; left_is = y.is }

            place_there : place_of m (listed_states m v) o ≡ Some arrived.stood.place
            place_there = ap (λ ts. place_of m ts o) (states_known m v u h) ∙ arrived.stood.is

            found_there : ranked_place m v o ≡ Some (arrived.stood.place, arrived.left)
            found_there =
                let p = arrived.stood.place in
                let row : slice_get v.rows p ≡ Some (row_by m (last m n u c) o) = ap (row_at v.rows) (sym place_there) ∙ told_known m v u h o ∙ row_own m law n u c o arrived.stood in
                ap (ranked_at v.rows) place_there ∙ ap (λ x. with_rank p (rank_in x)) row ∙ ap (with_rank p) arrived.left_is

            -- so the look-up finds it
            pub never_lost : ranked_place m v o ≡ None → ⊥
            never_lost e = none_some e found_there

            pub step_acts : (p j i : ℕ) → ranked_place m v o ≡ Some (p, j) → i ≡ min (w.acts + 1) 4294967295 → Leaves (Ok (Acted a j)) b' (walked v (Some (record { place = p; acts = i })))
            step_acts p j i e d =
                let (y, z) = same_parts arrived.stood.place arrived.left p j (sym found_there ∙ e) in
                let small = kept.1.1.1.1.1 in
                let few : length (known m n u) ≤ 4096 = omega (arith, length-take n (found m (progress m n u).units)) in
                leaves (Ok (Acted a j)) b' (walked v (Some (record { place = p; acts = i }))) (
                  case_act ∙ ap (λ x. cond x 1 15) (so b.ready k.0),
                  record {
                    act_is = ap act_in (row_same m law n u c b.state w.place here at there) ∙ sym act_is ∙ g;
                    carried = k;
                    rank_is = subst (λ x. Ranked m o x) (arrived.left_is ∙ ap Some z) (rank_own m law n u c o arrived.stood);
                    place_is = ap Some (sym y) ∙ sym arrived.stood.is;
                    acts_are = omega arith;
                  },
                )
