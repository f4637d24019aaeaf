-- The promise over whole runs of calls, for every lawful meaning. Assumes nothing.
use Rattle.std.proofs.Common.{◌≡◌, ℕ, ◌+◌, ◌≤◌, T, List, Some, None, Err, Option, Result, sym, refl, ap, ◌∙◌, subst, arith}
use Rattle.session.specs.declared.plain.Walk.{Walk}
use Rattle.session.specs.declared.plain.Standing.TheVariants.{NoPlan, Found}
use Rattle.planning.specs.Meaning.{Meaning, Lawful}
use Rattle.planning.specs.Plans.{NoStrongPlan, LeastDepth}
use Rattle.planning.specs.Ranks.{Ranked, rank_by}
use Rattle.planning.proofs.Depths.{depth_from_rank, rank_from_depth, none_from_blank, blank_from_none}
use Rattle.planning.proofs.Settled.{start_ranked, start_rank}
use Rattle.session.specs.declared.stops.StartStop.{StartStop}
use Rattle.session.specs.ClosedForm.{standing_of, progress}
use Rattle.session.specs.Views.{View, room, places}
use Rattle.session.specs.Calls.{concluded, row_of, ask_answer}
use Rattle.session.specs.Walks.{Post, WalkBegun, Started}
use Rattle.session.specs.Histories.{Event, Did}
use Rattle.session.specs.Promise.{Trail, quotas, trail, Finished, Kept, StartRight, Right, Promise}
use Rattle.session.proofs.Settling.{Settled, settled_from, settled_progress, finished_from, settled_of}
use Rattle.session.proofs.Stepping.{Tells, step_right}
use Rattle.session.proofs.Looking.{LookCase, look_case, ask_right}
use Rattle.session.proofs.Starting.{start_right}
use Rattle.session.proofs.Histories.{walked, walked_is, Now, after, fresh_now}

none_of : (o : Option ℕ) → standing_of o ≡ NoPlan → o ≡ None
none_of None e = refl
none_of (Some d) e = absurd (let z : ◌≡◌ {A = ℕ} 0 1 = cc in omega arith)

found_of : (d : ℕ) (o : Option ℕ) → standing_of o ≡ Found d → o ≡ Some d
found_of d None e = absurd (let z : ◌≡◌ {A = ℕ} 0 1 = cc in omega arith)
found_of d (Some k) e = let z : k ≡ d = cc in ap Some z

-- where a search that has gone to its end stands: by the rank of the start
module _ {S : Type 0} (m : Meaning S) (law : Lawful m) (n u : ℕ) where
  module _ (c : Settled m n u) where
    abbrev rank : Option ℕ
    rank = rank_by m c.count m.start

    stands_by : (progress m n u).standing ≡ standing_of rank
    stands_by = ap (λ p. p.standing) (settled_progress m n u c)

    ranked_as : (o : Option ℕ) → rank ≡ o → Ranked m m.start o
    ranked_as o e = subst (Ranked m m.start) e (start_ranked m law c.count c.ends)

    rank_as : (o : Option ℕ) → Ranked m m.start o → rank ≡ o
    rank_as o h = start_rank m law c.count c.ends o h

  none_only : (progress m n u).standing ≡ NoPlan → Finished m n u × NoStrongPlan m
  none_only e =
      let c = settled_from m n u (subst (λ x. T (concluded x)) (sym e) tt) in
      (finished_from m law n u c, none_from_blank m law (ranked_as c None (none_of (rank c) (sym (stands_by c) ∙ e))))

  none_if : Finished m n u → NoStrongPlan m → (progress m n u).standing ≡ NoPlan
  none_if f h = let c = settled_of m law n u f in stands_by c ∙ ap standing_of (rank_as c None (blank_from_none m law h))

  found_only : (d : ℕ) → (progress m n u).standing ≡ Found d → Finished m n u × LeastDepth m d
  found_only d e =
      let c = settled_from m n u (subst (λ x. T (concluded x)) (sym e) tt) in
      (finished_from m law n u c, depth_from_rank m law d (ranked_as c (Some d) (found_of d (rank c) (sym (stands_by c) ∙ e))))

  found_if : (d : ℕ) → Finished m n u → LeastDepth m d → (progress m n u).standing ≡ Found d
  found_if d f h = let c = settled_of m law n u f in stands_by c ∙ ap standing_of (rank_as c (Some d) (rank_from_depth m law d h))

  bound : (w : Trail S) (t : Option (Trail S)) (x : Option Walk) → Tells m n u t x → t ≡ Some w → (k : ℕ) × (Ranked m w.at (Some k) × (w.done + k ≤ w.first))
  bound w None x h e = absurd (let z : ◌≡◌ {A = ℕ} 0 1 = cc in omega arith)
  bound w (Some t) None h e = absurd h
  bound w (Some t) (Some x) h e =
      let z : t ≡ w = cc in
      subst (λ y. (k : ℕ) × (Ranked m y.at (Some k) × (y.done + k ≤ y.first))) z (h.rank, (h.ranked, h.bound))

module _ {S : Type 0} (m : Meaning S) (law : Lawful m) (n : ℕ) (es : List (Event S)) (v : View S) (now : Now m n (quotas es) (trail None es) v) where
  abbrev u : ℕ
  u = quotas es

  standing_is : v.plain.progress.standing ≡ (progress m (places v) u).standing
  standing_is = ap (λ p. p.standing) now.stands.progress_is

  kept : Kept m n es v
  kept =
      subst (λ k. Kept m k es v) now.places_are
      (record {
        none = (λ e. none_only m law (places v) u (sym standing_is ∙ e), λ f. standing_is ∙ none_if m law (places v) u f.0 f.1);
        found = λ d. (λ e. found_only m law (places v) u d (sym standing_is ∙ e), λ f. standing_is ∙ found_if m law (places v) u d f.0 f.1);
        walk = λ w e. bound m law (places v) u w (trail None es) v.plain.walk now.tells e;
      })

  look : (o : S) → LookCase m (places v) u o v.plain.progress.standing (ask_answer (progress m (places v) u).standing (row_of m (places v) u o))
  look o = subst (λ st. LookCase m (places v) u o st (ask_answer (progress m (places v) u).standing (row_of m (places v) u o))) (sym standing_is) (look_case m law (places v) u o)

  refused_start : (b : Post S) (v' : View S) (r : Result ℕ StartStop) → Started m b v r v' → (e : StartStop) → r ≡ Err e → v' ≡ v
  refused_start b v' r d e q = walked_is v v' d.rest ∙ ap (walked v) (subst (λ x. WalkBegun m u v b.state x v'.plain.walk) q (d.walk u now.stands))

  right : (e : Event S) (v' : View S) → Did m v e v' → Right m es v e v'
  right (Event.worked q r) v' d = d.told
  right (Event.asked s r) v' d = ask_right m law (places v) u s v v' r d.session (subst (LookCase m (places v) u s v.plain.progress.standing) (sym (d.answer u now.stands)) (look s))
  right (Event.started b r) v' d =
      let e = d.answer u now.stands in
      let a = ask_answer (progress m (places v) u).standing (row_of m (places v) u b.state) in
      subst (λ x. StartRight m v b x v') (sym e) (start_right m law (places v) u b v v' a (λ x q. refused_start b v' r d x (e ∙ q)) (look b.state))
  right (Event.stepped b r b') v' d = step_right m law u v b b' v' (trail None es) v.plain.walk v'.plain.walk r now.stands.walk_is now.tells (d.answer u now.stands)

pub promised : {S : Type 0} (m : Meaning S) → Lawful m → Promise m
promised m law states rows v₀ v es made history =
    let n = room states rows in
    let now = after m law n (fresh_now m law n states rows v₀ refl made) history in
    record { kept = kept m law n es v now; next = right m law n es v now }
