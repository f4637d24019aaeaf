-- What a start answers, and what it leaves of the walk. Assumes nothing.
use Rattle.std.proofs.Common.{◌≡◌, ℕ, T, [], ◌∷◌, Some, None, Ok, Err, Option, Result, sym, refl, ap, ◌∙◌, subst, arith}
use Rattle.std.specs.List.{slice_get}
use Rattle.session.specs.declared.plain.Row.{Row}
use Rattle.session.specs.declared.plain.Walk.{Walk}
use Rattle.session.specs.declared.plain.Standing.{Standing}
use Rattle.session.specs.declared.stops.AskStop.{AskStop}
use Rattle.session.specs.declared.stops.StartStop.{StartStop}
use Rattle.planning.specs.Meaning.{Meaning, Lawful}
use Rattle.planning.specs.Finding.{listed, found, Final, place_of}
use Rattle.planning.specs.Ranks.{within, Ranked}
use Rattle.planning.proofs.Tests.{clash}
use Rattle.planning.proofs.Within.{ranked_alike}
use Rattle.planning.proofs.Gapless.{has_below}
use Rattle.session.specs.ClosedForm.{progress, known}
use Rattle.session.specs.Views.{View, places}
use Rattle.session.specs.Stops.{start_number}
use Rattle.session.specs.Calls.{concluded, WalkKept}
use Rattle.session.specs.Walks.{Post, ranked_answer, start_answer, WalkBegun}
use Rattle.session.specs.Histories.{Event}
use Rattle.session.specs.Promise.{Exactly, Trail, trail, StartRight}
use Rattle.session.proofs.Settling.{Settled, settled_known}
use Rattle.session.proofs.Rows.{known_count, Stood}
use Rattle.session.proofs.Stepping.{Tells}
use Rattle.session.proofs.Looking.{LookCase, early, over, unlisted, told, Numbered, all_listed, looked, row_right}

start_numbered : (r : Result Row AskStop) → Numbered r (start_number (start_answer r))
start_numbered (Err AskStop.Working) = refl
start_numbered (Err AskStop.Full) = refl
start_numbered (Err AskStop.Unlisted) = refl
start_numbered (Ok row) = go row.rank
  where
    go : (x : Option ℕ) → Numbered (Ok row) (start_number (ranked_answer x))
    go None = (λ e. omega arith, (λ e. omega arith, λ e. omega arith))
    go (Some k) = (λ e. omega arith, (λ e. omega arith, λ e. omega arith))

-- the number and the answer by the rank
by_blank : {S : Type 0} (m : Meaning S) (o : S) (x : Option ℕ) → Ranked m o x → Exactly (start_number (ranked_answer x) ≡ 12) (Ranked m o None)
by_blank m o None h = (λ _. h, λ _. refl)
by_blank m o (Some k) h = (λ e. absurd (omega arith), λ e. absurd (clash (within m k o) (e k) h.0))

by_rank : (x : Option ℕ) (k : ℕ) → ranked_answer x ≡ Ok k → x ≡ Some k
by_rank None k e = absurd (let z : ◌≡◌ {A = ℕ} 0 1 = cc in omega arith)
by_rank (Some j) k e = let z : j ≡ k = cc in ap Some z

module _ {S : Type 0} (m : Meaning S) (law : Lawful m) (n u : ℕ) (o : S) where
  case_blank : {st : Standing} {a : Result Row AskStop} (count : ℕ) → Final m count → T (concluded st) → T (listed m (found m count) o) → LookCase m n u o st a → Exactly (start_number (start_answer a) ≡ 12) (Ranked m o None)
  case_blank count final t i early = absurd t
  case_blank count final t i (over f) = absurd t
  case_blank count final t i (unlisted c _ l) = absurd (clash (listed m (found m count) o) (sym (all_listed m n u o count final c) ∙ l) i)
  case_blank count final t i (told {row = row} c _ l w e) = by_blank m o row.rank (row_right m law n u o c w row e).0

  case_ranked : {st : Standing} {a : Result Row AskStop} → LookCase m n u o st a → (k : ℕ) → start_answer a ≡ Ok k → Ranked m o (Some k)
  case_ranked early k e = absurd (let z : ◌≡◌ {A = ℕ} 0 1 = cc in omega arith)
  case_ranked (over f) k e = absurd (let z : ◌≡◌ {A = ℕ} 0 1 = cc in omega arith)
  case_ranked (unlisted c t l) k e = absurd (let z : ◌≡◌ {A = ℕ} 0 1 = cc in omega arith)
  case_ranked (told {row = row} c t l w q) k e = subst (Ranked m o) (by_rank row.rank k e) (row_right m law n u o c w row q).0

module _ {S : Type 0} (m : Meaning S) (law : Lawful m) (n u : ℕ) (b : Post S) where
  pub start_right : (v v' : View S) (a : Result Row AskStop) → ((e : StartStop) → start_answer a ≡ Err e → v' ≡ v) → LookCase m n u b.state v.plain.progress.standing a → StartRight m v b (start_answer a) v'
  start_right v v' a refused case =
      record {
        stops = looked m n u b.state (start_number (start_answer a)) case (start_numbered a);
        blank = λ count final t i. case_blank m law n u b.state count final t i case;
        answers = case_ranked m law n u b.state case;
        refused = refused;
      }

-- what a start leaves of the walk
module _ {S : Type 0} (m : Meaning S) (law : Lawful m) (u : ℕ) (v : View S) (b : Post S) (t : Option (Trail S)) (kept : WalkKept m (places v) (progress m (places v) u) v.plain.walk) (tells : Tells m (places v) u t v.plain.walk) where
  abbrev KeptOn : Option (Trail S) → Option Walk → Type 0
  KeptOn x w = WalkKept m (places v) (progress m (places v) u) w × Tells m (places v) u x w

  same_walk : (w : Option Walk) → w ≡ v.plain.walk → KeptOn t w
  same_walk w e = subst (KeptOn t) (sym e) (kept, tells)

  new_walk : (k : ℕ) (c : Settled m (places v) u) → T (concluded (progress m (places v) u).standing) → Stood m (places v) u c b.state → Ranked m b.state (Some k) → (w : Walk) → Some w.place ≡ place_of m (known m (places v) u) b.state → w.acts ≡ 0 → KeptOn (Some (record { first = k; done = 0; at = b.state })) (Some w)
  new_walk k c done s rank w e z =
      let n = places v in
      let r = c.count in
      let p : w.place ≡ s.place = let f : Some w.place ≡ Some s.place = e ∙ s.is in cc in
      let at : slice_get (known m n u) w.place ≡ Some s.state = ap (slice_get (known m n u)) p ∙ s.at in
      let listed_at : slice_get (found m r) w.place ≡ Some s.state = ap (λ xs. slice_get xs w.place) (sym (settled_known m n u c)) ∙ at in
      let own : Ranked m s.state (Some k) = ranked_alike m law b.state s.state (Some k) (law.symmetric s.state b.state s.same) rank in
      let low = has_below m law r c.ends k (w.place, (s.state, (listed_at, own))) in (
        (done, (s.state, (k, (at, (own, omega (arith, known_count m n u c)))))),
        record { state = s.state; at = at; same = s.same; rank = k; ranked = rank; bound = omega arith },
      )

  by_told : (c : Settled m (places v) u) → T (concluded (progress m (places v) u).standing) → Stood m (places v) u c b.state → (x : Option ℕ) → Ranked m b.state x → (w : Option Walk) → WalkBegun m u v b.state (ranked_answer x) w → KeptOn (trail t (Event.started b (ranked_answer x) ∷ [])) w
  by_told c d s None h w q = same_walk w q
  by_told c d s (Some k) h None q = absurd q
  by_told c d s (Some k) h (Some w) q = new_walk k c d s h w q.0 q.1

  pub start_keeps : {st : Standing} {a : Result Row AskStop} → LookCase m (places v) u b.state st a → (progress m (places v) u).standing ≡ st → (w : Option Walk) → WalkBegun m u v b.state (start_answer a) w → KeptOn (trail t (Event.started b (start_answer a) ∷ [])) w
  start_keeps early e w h = same_walk w h
  start_keeps (over f) e w h = same_walk w h
  start_keeps (unlisted c d l) e w h = same_walk w h
  start_keeps (told {row = row} c d l s q) e w h = by_told c (subst (λ x. T (concluded x)) (sym e) d) s row.rank (row_right m law (places v) u b.state c s row q).0 w h
