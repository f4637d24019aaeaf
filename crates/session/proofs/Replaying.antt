-- Calls made one after another, as a list of calls. Assumes nothing.
use Rattle.std.proofs.Common.{◌≡◌, ℕ, zero, suc, ◌+◌, ◌<◌, ◌≤◌, Bool, List, [], ◌∷◌, ◌++◌, length, get_or, take, drop, set, Some, Result, sym, refl, ap, ◌∙◌, subst, arith}
use Rattle.std.specs.List.{slice_get}
use Rattle.std.proofs.lemmas.List.{length-map, map-set, take_more, take_more_set, drop-set-lt}
use Rattle.planning.specs.Meaning.{Meaning}
use Rattle.session.specs.declared.plain.Row.{Row}
use Rattle.session.specs.declared.plain.Progress.{Progress}
use Rattle.session.specs.declared.stops.AskStop.{AskStop}
use Rattle.session.specs.declared.stops.StartStop.{StartStop}
use Rattle.session.specs.declared.stops.StepStop.{StepStop}
use Rattle.session.specs.declared.calls.Step.{Step}
use Rattle.session.specs.declared.calls.Call.{Call}
use Rattle.session.specs.declared.calls.Answer.{Answer}
use Rattle.session.specs.Views.{View}
use Rattle.session.specs.Calls.{Made, Worked, Asked}
use Rattle.session.specs.Walks.{Post, Started, Stepped, post_of}
use Rattle.session.specs.Histories.{Event, History, called}
use Rattle.session.specs.Replays.{posts_of, Benchless, Taken, CallMade, Replayed, Replay}

module _ {S K : Type 0} (m : Meaning S) (stands : K → S) (fit : K → Bool) (v : View S) (c : Call S) where
  abbrev post : K → Post S
  post = post_of stands fit

  post_at : (ks : List K) (i : ℕ) (k : K) → slice_get ks i ≡ Some k → slice_get (posts_of stands fit ks) i ≡ Some (post k)
  post_at [] i k e = absurd (let z : ◌≡◌ {A = ℕ} 0 1 = cc in omega arith)
  post_at (x ∷ xs) zero k e = let z : x ≡ k = cc in ap (λ y. Some (post y)) z
  post_at (x ∷ xs) (suc i) k e = post_at xs i k e

  module _ (ks : List K) where
    abbrev ps : List (Post S)
    ps = posts_of stands fit ks

    pub made_work : (q : ℕ) (r : Progress) (v' : View S) → c ≡ Call.Work q → Worked m q v r v' → CallMade m ps v c (Answer.Worked r) ps v'
    made_work q r v' e d = subst (λ x. CallMade m ps v x (Answer.Worked r) ps v') (sym e) (CallMade.event (Event.worked q r) Taken.work d)

    pub made_ask : (s : S) (r : Result Row AskStop) → c ≡ Call.Ask s → Asked m s v r v → CallMade m ps v c (Answer.Asked r) ps v
    made_ask s r e d = subst (λ x. CallMade m ps v x (Answer.Asked r) ps v) (sym e) (CallMade.event (Event.asked s r) Taken.ask d)

    -- the bench that the call names
    module _ (i : ℕ) (k : K) (named : slice_get ks i ≡ Some k) where
      there : slice_get ps i ≡ Some (post k)
      there = post_at ks i k named

      pub made_start : (r : Result ℕ StartStop) (v' : View S) → c ≡ Call.Start i → Started m (post k) v r v' → CallMade m ps v c (Answer.Started r) ps v'
      made_start r v' e h = subst (λ x. CallMade m ps v x (Answer.Started r) ps v') (sym e) (CallMade.event (Event.started (post k) r) (Taken.start there) h)

      pub made_step : (r : Result Step StepStop) (k' : K) (v' : View S) → c ≡ Call.Step i → Stepped m (post k) v r (post k') v' → CallMade m ps v c (Answer.Stepped r) (posts_of stands fit (set ks i k')) v'
      made_step r k' v' e h =
          subst (λ qs. CallMade m ps v c (Answer.Stepped r) qs v') (sym (map-set post ks i k'))
          (subst (λ x. CallMade m ps v x (Answer.Stepped r) (set ps i (post k')) v') (sym e) (CallMade.event (Event.stepped (post k) r (post k')) (Taken.step there) h))

    module _ (i : ℕ) (past : length ks ≤ i) where
      few : length ps ≤ i
      few = omega (arith, length-map ks post)

      pub no_start : c ≡ Call.Start i → CallMade m ps v c Answer.NoBench ps v
      no_start e = CallMade.no_event (subst (λ x. Benchless x ps) (sym e) few)

      pub no_step : c ≡ Call.Step i → CallMade m ps v c Answer.NoBench ps v
      no_step e = CallMade.no_event (subst (λ x. Benchless x ps) (sym e) few)

module _ {S : Type 0} (m : Meaning S) (v₀ : View S) (ps₀ : List (Post S)) (cs : List (Call S)) (rs₀ : List Answer) where
  -- the first i calls have been made
  pub record Gone (i : ℕ) (v : View S) (ps : List (Post S)) (rs : List Answer) : Type 0 where
    pub events : List (Event S)
    pub history : History m v₀ events v
    pub calls : Replayed ps₀ (take i cs) events (take i rs) ps
    pub unused : (j : ℕ) → i ≤ j → drop j rs ≡ drop j rs₀

  pub gone_none : Gone 0 v₀ ps₀ rs₀
  gone_none = record { events = []; history = History.made; calls = Replayed.nothing; unused = λ j h. refl }

  module _ (i : ℕ) (v v' : View S) (ps ps' : List (Post S)) (rs : List Answer) (c : Call S) (a : Answer) (low : i < length cs) (at : c ≡ get_or cs i c) (room : i < length rs) where
    calls_on : take (i + 1) cs ≡ take i cs ++ c ∷ []
    calls_on = take_more cs i c low ∙ ap (λ x. take i cs ++ x ∷ []) (sym at)

    with_one : (es : List (Event S)) → Replayed ps₀ (take i cs ++ c ∷ []) es (take i rs ++ a ∷ []) ps' → Replayed ps₀ (take (i + 1) cs) es (take (i + 1) (set rs i a)) ps'
    with_one es h = subst (λ x. Replayed ps₀ x es (take (i + 1) (set rs i a)) ps') (sym calls_on) (subst (λ x. Replayed ps₀ (take i cs ++ c ∷ []) es x ps') (sym (take_more_set rs i a room)) h)

    still : Gone i v ps rs → (j : ℕ) → i + 1 ≤ j → drop j (set rs i a) ≡ drop j rs₀
    still g j h = drop-set-lt j rs i a (omega arith) ∙ g.unused j (omega arith)

  pub gone_on : (i : ℕ) (v v' : View S) (ps ps' : List (Post S)) (rs : List Answer) (c : Call S) (a : Answer) → i < length cs → c ≡ get_or cs i c → i < length rs → Gone i v ps rs → CallMade m ps v c a ps' v' → Gone (i + 1) v' ps' (set rs i a)
  gone_on i v v' ps ps' rs c a low at room g (CallMade.event e t d) =
      record {
        events = g.events ++ e ∷ [];
        history = called e g.history d;
        calls = with_one i v v' ps ps' rs c a low at room (g.events ++ e ∷ []) (Replayed.taken g.calls t);
        unused = still i v v' ps ps' rs c a low at room g;
      }
  gone_on i v v' ps ps' rs c a low at room g (CallMade.no_event h) =
      record {
        events = g.events;
        history = g.history;
        calls = with_one i v v ps ps rs c Answer.NoBench low at room g.events (Replayed.left_out c g.calls h);
        unused = still i v v ps ps rs c Answer.NoBench low at room g;
      }

  pub gone_all : (states : List S) (rows : List Row) → Made m states rows v₀ → (i n : ℕ) (v : View S) (ps : List (Post S)) (rs : List Answer) → i ≡ n → Gone i v ps rs → Replay m states rows ps₀ (take n cs) (take n rs) ps v
  gone_all states rows made i n v ps rs e g = subst (λ k. Replay m states rows ps₀ (take k cs) (take k rs) ps v) e (record { fresh = v₀; events = g.events; made = made; history = g.history; calls = g.calls })
