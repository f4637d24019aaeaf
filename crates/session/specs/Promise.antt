-- The promise over whole runs of calls. Assumes nothing.
use Rattle.std.specs.Prelude.{◌≡◌, ℕ, ◌+◌, ◌≤◌, false, cond, T, List, [], ◌∷◌, Some, None, Ok, Err, Option, Result}
use Rattle.planning.specs.Meaning.{Meaning}
use Rattle.planning.specs.Plans.{NoStrongPlan, LeastDepth}
use Rattle.planning.specs.Finding.{listed, found, Final}
use Rattle.planning.specs.Ranks.{Ranked, ActGiven, Largest}
use Rattle.session.specs.declared.plain.Row.{Row}
use Rattle.session.specs.declared.plain.Standing.{Standing}
use Rattle.session.specs.declared.plain.Standing.TheVariants.{Working, NoPlan, Found, Full}
use Rattle.session.specs.declared.stops.AskStop.{AskStop}
use Rattle.session.specs.declared.stops.StartStop.{StartStop}
use Rattle.session.specs.declared.stops.StepStop.{StepStop}
use Rattle.session.specs.declared.calls.Step.{Step}
use Rattle.session.specs.declared.calls.Step.TheVariants.{Goal, Acted}
use Rattle.session.specs.ClosedForm.{total_units}
use Rattle.session.specs.Views.{View, room}
use Rattle.session.specs.Stops.{ask_number, start_number, step_number}
use Rattle.session.specs.Calls.{concluded, Made}
use Rattle.session.specs.Walks.{Post, cost, Carries}
use Rattle.session.specs.Histories.{Event, Did, History}

-- each of two statements follows from the other
abbrev pub Exactly : Type 0 → Type 0 → Type 0
Exactly p q = (p → q) × (q → p)

-- a walk as its calls tell it: the rank that the start answered, the acts done since, and the state that it has come to
pub record Trail (S : Type 0) : Type 0 where
  pub first : ℕ
  pub done : ℕ
  pub at : S

-- all units that were asked for
abbrev pub quotas : {S : Type 0} → List (Event S) → ℕ
quotas [] = 0
quotas (Event.worked q r ∷ es) = q + quotas es
quotas (Event.asked s r ∷ es) = quotas es
quotas (Event.started b r ∷ es) = quotas es
quotas (Event.stepped b r b' ∷ es) = quotas es

-- the walk after act a, which left its bench in s
abbrev pub moved : {S : Type 0} → Option (Trail S) → ℕ → S → Option (Trail S)
moved None a s = None
moved (Some w) a s = Some (record { first = w.first; done = w.done + cost a; at = s })

-- the walk after the calls, the first of which found the walk w: each start that was not refused begins a new one
abbrev pub trail : {S : Type 0} → Option (Trail S) → List (Event S) → Option (Trail S)
trail w [] = w
trail w (Event.worked q r ∷ es) = trail w es
trail w (Event.asked s r ∷ es) = trail w es
trail w (Event.started b (Ok k) ∷ es) = trail (Some (record { first = k; done = 0; at = b.state })) es
trail w (Event.started b (Err e) ∷ es) = trail w es
trail w (Event.stepped b (Ok Goal) b' ∷ es) = trail w es
trail w (Event.stepped b (Ok (Acted a k)) b' ∷ es) = trail (moved w a b'.state) es
trail w (Event.stepped b (Err e) b' ∷ es) = trail w es

module _ {S : Type 0} (m : Meaning S) where
  -- all states fit n places, and q units finish the search
  pub record Finished (n q : ℕ) : Type 0 where
    pub count : ℕ
    pub deepest : ℕ
    pub final : Final m count
    pub fits : count ≤ n
    pub is_deepest : Largest m count deepest
    pub paid : total_units count deepest ≤ q

  -- what holds of the session v in n places, once the calls es have been made of it since it was fresh
  pub record Kept (n : ℕ) (es : List (Event S)) (v : View S) : Type 0 where
    -- none: exactly when all states fit, the quotas have paid for the search, and no plan is strong
    pub none : Exactly (v.plain.progress.standing ≡ NoPlan) (Finished n (quotas es) × NoStrongPlan m)
    -- found d: exactly when all states fit, the quotas have paid, d acts suffice for a strong plan and fewer do not
    pub found : (d : ℕ) → Exactly (v.plain.progress.standing ≡ Found d) (Finished n (quotas es) × LeastDepth m d)
    -- acts done and rank left are at most the rank that the start answered
    pub walk : (w : Trail S) → trail None es ≡ Some w → (k : ℕ) × (Ranked m w.at (Some k) × (w.done + k ≤ w.first))

  -- where a session stands so, a call that looks for the state s is refused exactly by these numbers
  pub record Looked (st : Standing) (s : S) (number : ℕ) : Type 0 where
    pub working : Exactly (number ≡ 9) (st ≡ Working)
    pub full : Exactly (number ≡ 10) ((f : ℕ) × (st ≡ Full f))
    pub unlisted : (count : ℕ) → Final m count → T (concluded st) → Exactly (number ≡ 11) (listed m (found m count) s ≡ false)

  -- ask: its stops, or the rank of the state with the lowest act that gives it; the session stays as it was
  pub record AskRight (v : View S) (s : S) (r : Result Row AskStop) (v' : View S) : Type 0 where
    pub stops : Looked v.plain.progress.standing s (ask_number r)
    pub answers : (row : Row) → r ≡ Ok row → Ranked m s row.rank × ActGiven m s row.rank row.act
    pub changes_nothing : v' ≡ v

  -- start: its stops, or the rank of the bench's state; a refused one leaves the session as it was
  pub record StartRight (v : View S) (b : Post S) (r : Result ℕ StartStop) (v' : View S) : Type 0 where
    pub stops : Looked v.plain.progress.standing b.state (start_number r)
    pub blank : (count : ℕ) → Final m count → T (concluded v.plain.progress.standing) → T (listed m (found m count) b.state) → Exactly (start_number r ≡ 12) (Ranked m b.state None)
    pub answers : (k : ℕ) → r ≡ Ok k → Ranked m b.state (Some k)
    pub refused : (e : StartStop) → r ≡ Err e → v' ≡ v

  -- the number that a step owes, by the walk that the calls so far tell of; 16 is none of them, for the act of a row is
  -- applicable
  abbrev pub step_owes : Option (Trail S) → Post S → ℕ
  step_owes None b = 13
  step_owes (Some w) b = cond (m.same w.at b.state) (cond (m.goal b.state) 0 (cond b.ready 0 15)) 14

  -- step: its stops, the goal exactly where the bench stood at one, else one act; else nothing moves
  pub record StepRight (v : View S) (w : Option (Trail S)) (b : Post S) (r : Result Step StepStop) (b' : Post S) (v' : View S) : Type 0 where
    pub number : step_number r ≡ step_owes w b
    pub goal : step_number r ≡ 0 → Exactly (r ≡ Ok Goal) (T (m.goal b.state))
    pub one_act : (a k : ℕ) → r ≡ Ok (Acted a k) → Carries m b a b' × Ranked m b'.state (Some k)
    pub lowest : (a k j : ℕ) → r ≡ Ok (Acted a k) → Ranked m b.state (Some j) → ActGiven m b.state (Some j) (Some a)
    pub goal_moves_nothing : r ≡ Ok Goal → (b' ≡ b) × (v' ≡ v)
    pub refused : (e : StepStop) → r ≡ Err e → (b' ≡ b) × (v' ≡ v)

  -- what a call owes that takes the session from v to v' after the calls es; work answers where the session then stands
  abbrev pub Right : List (Event S) → View S → Event S → View S → Type 0
  Right es v (Event.worked q r) v' = r ≡ v'.plain.progress
  Right es v (Event.asked s r) v' = AskRight v s r v'
  Right es v (Event.started b r) v' = StartRight v b r v'
  Right es v (Event.stepped b r b') v' = StepRight v (trail None es) b r b' v'

  -- after the calls es on a session that was fresh in n places
  pub record Promised (n : ℕ) (es : List (Event S)) (v : View S) : Type 0 where
    pub kept : Kept n es v
    pub next : (e : Event S) (v' : View S) → Did m v e v' → Right es v e v'

  -- whatever the lists, after every list of calls on a session made over them, and of every call that may come next
  abbrev pub Promise : Type 0
  Promise = (states : List S) (rows : List Row) (v₀ v : View S) (es : List (Event S)) → Made m states rows v₀ → History m v₀ es v → Promised (room states rows) es v
