-- What holds after every list of calls on a fresh session. Assumes nothing.
use Rattle.std.proofs.Common.{◌≡◌, ℕ, ◌+◌, List, [], ◌∷◌, ◌++◌, take, Some, None, Ok, Err, Option, sym, refl, ap, ◌∙◌, subst, arith}
use Rattle.std.specs.List.{slice_get}
use Rattle.session.specs.declared.plain.Row.{Row}
use Rattle.session.specs.declared.plain.Walk.{Walk}
use Rattle.session.specs.declared.plain.Progress.{Progress}
use Rattle.session.specs.declared.calls.Step.TheVariants.{Goal, Acted}
use Rattle.planning.specs.Meaning.{Meaning, Lawful}
use Rattle.planning.specs.Finding.{found}
use Rattle.session.specs.ClosedForm.{progress}
use Rattle.session.specs.Views.{View, room, places}
use Rattle.session.specs.Calls.{WalkKept, Stands, Made, row_of, ask_answer}
use Rattle.session.specs.Walks.{start_answer, WalkBegun, OnlyWalk}
use Rattle.session.specs.Histories.{Event, Did, History, made, called}
use Rattle.session.specs.Promise.{Trail, quotas, trail}
use Rattle.session.proofs.Joining.{same_places}
use Rattle.session.proofs.Settling.{settled_from, more_units}
use Rattle.session.proofs.Stepping.{Tells, step_keeps}
use Rattle.session.proofs.Looking.{look_case}
use Rattle.session.proofs.Starting.{start_keeps}

module _ {S : Type 0} where
  quotas_on : (es fs : List (Event S)) → quotas (es ++ fs) ≡ quotas es + quotas fs
  quotas_on [] fs = omega arith
  quotas_on (Event.worked q r ∷ es) fs = omega (arith, quotas_on es fs)
  quotas_on (Event.asked s r ∷ es) fs = quotas_on es fs
  quotas_on (Event.started b r ∷ es) fs = quotas_on es fs
  quotas_on (Event.stepped b r b' ∷ es) fs = quotas_on es fs

  trail_on : (w : Option (Trail S)) (es fs : List (Event S)) → trail w (es ++ fs) ≡ trail (trail w es) fs
  trail_on w [] fs = refl
  trail_on w (Event.worked q r ∷ es) fs = trail_on w es fs
  trail_on w (Event.asked s r ∷ es) fs = trail_on w es fs
  trail_on w (Event.started b (Ok k) ∷ es) fs = trail_on (trail w (Event.started b (Ok k) ∷ [])) es fs
  trail_on w (Event.started b (Err e) ∷ es) fs = trail_on w es fs
  trail_on w (Event.stepped b (Ok Goal) b' ∷ es) fs = trail_on w es fs
  trail_on w (Event.stepped b (Ok (Acted a k)) b' ∷ es) fs = trail_on (trail w (Event.stepped b (Ok (Acted a k)) b' ∷ [])) es fs
  trail_on w (Event.stepped b (Err e) b' ∷ es) fs = trail_on w es fs

  -- a session by its parts, and with another walk
  abbrev held : List S → List Row → ℕ → Progress → Option Walk → View S
  held ss rs l p w = record { states = ss; rows = rs; plain = record { listed = l; progress = p; walk = w } }

  abbrev pub walked : View S → Option Walk → View S
  walked v w = held v.states v.rows v.plain.listed v.plain.progress w

  pub walked_is : (v v' : View S) → OnlyWalk v v' → v' ≡ walked v v'.plain.walk
  walked_is v v' o =
      let x = v'.plain in
      ap (λ y. held y v'.rows x.listed x.progress x.walk) o.states
      ∙ ap (λ y. held v.states y x.listed x.progress x.walk) o.rows
      ∙ ap (λ y. held v.states v.rows y x.progress x.walk) o.listed
      ∙ ap (λ y. held v.states v.rows v.plain.listed y x.walk) o.progress

module _ {S : Type 0} (m : Meaning S) where
  stands_walked : (u : ℕ) (v : View S) (w : Option Walk) → Stands m u v → WalkKept m (places v) (progress m (places v) u) w → Stands m u (walked v w)
  stands_walked u v w h k =
      record { progress_is = h.progress_is; listed_is = h.listed_is; states_are = h.states_are; rows_are = h.rows_are; walk_is = k }

  -- more units alter nothing that a walk needs
  tells_more : (u q : ℕ) (v : View S) (t : Option (Trail S)) (w : Option Walk) → WalkKept m (places v) (progress m (places v) u) w → Tells m (places v) u t w → Tells m (places v) (u + q) t w
  tells_more u q v None None k h = h
  tells_more u q v None (Some w) k h = h
  tells_more u q v (Some t) None k h = h
  tells_more u q v (Some t) (Some w) k h =
      let n = places v in
      let e = more_units m n u q (settled_from m n u k.0) in
      record { state = h.state; at = ap (λ p. slice_get (take n (found m p.units)) w.place) (sym e) ∙ h.at; same = h.same; rank = h.rank; ranked = h.ranked; bound = h.bound }

  -- where a session stands, u units having been asked of it, with the walk that its calls tell of
  pub record Now (n u : ℕ) (t : Option (Trail S)) (v : View S) : Type 0 where
    pub places_are : places v ≡ n
    pub stands : Stands m u v
    pub tells : Tells m (places v) u t v.plain.walk

  now_walked : (n u : ℕ) (t : Option (Trail S)) (v v' : View S) → places v ≡ n → Stands m u v → OnlyWalk v v' → WalkKept m (places v) (progress m (places v) u) v'.plain.walk × Tells m (places v) u t v'.plain.walk → Now n u t v'
  now_walked n u t v v' e h o k = subst (Now n u t) (sym (walked_is v v' o)) (record { places_are = e; stands = stands_walked u v v'.plain.walk h k.0; tells = k.1 })

module _ {S : Type 0} (m : Meaning S) (law : Lawful m) (n : ℕ) where
  -- one call
  next_now : (u : ℕ) (t : Option (Trail S)) (v v' : View S) (e : Event S) → Now m n u t v → Did m v e v' → Now m n (u + quotas (e ∷ [])) (trail t (e ∷ [])) v'
  next_now u t v v' (Event.worked q r) h d =
      let p = same_places v'.plain.listed v v' d.rest in
      let z : u + q ≡ u + (q + 0) = omega arith in
      let more = tells_more m u q v t v.plain.walk h.stands.walk_is h.tells in
      subst (λ k. Now m n k t v') z
      (record {
        places_are = p ∙ h.places_are;
        stands = d.stands u h.stands;
        tells = subst (λ w. Tells m (places v') (u + q) t w) (sym d.walk) (subst (λ k. Tells m k (u + q) t v.plain.walk) (sym p) more);
      })
  next_now u t v v' (Event.asked s r) h d = let z : u ≡ u + 0 = omega arith in subst (λ k. Now m n k t v') z (subst (Now m n u t) (sym d.session) h)
  next_now u t v v' (Event.started b r) h d =
      let z : u ≡ u + 0 = omega arith in
      let a = ask_answer (progress m (places v) u).standing (row_of m (places v) u b.state) in
      let e = d.answer u h.stands in
      let walk = subst (λ x. WalkBegun m u v b.state x v'.plain.walk) e (d.walk u h.stands) in
      let kept = start_keeps m law u v b t h.stands.walk_is h.tells (look_case m law (places v) u b.state) refl v'.plain.walk walk in
      subst (λ k. Now m n k (trail t (Event.started b r ∷ [])) v') z
      (subst (λ x. Now m n u (trail t (Event.started b x ∷ [])) v') (sym e) (now_walked m n u (trail t (Event.started b (start_answer a) ∷ [])) v v' h.places_are h.stands d.rest kept))
  next_now u t v v' (Event.stepped b r b') h d =
      let z : u ≡ u + 0 = omega arith in
      subst (λ k. Now m n k (trail t (Event.stepped b r b' ∷ [])) v') z
      (now_walked m n u (trail t (Event.stepped b r b' ∷ [])) v v' h.places_are h.stands d.rest
      (step_keeps m law u v b b' v' t v.plain.walk v'.plain.walk r (λ e. ap (λ x. x.plain.walk) e) h.stands.walk_is h.tells (d.answer u h.stands)))

  -- every list of calls
  pub after : {v₀ v : View S} {es : List (Event S)} → Now m n 0 None v₀ → History m v₀ es v → Now m n (quotas es) (trail None es) v
  after fresh made = fresh
  after fresh (called {es = es} {w = w} {w' = v'} e h d) =
      let now = next_now (quotas es) (trail None es) w v' e (after fresh h) d in
      subst (λ t. Now m n (quotas (es ++ e ∷ [])) t v') (sym (trail_on None es (e ∷ [])))
      (subst (λ u. Now m n u (trail (trail None es) (e ∷ [])) v') (sym (quotas_on es (e ∷ []))) now)

  pub fresh_now : (states : List S) (rows : List Row) (v : View S) → room states rows ≡ n → Made m states rows v → Now m n 0 None v
  fresh_now states rows v e h =
      record {
        places_are = same_places v.plain.listed (record { states = states; rows = rows; plain = v.plain }) v h.rest ∙ e;
        stands = h.stands;
        tells = subst (Tells m (places v) 0 None) (sym h.no_walk) tt;
      }
