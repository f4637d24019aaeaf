-- What a session that stands over its book prints. Assumes nothing.
use Rattle.std.proofs.Common.{◌≡◌, ℕ, ◌+◌, ◌≤◌, Bool, false, T, ltb, List, length, take, drop, Ok, Err, sym, refl, ap, ◌∙◌, subst, ap₂, inl, inr, arith}
use Rattle.std.proofs.lemmas.List.{length-append, length-drop, length-take, take_all}
use Rattle.std.proofs.lemmas.Slice.{drop-append-drop}
use Rattle.std.proofs.lemmas.Bool.{cases_lt, le-ltb}
use Rattle.planning.specs.Meaning.{Meaning, Lawful}
use Rattle.planning.specs.Finding.{Final, found}
use Rattle.planning.proofs.Lists.{no_member}
use Rattle.planning.proofs.Places.{closed}
use Rattle.planning.proofs.Seen.{seen}
use Rattle.session.specs.declared.plain.Standing.{Standing}
use Rattle.session.specs.declared.plain.Standing.TheVariants.{Working, NoPlan, Found, Full}
use Rattle.session.specs.ClosedForm.{known, known_rows, progress}
use Rattle.session.specs.Views.{View, places}
use Rattle.session.specs.Calls.{Stands, concluded}
use Rattle.session.proofs.Asking.{states_known}
use Rattle.session.proofs.Phases.{Phase, expanding, full, final, phase, when_full, when_open}
use Rattle.session.proofs.Standings.{known_final}
use Rattle.lines.specs.declared.LineStop.{LineStop}
use Rattle.lines.specs.Texts.{clip}
use Rattle.lines.specs.Words.{held_text, line_text, line_words, sentence}
use Rattle.lines.specs.Stops.{line_answer, line_number}
use Rattle.lines.specs.Calls.{Closed, Printed, over}
use Rattle.lines.proofs.Fitting.{line_fits}

-- a search that has ended is answered with the length
ended_answer : (st : Standing) (n : ℕ) → (st ≡ Working → ⊥) → Ok n ≡ line_answer false st n
ended_answer Working n h = absurd (h refl)
ended_answer NoPlan n h = refl
ended_answer (Found d) n h = refl
ended_answer (Full f) n h = refl

module _ {S : Type 0} (m : Meaning S) (law : Lawful m) where
  -- a final list has a place for each outcome
  final_closed : (r : ℕ) → Final m r → Closed m (found m r)
  final_closed r f i a s o at out =
      elim (cases_lt a m.acts) [
        | inl l ↦ let pl = closed m law r f i s at a l o out in let w = seen m o 0 (found m r) pl.place pl.state pl.at pl.same in (0 + w.place, w.is)
        | inr l ↦ absurd (no_member (law.no_act s a l) out)
      ]

  ended_closed : (n u : ℕ) → T (concluded (progress m n u).standing) → Closed m (known m n u)
  ended_closed n u t = go (phase m n u)
    where
      go : Phase m n u → Closed m (known m n u)
      go (expanding h) = absurd (subst (λ p. T (concluded p.standing)) (when_open m n u h) t)
      go (full k h o l) = absurd (subst (λ p. T (concluded p.standing)) (when_full m n u k h o l) t)
      go (final r h f l) = subst (Closed m) (sym (known_final m n u r h f l)) (final_closed r f)

module _ {S : Type 0} (m : Meaning S) (law : Lawful m) (i : ℕ) (v : View S) (before : List ℕ) where
  abbrev short : Bool
  short = ltb (length before) 64

  -- what a session that stands over its book holds is what the line tells
  held_is : (u : ℕ) → Stands m u v → held_text m v i ≡ line_text m (places v) u i
  held_is u h =
      let rows : take v.plain.listed v.rows ≡ known_rows m (places v) u = ap (λ k. take k v.rows) h.listed_is ∙ h.rows_are in
      ap (λ ts. sentence (line_words m ts v.plain.progress (take v.plain.listed v.rows) i)) (states_known m v u h)
      ∙ ap₂ (λ p rs. sentence (line_words m (known m (places v) u) p rs i)) h.progress_is rows

  module _ (e : LineStop) (due : (n : ℕ) → Err e ≡ line_answer short v.plain.progress.standing n) where
    pub refused : Printed m i v before (Err e) before
    refused =
        record {
          answer = λ u h. due (length (line_text m (places v) u i)) ∙ ap (λ p. line_answer short p.standing (length (line_text m (places v) u i))) h.progress_is;
          buffer = λ u h. refl;
          fits = λ u h. line_fits m law (places v) u (omega arith) i;
          closed = λ u h. ended_closed m law (places v) u;
          number = ap line_number (due 0);
          kept = λ _ _. refl;
          bound = λ n q. absurd (let z : ◌≡◌ {A = ℕ} 0 1 = cc in omega arith);
          rest = refl;
          size = refl;
        }

  module _ (text after : List ℕ) (n : ℕ) (room : 64 ≤ length before) (ended : v.plain.progress.standing ≡ Working → ⊥)
      (told : text ≡ clip (held_text m v i)) (tells : n ≡ length text) (laid : after ≡ over text before) where
    due : (k : ℕ) → Ok k ≡ line_answer short v.plain.progress.standing k
    due k = ended_answer v.plain.progress.standing k ended ∙ ap (λ b. line_answer b v.plain.progress.standing k) (sym (le-ltb (length before) 64 room))

    text_is : (u : ℕ) → Stands m u v → text ≡ line_text m (places v) u i
    text_is u h = told ∙ ap clip (held_is u h) ∙ take_all 64 (line_text m (places v) u i) (line_fits m law (places v) u (omega arith) i)

    text_most : length text ≤ 64
    text_most = let e = ap length told in let l = length-take 64 (held_text m v i) in omega arith

    pub printed : Printed m i v before (Ok n) after
    printed =
        record {
          answer = λ u h. due n ∙ ap₂ (λ p k. line_answer short p.standing k) h.progress_is (tells ∙ ap length (text_is u h));
          buffer = λ u h. laid ∙ ap (λ bs. over bs before) (text_is u h);
          fits = λ u h. line_fits m law (places v) u (omega arith) i;
          closed = λ u h. ended_closed m law (places v) u;
          number = ap line_number (due 0);
          kept = λ e c. absurd (let z : ◌≡◌ {A = ℕ} 0 1 = cc in omega arith);
          bound = λ k q. let e : n ≡ k = cc in omega (arith, text_most);
          rest = ap (drop 64) laid ∙ drop-append-drop (length text) before text 64 text_most refl;
          size = ap length laid ∙ simp (length-append, length-drop) (let l = text_most in omega arith);
        }
