-- What ask and start find of a state, case by case. Assumes nothing.
use Rattle.std.proofs.Common.{◌≡◌, ℕ, true, false, T, Some, None, Ok, Err, Option, Result, sym, refl, ap, ◌∙◌, subst, arith}
use Rattle.session.specs.declared.plain.Row.{Row}
use Rattle.session.specs.declared.plain.Standing.{Standing}
use Rattle.session.specs.declared.plain.Standing.TheVariants.{Working, NoPlan, Found, Full}
use Rattle.session.specs.declared.stops.AskStop.{AskStop}
use Rattle.planning.specs.Meaning.{Meaning, Lawful}
use Rattle.planning.specs.Finding.{listed, found, Final, place_of}
use Rattle.planning.specs.Ranks.{Ranked, ActGiven}
use Rattle.planning.proofs.Tests.{clash, holds}
use Rattle.planning.proofs.Growth.{one_final}
use Rattle.planning.proofs.Seen.{placed_none, seen_listed}
use Rattle.session.specs.ClosedForm.{row_by, progress, known, known_rows}
use Rattle.session.specs.Views.{View, row_at}
use Rattle.session.specs.Stops.{ask_number}
use Rattle.session.specs.Calls.{concluded, row_of, ask_answer}
use Rattle.session.specs.Promise.{Looked, AskRight}
use Rattle.session.proofs.Settling.{Settled, settled_from, settled_known}
use Rattle.session.proofs.Rows.{last, Stood, stood_at, row_own, rank_own, act_told}

module _ {S : Type 0} (m : Meaning S) (n u : ℕ) (o : S) where
  -- what ask answers of the state o, by the standing
  pub data LookCase : Standing → Result Row AskStop → Type 0 where
    early : LookCase Working (Err AskStop.Working)
    over : (f : ℕ) → LookCase (Full f) (Err AskStop.Full)
    unlisted : {st : Standing} → Settled m n u → T (concluded st) → listed m (known m n u) o ≡ false → LookCase st (Err AskStop.Unlisted)
    told : {st : Standing} {row : Row} (c : Settled m n u) → T (concluded st) → listed m (known m n u) o ≡ true → Stood m n u c o → row ≡ row_by m (last m n u c) o → LookCase st (Ok row)

ask_row : (st : Standing) → T (concluded st) → (row : Row) → ask_answer st (Some row) ≡ Ok row
ask_row Working t row = absurd t
ask_row NoPlan t row = refl
ask_row (Found d) t row = refl
ask_row (Full f) t row = absurd t

ask_none : (st : Standing) → T (concluded st) → ask_answer st None ≡ Err AskStop.Unlisted
ask_none Working t = absurd t
ask_none NoPlan t = refl
ask_none (Found d) t = refl
ask_none (Full f) t = absurd t

module _ {S : Type 0} (m : Meaning S) (law : Lawful m) (n u : ℕ) (o : S) where
  by_place : (st : Standing) → T (concluded st) → Settled m n u → (x : Option ℕ) → place_of m (known m n u) o ≡ x → LookCase m n u o st (ask_answer st (row_of m n u o))
  by_place st t c None e =
      subst (LookCase m n u o st) (sym (ap (λ x. ask_answer st (row_at (known_rows m n u) x)) e ∙ ask_none st t)) (unlisted c t (placed_none m o 0 (known m n u) e))
  by_place st t c (Some p) e =
      let w = stood_at m n u c o p e in
      subst (LookCase m n u o st) (sym (ap (ask_answer st) (row_own m law n u c o w) ∙ ask_row st t (row_by m (last m n u c) o)))
      (told c t (seen_listed m o 0 (known m n u) p e) w refl)

  by_standing : (st : Standing) → (progress m n u).standing ≡ st → LookCase m n u o st (ask_answer st (row_of m n u o))
  by_standing Working e = early
  by_standing (Full f) e = over f
  by_standing NoPlan e = by_place NoPlan tt (settled_from m n u (subst (λ x. T (concluded x)) (sym e) tt)) (place_of m (known m n u) o) refl
  by_standing (Found d) e = by_place (Found d) tt (settled_from m n u (subst (λ x. T (concluded x)) (sym e) tt)) (place_of m (known m n u) o) refl

  pub look_case : LookCase m n u o (progress m n u).standing (ask_answer (progress m n u).standing (row_of m n u o))
  look_case = by_standing (progress m n u).standing refl

-- a number that goes with an answer of ask: its own, or the one that start makes of it
abbrev pub Numbered : Result Row AskStop → ℕ → Type 0
Numbered (Err AskStop.Working) k = k ≡ 9
Numbered (Err AskStop.Full) k = k ≡ 10
Numbered (Err AskStop.Unlisted) k = k ≡ 11
Numbered (Ok row) k = (k ≡ 9 → ⊥) × ((k ≡ 10 → ⊥) × (k ≡ 11 → ⊥))

module _ {S : Type 0} (m : Meaning S) (n u : ℕ) (o : S) where
  -- the list that is known is the final one
  pub all_listed : (count : ℕ) → Final m count → Settled m n u → listed m (known m n u) o ≡ listed m (found m count) o
  all_listed count final c = ap (λ xs. listed m xs o) (settled_known m n u c ∙ ap (found m) (one_final m c.count count c.ends final))

  -- a standing that is concluded is neither working nor full
  ended : {st : Standing} {A : Type 0} (x : Standing) → concluded x ≡ false → T (concluded st) → st ≡ x → A
  ended {st} x q t e = absurd (clash (concluded st) (ap concluded e ∙ q) t)

  pub looked : {st : Standing} {a : Result Row AskStop} (k : ℕ) → LookCase m n u o st a → Numbered a k → Looked m st o k
  looked k early q =
      record { working = (λ _. refl, λ _. q); full = (λ e. absurd (omega arith), λ e. absurd (let f = e.1 in let z : ◌≡◌ {A = ℕ} 0 1 = cc in omega arith)); unlisted = λ _ _ t. absurd t }
  looked k (over f) q =
      record { working = (λ e. absurd (omega arith), λ e. absurd (let z : ◌≡◌ {A = ℕ} 0 1 = cc in omega arith)); full = (λ _. (f, refl), λ _. q); unlisted = λ _ _ t. absurd t }
  looked k (unlisted c t l) q =
      record {
        working = (λ e. absurd (omega arith), ended Working refl t);
        full = (λ e. absurd (omega arith), λ e. ended (Full e.0) refl t e.1);
        unlisted = λ count final _. (λ _. sym (all_listed count final c) ∙ l, λ _. q);
      }
  looked k (told c t l w e) q =
      record {
        working = (λ e. absurd (q.0 e), ended Working refl t);
        full = (λ e. absurd (q.1.0 e), λ e. ended (Full e.0) refl t e.1);
        unlisted = λ count final _. (λ e. absurd (q.1.1 e), λ e. absurd (clash (listed m (known m n u) o) (all_listed count final c ∙ e) (holds (listed m (known m n u) o) l)));
      }

ask_numbered : (r : Result Row AskStop) → Numbered r (ask_number r)
ask_numbered (Err AskStop.Working) = refl
ask_numbered (Err AskStop.Full) = refl
ask_numbered (Err AskStop.Unlisted) = refl
ask_numbered (Ok row) = (λ e. omega arith, (λ e. omega arith, λ e. omega arith))

module _ {S : Type 0} (m : Meaning S) (law : Lawful m) (n u : ℕ) (o : S) where
  -- the row that is told has the state's rank, and the lowest act that gives it
  pub row_right : (c : Settled m n u) → Stood m n u c o → (row : Row) → row ≡ row_by m (last m n u c) o → Ranked m o row.rank × ActGiven m o row.rank row.act
  row_right c w row e =
      let h = rank_own m law n u c o w in
      subst (λ x. Ranked m o x.rank × ActGiven m o x.rank x.act) (sym e) (h, act_told m law n u c o w (row_by m (last m n u c) o).rank h)

  case_told : {st : Standing} {a : Result Row AskStop} → LookCase m n u o st a → (row : Row) → a ≡ Ok row → Ranked m o row.rank × ActGiven m o row.rank row.act
  case_told early row e = absurd (let z : ◌≡◌ {A = ℕ} 0 1 = cc in omega arith)
  case_told (over f) row e = absurd (let z : ◌≡◌ {A = ℕ} 0 1 = cc in omega arith)
  case_told (unlisted c t l) row e = absurd (let z : ◌≡◌ {A = ℕ} 0 1 = cc in omega arith)
  case_told (told {row = x} c t l w q) row e = let z : row ≡ x = cc in row_right c w row (z ∙ q)

  pub ask_right : (v v' : View S) (r : Result Row AskStop) → v' ≡ v → LookCase m n u o v.plain.progress.standing r → AskRight m v o r v'
  ask_right v v' r e case = record { stops = looked m n u o (ask_number r) case (ask_numbered r); answers = case_told case; changes_nothing = e }
