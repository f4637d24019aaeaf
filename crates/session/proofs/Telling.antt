-- In a final list the rows tell which outcomes are within j, so a visit gives each state its row. Assumes nothing.
use Rattle.std.proofs.Common.{◌≡◌, ℕ, zero, suc, ◌+◌, ◌<◌, Bool, cond, ◌&&◌, List, [], ◌∷◌, take, set, Some, refl, ap, ◌∙◌, ap₂, arith}
use mathlib.Core.List.{Memᴰ}
use Rattle.std.specs.List.{slice_get}
use Rattle.planning.specs.Meaning.{Meaning, Lawful}
use Rattle.planning.proofs.Seen.{seen}
use Rattle.planning.specs.Finding.{found, Final, place_of}
use Rattle.planning.specs.Ranks.{every, some_of, brings, within, first_act, rank_by}
use Rattle.planning.proofs.Within.{within_alike}
use Rattle.planning.proofs.Places.{Placed, closed}
use Rattle.session.specs.ClosedForm.{row_by}
use Rattle.session.specs.Views.{View, row_at}
use Rattle.session.specs.Judging.{row_below, judged, told, choice, visited}
use Rattle.session.proofs.Judged.{visited_is}
use Rattle.session.proofs.Ranking.{judged_row}

every_alike : {S : Type 0} (p q : S → Bool) (os : List S) → ((o : S) → Memᴰ o os → p o ≡ q o) → every p os ≡ every q os
every_alike p q [] h = refl
every_alike p q (o ∷ os) h = ap₂ ◌&&◌ (h o (Memᴰ.head refl)) (every_alike p q os (λ x i. h x (Memᴰ.tail i)))

first_alike : (f g : ℕ → Bool) (a n : ℕ) → ((k : ℕ) → k < a + n → f k ≡ g k) → first_act f a n ≡ first_act g a n
first_alike f g a zero h = refl
first_alike f g a (suc n) h =
    ap (λ b. cond b (Some a) (first_act f (suc a) n)) (h a (omega arith)) ∙ ap (λ r. cond (g a) (Some a) r) (first_alike f g (suc a) n (λ k l. h k (omega arith)))

module _ {S : Type 0} (m : Meaning S) (law : Lawful m) (r : ℕ) (final : Final m r) (v : View S) (j : ℕ)
    (states : take v.plain.listed v.states ≡ found m r)
    (levels : (p : ℕ) (t : S) → slice_get (found m r) p ≡ Some t → row_below (suc j) (slice_get v.rows p) ≡ within m j t) where
  told_placed : (o : S) → Placed m (found m r) o → told m v (suc j) o ≡ within m j o
  told_placed o pl =
      let w = seen m o 0 (found m r) pl.place pl.state pl.at pl.same in
      let n : 0 + w.place ≡ w.place = omega arith in
      let e : place_of m (take v.plain.listed v.states) o ≡ Some w.place = ap (λ ts. place_of m ts o) states ∙ w.is ∙ ap Some n in
      ap (λ x. row_below (suc j) (row_at v.rows x)) e ∙ levels w.place w.state w.at ∙ within_alike m law j w.state o w.same

  brings_told : (i : ℕ) (s : S) → slice_get (found m r) i ≡ Some s → (a : ℕ) → a < m.acts → brings m (told m v (suc j)) s a ≡ brings m (within m j) s a
  brings_told i s at a h =
      ap (λ b. some_of (m.outcomes s a) && b) (every_alike (told m v (suc j)) (within m j) (m.outcomes s a) (λ o out. told_placed o (closed m law r final i s at a h o out)))

  pub choice_told : (i : ℕ) (s : S) → slice_get (found m r) i ≡ Some s → choice m v (suc j) s ≡ first_act (brings m (within m j) s) 0 m.acts
  choice_told i s at = first_alike (brings m (told m v (suc j)) s) (brings m (within m j) s) 0 m.acts (λ k h. brings_told i s at k (omega arith))

  pub visited_told : (i : ℕ) (s : S) → slice_get (found m r) i ≡ Some s → slice_get v.states i ≡ Some s → slice_get v.rows i ≡ Some (row_by m j s) → visited m v i (suc j) ≡ set v.rows i (row_by m (suc j) s)
  visited_told i s at here row =
      visited_is m v i (suc j) s (row_by m j s) here row
      ∙ ap (λ o. set v.rows i (judged (row_by m j s) (rank_by m j s) (suc j) o)) (choice_told i s at)
      ∙ ap (set v.rows i) (judged_row m j s)
