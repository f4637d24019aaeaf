-- The ranks of a final list are settled by a search of bounded depth. Assumes nothing.
use Rattle.std.proofs.Common.{◌≡◌, ℕ, zero, suc, ◌≤◌, false, ◌||◌, Some, None, Option, refl, ap, ◌∙◌, inl, inr, arith}
use Rattle.std.specs.List.{slice_get}
use Rattle.planning.specs.Meaning.{Meaning, Lawful}
use Rattle.planning.specs.Finding.{found, Final}
use Rattle.planning.specs.Ranks.{Largest, some_act, first_act, brings, within, Ranked, ActGiven, rank_by, act_of}
use Rattle.planning.specs.Theory.{RanksSettled, RankIsDepth}
use Rattle.planning.proofs.Tests.{clash}
use Rattle.planning.proofs.Within.{one_rank, ranked_alike}
use Rattle.planning.proofs.Places.{start_first}
use Rattle.planning.proofs.Ranking.{first_none, first_lowest}
use Rattle.planning.proofs.Gapless.{has_below, has_down}
use Rattle.planning.proofs.Bridges.{ranked_some, ranked_none, largest_is}
use Rattle.planning.proofs.Depths.{depth_from_rank, rank_from_depth, none_from_blank, blank_from_none}

module _ {S : Type 0} (m : Meaning S) where
  pub one_rank_of : (s : S) (o p : Option ℕ) → Ranked m s o → Ranked m s p → o ≡ p
  one_rank_of s (Some j) (Some k) h g = ap Some (one_rank m s j k h g)
  one_rank_of s (Some j) None h g = absurd (clash (within m j s) (g j) h.0)
  one_rank_of s None (Some k) h g = absurd (clash (within m k s) (h k) g.0)
  one_rank_of s None None h g = refl

  largest_low : (r a b : ℕ) → Largest m r a → Largest m r b → a ≤ b
  largest_low r a b x y = elim x.some [ inl e ↦ omega arith | inr h ↦ y.most h.0 a h.1.0 h.1.1.0 h.1.1.1 ]

  -- a list has one largest rank
  pub one_largest : (r a b : ℕ) → Largest m r a → Largest m r b → a ≡ b
  one_largest r a b x y = omega (arith, largest_low r a b x y, largest_low r b a y x)

  -- the act of a rank above 0
  act_above : (s : S) (j : ℕ) → Ranked m s (Some (suc j)) → (o : Option ℕ) → first_act (brings m (within m j) s) 0 m.acts ≡ o → ActGiven m s (Some (suc j)) o
  act_above s j h None e =
      let none : within m (suc j) s ≡ false = ap (λ b. b || some_act (brings m (within m j) s) 0 m.acts) (h.1 j (omega arith)) ∙ first_none (brings m (within m j) s) 0 m.acts e in
      clash (within m (suc j) s) none h.0
  act_above s j h (Some a) e =
      let f = first_lowest (brings m (within m j) s) 0 m.acts a e in
      record { known = omega (arith, f.below); gives = f.passes; lowest = λ b l. f.lowest b (omega arith) l }

  act_of_rank : (s : S) (o : Option ℕ) → Ranked m s o → ActGiven m s o (act_of m s o)
  act_of_rank s None h = refl
  act_of_rank s (Some zero) h = refl
  act_of_rank s (Some (suc j)) h = act_above s j h (first_act (brings m (within m j) s) 0 m.acts) refl

  pub act_given : (j : ℕ) (s : S) → ActGiven m s (rank_by m j s) (act_of m s (rank_by m j s))
  act_given j s = go (rank_by m j s) refl
    where
      go : (o : Option ℕ) → rank_by m j s ≡ o → ActGiven m s o (act_of m s o)
      go None e = refl
      go (Some k) e = act_of_rank s (Some k) (ranked_some m j s k e)

module _ {S : Type 0} (m : Meaning S) (law : Lawful m) where
  pub decided : (r : ℕ) → Final m r → (i : ℕ) (s : S) → slice_get (found m r) i ≡ Some s → Ranked m s (rank_by m r s)
  decided r final i s at = go (rank_by m r s) refl
    where
      go : (o : Option ℕ) → rank_by m r s ≡ o → Ranked m s o
      go None e = ranked_none m law r final i s at e
      go (Some k) e = ranked_some m r s k e

  -- the rank of the start, as a search as deep as a final list is long tells it
  pub start_ranked : (r : ℕ) → Final m r → Ranked m m.start (rank_by m r m.start)
  start_ranked r final = decided r final 0 m.start (start_first m r)

  pub start_rank : (r : ℕ) → Final m r → (o : Option ℕ) → Ranked m m.start o → rank_by m r m.start ≡ o
  start_rank r final o h = one_rank_of m m.start (rank_by m r m.start) o (start_ranked r final) h

  pub ranks_settled : RanksSettled m
  ranks_settled =
      record {
        below_length = λ r final i s j at h. has_below m law r final j (i, (s, (at, h)));
        gapless = λ r final l largest j below above. elim largest.some [ inl none ↦ absurd (omega arith) | inr h ↦ has_down m law r final j l below h ];
        same_rank = ranked_alike m law;
        one_rank = one_rank_of m;
        decided = decided;
        act_given = act_given m;
        largest_is = largest_is m law;
      }

  pub rank_is_depth : RankIsDepth m
  rank_is_depth = record { depth_of_rank = depth_from_rank m law; rank_of_depth = rank_from_depth m law; none_of_blank = none_from_blank m law; blank_of_none = blank_from_none m law }
