-- What ranks and finding lists have to do with plans: to be proved of every lawful book. Assumes nothing.
use Rattle.std.specs.Prelude.{◌≡◌, ℕ, ◌<◌, ◌≤◌, false, T, Some, None, Option}
use mathlib.Core.List.{Memᴰ}
use Rattle.std.specs.List.{slice_get}
use Rattle.planning.specs.Meaning.{Meaning}
use Rattle.planning.specs.Plans.{NoStrongPlan, LeastDepth}
use Rattle.planning.specs.Finding.{listed, found, Final}
use Rattle.planning.specs.Ranks.{Ranked, Largest, ActGiven, rank_by, act_of, largest}

module _ {S : Type 0} (m : Meaning S) where
  -- the start's rank is the least depth of a strong plan
  pub record RankIsDepth : Type 0 where
    -- the start has rank d exactly when d acts suffice for a strong plan and fewer do not
    pub depth_of_rank : (d : ℕ) → Ranked m m.start (Some d) → LeastDepth m d
    pub rank_of_depth : (d : ℕ) → LeastDepth m d → Ranked m m.start (Some d)
    -- its rank is blank exactly when no plan is strong
    pub none_of_blank : Ranked m m.start None → NoStrongPlan m
    pub blank_of_none : NoStrongPlan m → Ranked m m.start None

  -- the ranks in a final list, and that a search of bounded depth settles them
  pub record RanksSettled : Type 0 where
    -- ranks lie below the length of the list and have no gap
    pub below_length : (r : ℕ) → Final m r → (i : ℕ) (s : S) (j : ℕ) → slice_get (found m r) i ≡ Some s → Ranked m s (Some j) → j < r
    pub gapless : (r : ℕ) → Final m r → (l : ℕ) → Largest m r l → (j : ℕ) → j ≤ l → 0 < j → (i : ℕ) × ((s : S) × ((slice_get (found m r) i ≡ Some s) × Ranked m s (Some j)))
    -- same states have the same rank, and a state has one rank
    pub same_rank : (s t : S) (o : Option ℕ) → T (m.same s t) → Ranked m s o → Ranked m t o
    pub one_rank : (s : S) (o p : Option ℕ) → Ranked m s o → Ranked m s p → o ≡ p
    -- rank and act of a listed state are decided by looking as deep as the list is long
    pub decided : (r : ℕ) → Final m r → (i : ℕ) (s : S) → slice_get (found m r) i ≡ Some s → Ranked m s (rank_by m r s)
    pub act_given : (j : ℕ) (s : S) → ActGiven m s (rank_by m j s) (act_of m s (rank_by m j s))
    pub largest_is : (r : ℕ) → Final m r → Largest m r (largest m (found m r))

  -- how the finding list grows
  pub record ListGrows : Type 0 where
    -- a state keeps its place
    pub keeps : (k r : ℕ) → k ≤ r → (i : ℕ) (s : S) → slice_get (found m k) i ≡ Some s → slice_get (found m r) i ≡ Some s
    -- a final list stays as it is, and is final at one length only
    pub stable : (r k : ℕ) → Final m r → r ≤ k → found m k ≡ found m r
    pub one_final : (r k : ℕ) → Final m r → Final m k → r ≡ k
    -- two places never hold same states
    pub distinct : (k i j : ℕ) (s t : S) → slice_get (found m k) i ≡ Some s → slice_get (found m k) j ≡ Some t → i < j → m.same s t ≡ false
    -- every outcome of an expanded place is listed
    pub expands : (k i : ℕ) (s : S) → i < k → slice_get (found m k) i ≡ Some s → (a : ℕ) → (o : S) → Memᴰ o (m.outcomes s a) → T (listed m (found m k) o)
    -- whatever a final list has, up to sameness, has its outcomes listed
    pub closed : (r : ℕ) → Final m r → (s : S) → T (listed m (found m r) s) → (a : ℕ) (o : S) → Memᴰ o (m.outcomes s a) → T (listed m (found m r) o)
