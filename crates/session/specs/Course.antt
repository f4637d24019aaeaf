-- How a search goes unit by unit, in the words of lists and ranks. Assumes nothing.
use Rattle.std.specs.Prelude.{◌≡◌, ℕ, suc, ◌+◌, ◌-◌, ◌*◌, ◌<◌, ◌≤◌, List, [], ◌∷◌, length, take, Some, None}
use Rattle.std.specs.List.{slice_get}
use Rattle.planning.specs.Meaning.{Meaning}
use Rattle.planning.specs.Finding.{found, Final}
use Rattle.planning.specs.Ranks.{Ranked, ActGiven, Largest, rank_by}
use Rattle.session.specs.declared.plain.Row.{Row}
use Rattle.session.specs.declared.plain.Progress.{Progress}
use Rattle.session.specs.declared.plain.Standing.TheVariants.{Working, NoPlan, Found, Full}
use Rattle.session.specs.ClosedForm.{total_units, row_by, progress, known, known_rows}
use Rattle.session.specs.Views.{View}
use Rattle.session.specs.Calls.{Stands, Worked}

module _ {S : Type 0} (m : Meaning S) where
  -- after u units the first u places are expanded, each by one unit in order, and no sweep has begun
  pub record Expands (n u : ℕ) : Type 0 where
    pub stands : progress m n u ≡ record { standing = Working; units = u }
    pub lists : known m n u ≡ found m u
    pub rows : (p : ℕ) (s : S) → slice_get (found m u) p ≡ Some s → slice_get (known_rows m n u) p ≡ Some (row_by m 0 s)

  -- the search has stopped in unit f, and keeps the first n states
  pub record StopsFull (n f u : ℕ) : Type 0 where
    pub stands : progress m n u ≡ record { standing = Full f; units = f }
    pub lists : known m n u ≡ take n (found m f)
    pub rows : (p : ℕ) (s : S) → slice_get (take n (found m f)) p ≡ Some s → slice_get (known_rows m n u) p ≡ Some (row_by m 0 s)

  -- sweep j over r states has visited i places, one by each unit in order
  pub record Sweeps (n r j i : ℕ) : Type 0 where
    pub stands : progress m n (j * r + i) ≡ record { standing = Working; units = j * r + i }
    pub lists : known m n (j * r + i) ≡ found m r
    pub passed : (p : ℕ) (s : S) → p < i → slice_get (found m r) p ≡ Some s → slice_get (known_rows m n (j * r + i)) p ≡ Some (row_by m j s)
    pub waiting : (p : ℕ) (s : S) → i ≤ p → slice_get (found m r) p ≡ Some s → slice_get (known_rows m n (j * r + i)) p ≡ Some (row_by m (j - 1) s)

  -- the search over r states has ended after the given units: each row has its state's rank, and the lowest act that
  -- gives it
  pub record Ends (n r total u : ℕ) : Type 0 where
    pub found_is : (d : ℕ) → Ranked m m.start (Some d) → progress m n u ≡ record { standing = Found d; units = total }
    pub none_is : Ranked m m.start None → progress m n u ≡ record { standing = NoPlan; units = total }
    pub lists : known m n u ≡ found m r
    pub rows : (p : ℕ) (s : S) → slice_get (found m r) p ≡ Some s → (row : Row) × ((slice_get (known_rows m n u) p ≡ Some row) × (Ranked m s row.rank × ActGiven m s row.rank row.act))

  -- `rank_by j`, which a row holds that sweep j has passed, is the rank of its state if that is at most j, and blank
  -- otherwise
  pub record RanksTold : Type 0 where
    pub given : (j k : ℕ) (s : S) → Ranked m s (Some k) → k ≤ j → rank_by m j s ≡ Some k
    pub true_rank : (j k : ℕ) (s : S) → rank_by m j s ≡ Some k → Ranked m s (Some k) × (k ≤ j)

  -- the whole course in n places
  pub record Course : Type 0 where
    -- while a place is left to expand and what was found fits
    pub expanding : (n u : ℕ) → u < length (found m u) → length (found m u) ≤ n → Expands n u
    -- from the first unit f on in which a state too many would join
    pub full : (n f u : ℕ) → n < length (found m f) → ((k : ℕ) → k < f → length (found m k) ≤ n) → f ≤ u → StopsFull n f u
    -- in each sweep up to the first that ranks nothing, which is the one after the largest rank l
    pub sweeping : (n r l : ℕ) → Final m r → r ≤ n → Largest m r l → (j i : ℕ) → 0 < j → j ≤ suc l → i < r → Sweeps n r j i
    pub ranks : RanksTold
    -- after r * (l + 2) units
    pub ended : (n r l : ℕ) → Final m r → r ≤ n → Largest m r l → (u : ℕ) → total_units r l ≤ u → Ends n r (total_units r l) u

  -- one work after another, of the quotas listed
  pub data Portioned : View S → List ℕ → View S → Type 0 where
    none_left : {v : View S} → Portioned v [] v
    one_more : {v w x : View S} {q : ℕ} {qs : List ℕ} (r : Progress) → Worked m q v r w → Portioned w qs x → Portioned v (q ∷ qs) x

  -- the sum of the quotas
  abbrev pub all_of : List ℕ → ℕ
  all_of [] = 0
  all_of (q ∷ qs) = q + all_of qs

  -- work in any portions leaves the very session that work of their sum leaves
  abbrev pub Portions : Type 0
  Portions = (u : ℕ) (qs : List ℕ) (v x y : View S) (r : Progress) → Stands m u v → Portioned v qs x → Worked m (all_of qs) v r y → x ≡ y
