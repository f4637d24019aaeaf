-- What a session holds once u units of work have been asked of it, as a function of the book, the places and u.
-- Assumes nothing.
use Rattle.std.specs.Prelude.{ℕ, zero, suc, ◌+◌, ◌-◌, ◌*◌, ◌/◌, cond, List, [], ◌∷◌, length, take, Some, None, Option, ◌==◌, nat_lt}
use Rattle.planning.specs.Meaning.{Meaning}
use Rattle.planning.specs.Finding.{found}
use Rattle.planning.specs.Ranks.{rank_by, act_of, largest}
use Rattle.session.specs.declared.plain.Row.{Row}
use Rattle.session.specs.declared.plain.Standing.{Standing}
use Rattle.session.specs.declared.plain.Standing.TheVariants.{Working, NoPlan, Found, Full}
use Rattle.session.specs.declared.plain.Progress.{Progress}

-- what the rank of place 0 decides
abbrev pub standing_of : Option ℕ → Standing
standing_of None = NoPlan
standing_of (Some d) = Found d

-- all units of a search over r states whose largest rank is l: r to expand them, r for each of the l sweeps that rank
-- something, and r for the one that ranks nothing
abbrev pub total_units : ℕ → ℕ → ℕ
total_units r l = r * (l + 2)

module _ {S : Type 0} (m : Meaning S) where
  -- the row of s once sweep j has passed it
  abbrev pub row_by : ℕ → S → Row
  row_by j s = record { rank = rank_by m j s; act = act_of m s (rank_by m j s) }

  -- the rows of the states from place p on, after u units over a list of r states: (u - (p + 1)) / r sweeps have passed p
  abbrev pub rows_from : ℕ → ℕ → ℕ → List S → List Row
  rows_from r u p [] = []
  rows_from r u p (s ∷ ss) = row_by ((u - (p + 1)) / r) s ∷ rows_from r u (suc p) ss

  -- where the search stands after u units over a final list of r states
  abbrev pub settle : ℕ → ℕ → Progress
  settle u r = let total = total_units r (largest m (found m r)) in cond (nat_lt u total) (record { standing = Working; units = u }) (record { standing = standing_of (rank_by m r m.start); units = total })

  -- where the search stands after u units in n places, looked for over k = 0, 1 and on: full once the list of the first k
  -- places outgrows n, settled once it is final
  abbrev pub progress_from : ℕ → ℕ → ℕ → ℕ → Progress
  progress_from n u zero k = record { standing = Working; units = u }
  progress_from n u (suc fuel) k = cond (nat_lt n (length (found m k))) (cond (nat_lt u k) (record { standing = Working; units = u }) (record { standing = Full k; units = k })) (cond (length (found m k) == k) (settle u k) (progress_from n u fuel (suc k)))

  -- where the search stands after u units in n places, and the units that it has spent
  abbrev pub progress : ℕ → ℕ → Progress
  progress n u = progress_from n u (suc n) 0

  -- the states that n places hold once the search stands so
  abbrev pub listed_at : ℕ → Progress → List S
  listed_at n p = take n (found m p.units)

  -- the states that are listed after u units in n places
  abbrev pub known : ℕ → ℕ → List S
  known n u = listed_at n (progress n u)

  -- and their rows
  abbrev pub known_rows : ℕ → ℕ → List Row
  known_rows n u = rows_from (length (known n u)) (progress n u).units 0 (known n u)
