-- What grids owe their reader.
use Rattle.std.specs.Prelude.{◌≡◌, ℕ, ◌+◌, ◌-◌, ◌*◌, ◌<◌, ◌≤◌, true, false, List, [], length, nat_le, slice_index, slice_index_or}
use Rattle.rules.specs.Convert.{entering, one_mw}
use Rattle.rules.specs.Grids.{Meaning, Lawful, gauges_of, paths_of, room_of, weight_of, weights_of, as_watts, has_room, booked, extended, weight_over, rising_ground}
use Rattle.rules.specs.LegGrids.{leg_grid}
use Rattle.rules.specs.Lists.{all_of, has}
use Rattle.rules.specs.Network.{Drawing, path_holds, stretches}
use Rattle.rules.specs.declared.power.Mw.{Mw}
use Rattle.rules.specs.declared.power.Watts.{Watts}

-- nothing is told beyond the counts
pub record NothingBeyond (m : Meaning) : Type 0 where
  pub rooms : (k : ℕ) → gauges_of m ≤ k → room_of m k ≡ as_watts 0
  pub paths : (p k : ℕ) → paths_of m ≤ p → weight_of m p k ≡ as_watts 0
  pub weights : (p k : ℕ) → gauges_of m ≤ k → weight_of m p k ≡ as_watts 0

-- q MW on a path: every room is enough exactly where each gauge has q times the path's weight left, and booking takes just that of each
pub record Booking (m : Meaning) (p : ℕ) (q : Mw) : Type 0 where
  pub enough : has_room m p q ≡ true → (k : ℕ) → q.0 * (weight_of m p k).0 ≤ (room_of m k).0
  pub enough_from : ((k : ℕ) → q.0 * (weight_of m p k).0 ≤ (room_of m k).0) → has_room m p q ≡ true
  pub rooms : (k : ℕ) → room_of (booked m p q) k ≡ as_watts ((room_of m k).0 - q.0 * (weight_of m p k).0)
  pub gauges : gauges_of (booked m p q) ≡ gauges_of m
  pub lawful : Lawful (booked m p q)

-- what a grid may add: so many gauges that there are 256 in all at most, with rooms within the limit, each over ground gauges
pub record MayAdd (m : Meaning) (over : List (List ℕ)) (rs : List Watts) : Type 0 where
  pub as_many : length over ≡ length rs
  pub few : gauges_of m + length rs ≤ 256
  pub roomy : all_of (λ w. nat_le w.0 100000000000) rs ≡ true
  pub grounded : all_of (rising_ground m.grounds) over ≡ true

-- gauges added above a lawful grid: those below are passed on, and a path weighs on an added one what it weighs on its gauges together
pub record Extension (m : Meaning) (over : List (List ℕ)) (rs : List Watts) : Type 0 where
  pub lawful : Lawful (extended m over rs)
  pub gauges : gauges_of (extended m over rs) ≡ gauges_of m + length rs
  pub paths : paths_of (extended m over rs) ≡ paths_of m
  pub rooms_below : (k : ℕ) → k < gauges_of m → room_of (extended m over rs) k ≡ room_of m k
  pub rooms_added : (i : ℕ) → room_of (extended m over rs) (gauges_of m + i) ≡ slice_index_or rs i (as_watts 0)
  pub weights_below : (p k : ℕ) → k < gauges_of m → weight_of (extended m over rs) p k ≡ weight_of m p k
  pub weights_added : (p i : ℕ) → i < length over → weight_of (extended m over rs) p (gauges_of m + i) ≡ weight_over (slice_index_or over i []) (weights_of m p)

-- a path weighs on each leg that it takes what enters that leg, and nothing on any other
pub record LegWeights (d : Drawing) (p : ℕ) : Type 0 where
  pub on_its_legs : (i : ℕ) → i < length (slice_index_or d.paths p [])
      → weight_of (leg_grid d) p (slice_index (slice_index_or d.paths p []) i) ≡ as_watts (slice_index (entering one_mw (stretches d.legs (slice_index_or d.paths p []))) i)
  pub elsewhere : (j : ℕ) → has j (slice_index_or d.paths p []) ≡ false → weight_of (leg_grid d) p j ≡ as_watts 0

pub record GridsStand : Type 0 where
  pub beyond : (m : Meaning) → Lawful m → NothingBeyond m
  pub booking : (m : Meaning) (p : ℕ) (q : Mw) → Lawful m → Booking m p q
  pub extension : (m : Meaning) (over : List (List ℕ)) (rs : List Watts) → Lawful m → MayAdd m over rs → Extension m over rs
  pub legs : (d : Drawing) (p : ℕ) → p < length d.paths → path_holds d.nodes d.legs (slice_index_or d.paths p []) ≡ true → LegWeights d p
