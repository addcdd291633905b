-- What a grid means to whoever stands above it, the laws of such a meaning, and what booking does to it.
use Rattle.std.specs.Prelude.{◌≡◌, ℕ, ◌+◌, ◌-◌, ◌*◌, ◌<◌, ◌≤◌, Bool, true, ◌&&◌, ltb, leb, List, [], ◌∷◌, ◌++◌, map, length, get_or, take, nat_le, nat_lt, slice_index_or}
use Rattle.rules.specs.Lists.{all_of, sum_by, below}
use Rattle.rules.specs.declared.power.Mw.{Mw}
use Rattle.rules.specs.declared.power.Watts.{Watts}

abbrev pub as_watts : ℕ → Watts
as_watts n = record { 0 = n }

-- how many of the gauges are ground, which are the first; the room of each gauge; and for each path its weight on each gauge, in W for each MW sent
pub record Meaning : Type 0 where
  pub grounds : ℕ
  pub rooms : List Watts
  pub weights : List (List Watts)

abbrev pub gauges_of : Meaning → ℕ
gauges_of m = length m.rooms

abbrev pub paths_of : Meaning → ℕ
paths_of m = length m.weights

-- an unknown path or gauge is told as 0
abbrev pub room_of : Meaning → ℕ → Watts
room_of m k = slice_index_or m.rooms k (as_watts 0)

abbrev pub weights_of : Meaning → ℕ → List Watts
weights_of m p = slice_index_or m.weights p []

abbrev pub weight_of : Meaning → ℕ → ℕ → Watts
weight_of m p k = slice_index_or (weights_of m p) k (as_watts 0)

abbrev pub sum_of : List Watts → ℕ
sum_of ws = sum_by (λ w. w.0) ws

-- what every grid keeps to: rooms and weights within their limits, a path's weights on the ground gauges together within the limit of one weight, and as
-- many weights of a path as there are gauges
pub record Lawful (m : Meaning) : Type 0 where
  pub few : gauges_of m ≤ 256
  pub ground_first : m.grounds ≤ gauges_of m
  pub roomy : (k : ℕ) → (room_of m k).0 ≤ 100000000000
  pub narrow : (p k : ℕ) → (weight_of m p k).0 ≤ 8000000
  pub light : (p : ℕ) → sum_of (take m.grounds (weights_of m p)) ≤ 8000000
  pub even : (p : ℕ) → p < paths_of m → length (weights_of m p) ≡ gauges_of m

-- each room is enough for q MW that weigh so much on it
abbrev pub enough : Mw → List Watts → List Watts → Bool
enough q rs ws = all_of (λ k. leb (q.0 * (get_or ws k (as_watts 0)).0) (get_or rs k (as_watts 0)).0) (below (length rs))

-- each room lowered by q MW times the weight on it
abbrev pub lowered : Mw → List Watts → List Watts → List Watts
lowered q rs ws = map (λ k. as_watts ((get_or rs k (as_watts 0)).0 - q.0 * (get_or ws k (as_watts 0)).0)) (below (length rs))

abbrev pub known : Meaning → ℕ → Bool
known m p = nat_lt p (paths_of m)

abbrev pub has_room : Meaning → ℕ → Mw → Bool
has_room m p q = enough q m.rooms (weights_of m p)

-- whether a path can carry 1 MW
abbrev pub carries_one : Meaning → ℕ → Bool
carries_one m p = known m p && has_room m p (record { 0 = 1 })

-- q MW booked on a path: counts and weights stay
abbrev pub booked : Meaning → ℕ → Mw → Meaning
booked m p q = record { grounds = m.grounds; rooms = lowered q m.rooms (weights_of m p); weights = m.weights }

-- what a path of these weights weighs on the gauges ks together
abbrev pub weight_over : List ℕ → List Watts → Watts
weight_over ks ws = as_watts (sum_by (λ k. (get_or ws k (as_watts 0)).0) ks)

-- strictly rising numbers, none of them below n
abbrev pub rising_from : ℕ → List ℕ → Bool
rising_from n [] = true
rising_from n (k ∷ ks) = nat_le n k && rising_from (k + 1) ks

-- strictly rising ground gauges, of which there are so many
abbrev pub rising_ground : ℕ → List ℕ → Bool
rising_ground grounds ks = rising_from 0 ks && all_of (λ k. ltb k grounds) ks

-- gauges added above the others, with their rooms, each over some of the gauges: a path weighs on it the sum of its weights on those
abbrev pub extended : Meaning → List (List ℕ) → List Watts → Meaning
extended m over rs = record {
  grounds = m.grounds;
  rooms = m.rooms ++ rs;
  weights = map (λ ws. ws ++ map (λ ks. weight_over ks ws) over) m.weights;
}
