-- What the grid of a drawing's legs means.
use Rattle.std.specs.Prelude.{ℕ, ◌*◌, cond, List, [], ◌∷◌, map, length, ◌==◌}
use Rattle.rules.specs.Convert.{entering, one_mw}
use Rattle.rules.specs.Grids.{Meaning, as_watts}
use Rattle.rules.specs.Lists.{below}
use Rattle.rules.specs.Network.{DrawnLeg, Drawing, stretches}
use Rattle.rules.specs.declared.power.Watts.{Watts}

-- a limit of so many MW as a room
abbrev pub limit_room : ℕ → Watts
limit_room limit = as_watts (limit * 1000000)

-- what enters leg j, where es enter the legs ks of a path in order; 0 on a leg that the path does not take
abbrev pub enters_leg : List ℕ → List ℕ → ℕ → ℕ
enters_leg [] es j = 0
enters_leg (k ∷ ks) [] j = 0
enters_leg (k ∷ ks) (e ∷ es) j = cond (k == j) e (enters_leg ks es j)

-- the weights of a path on the legs, for each MW sent
abbrev pub leg_weights : List DrawnLeg → List ℕ → List Watts
leg_weights ls ks = map (λ j. as_watts (enters_leg ks (entering one_mw (stretches ls ks)) j)) (below (length ls))

-- one ground gauge for each leg, with the leg's limit as its first room
abbrev pub leg_grid : Drawing → Meaning
leg_grid d = record {
  grounds = length d.legs;
  rooms = map (λ l. limit_room l.limit) d.legs;
  weights = map (leg_weights d.legs) d.paths;
}
