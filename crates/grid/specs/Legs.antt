-- What the grid of legs means, and what it is made of.
use Rattle.std.specs.Prelude.{◌≡◌, ℕ, ◌≤◌, true, ◌==◌, List, map, length, vec_items, vec_len, nat_le}
use Rattle.rules.specs.Grids.{Meaning, as_watts}
use Rattle.rules.specs.LegGrids.{enters_leg, leg_grid}
use Rattle.rules.specs.Lists.{all_of}
use Rattle.rules.specs.Network.{Drawing}
use Rattle.rules.specs.declared.power.Watts.{Watts}
use Rattle.sheet.specs.declared.path.Passage.{Passage}
use Rattle.grid.specs.declared.legs.LegGrid.{LegGrid}
use Rattle.grid.specs.declared.legs.Row.{Row}

-- each path's weights
abbrev pub row_weights : List Row → List (List Watts)
row_weights rows = map (λ r. vec_items r.on) rows

abbrev pub on_legs : LegGrid → Meaning
on_legs g = record { grounds = length (vec_items g.rooms); rooms = vec_items g.rooms; weights = row_weights (vec_items g.rows) }

-- the rooms that the grid of a drawing's legs is made of
pub record RoomsOf (d : Drawing) (rs : List Watts) : Type 0 where
  pub limits : rs ≡ (leg_grid d).rooms
  pub as_many : length rs ≡ length d.legs
  pub few : length rs ≤ 64
  pub roomy : all_of (λ w. nat_le w.0 100000000000) rs ≡ true

-- the rows that the grid of a drawing's legs is made of: each path's weights on the legs, of each leg one
pub record RowsOf (d : Drawing) (rows : List Row) : Type 0 where
  pub weights : row_weights rows ≡ (leg_grid d).weights
  pub even : all_of (λ r. vec_len r.on == length d.legs) rows ≡ true

-- what enters leg j, told of the passages of a path
abbrev pub passage_weight : List Passage → ℕ → Watts
passage_weight ps j = as_watts (enters_leg (map (λ x. x.leg) ps) (map (λ x. x.enters.0) ps) j)
