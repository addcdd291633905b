use Rattle.std.proofs.Common.{◌≡◌, true, eqb, map, length, take, vec_items, vec_len}
use Rattle.rules.specs.LegGrids.{leg_weights}
use Rattle.rules.specs.Lists.{all_of}
use Rattle.sheet.specs.Sheets.{drawing}
use Rattle.grid.specs.Legs.{row_weights}
use Rattle.grid.proofs.make.leg_rows.Given as goal

abbrev pub invariant-loop-path : goal.invariant-loop-path
invariant-loop-path l =
    (row_weights (vec_items l.rows) ≡ map (leg_weights (drawing l.sheet).legs) (take l.path-index (drawing l.sheet).paths))
    × (all_of (λ x. eqb (vec_len x.on) (length (drawing l.sheet).legs)) (vec_items l.rows) ≡ true)
