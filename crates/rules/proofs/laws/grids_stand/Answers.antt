use Rattle.rules.proofs.LegRows.{grids_stand_lem}
use Rattle.rules.proofs.laws.grids_stand.Goals as goal

pub returns : goal.returns
returns c = grids_stand_lem
