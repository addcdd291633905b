use Rattle.grid.proofs.Adding.{sections_stand_lem}
use Rattle.grid.proofs.laws.sections_stand.Goals as goal

pub returns : goal.returns
returns c = sections_stand_lem
