use Rattle.sheet.proofs.OnePath.{paths_stand_lem}
use Rattle.sheet.proofs.laws.paths_stand.Goals as goal

pub returns : goal.returns
returns c = paths_stand_lem
