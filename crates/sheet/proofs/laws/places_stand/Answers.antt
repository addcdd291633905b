use Rattle.sheet.proofs.Placing.{places_stand_lem}
use Rattle.sheet.proofs.laws.places_stand.Goals as goal

pub returns : goal.returns
returns c = places_stand_lem
