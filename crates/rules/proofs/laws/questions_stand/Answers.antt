use Rattle.rules.proofs.Asking.{questions_stand_lem}
use Rattle.rules.proofs.laws.questions_stand.Goals as goal

pub returns : goal.returns
returns g c = questions_stand_lem g.row.Q.Denot g.row.A.Denot
