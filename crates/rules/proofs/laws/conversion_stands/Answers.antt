use Rattle.rules.proofs.Chains.{conversion_stands_lem}
use Rattle.rules.proofs.laws.conversion_stands.Goals as goal

pub returns : goal.returns
returns c = conversion_stands_lem
