use Rattle.text.proofs.Stands.{text_stands_lem}
use Rattle.text.proofs.laws.text_stands.Goals as goal

pub returns : goal.returns
returns c = text_stands_lem
