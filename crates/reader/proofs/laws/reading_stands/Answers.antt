use Rattle.reader.proofs.Written.{reading_stands_lem}
use Rattle.reader.proofs.laws.reading_stands.Goals as goal

pub returns : goal.returns
returns c = reading_stands_lem
