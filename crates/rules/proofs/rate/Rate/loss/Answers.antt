use Rattle.std.proofs.Common.{refl, arith}
use Rattle.rules.proofs.Losses.{lost_le}
use Rattle.rules.proofs.rate.Rate.loss.Goals as goal

pub overflow_cast-result : goal.overflow_cast-result
overflow_cast-result c = omega (arith, lost_le c.args.self.millionths c.args.entering.0 (omega arith))

pub returns : goal.returns
returns c = record { value = refl; bound = lost_le c.args.self.millionths c.args.entering.0 (omega arith) }
