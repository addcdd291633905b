use Rattle.grid.proofs.Weights.{row_light}
use Rattle.grid.proofs.weigh.row_of.Goals as goal

pub invariant_of-result : goal.invariant_of-result
invariant_of-result c = record { light = row_light c.args.passages.now c.in_ok-on.on.items c.args.legs c.in_ok-on.ensures c.requires }
