use Rattle.rules.proofs.Claims.{multiplies, subtracts, claims}
use Rattle.rules.proofs.claim.net_worth.Goals as goal

pub overflow_mul-result : goal.overflow_mul-result
overflow_mul-result c = multiplies c.args.bid.whole c.from.result c.args.yields.watts c.args.charge.billionths c.from.ensures c.args.bid.low c.args.bid.high c.args.yields.within c.args.charge.within

pub overflow_sub-result : goal.overflow_sub-result
overflow_sub-result c = subtracts c.args.bid.whole c.from.result c.args.yields.watts c.args.charge.billionths c.from.ensures c.args.bid.low c.args.bid.high c.args.yields.within c.args.charge.within

pub returns : goal.returns
returns c = claims c.args.bid.whole c.from.result c.args.yields.watts c.args.charge.billionths c.from.ensures c.args.bid.low c.args.bid.high c.args.yields.within c.args.charge.within
