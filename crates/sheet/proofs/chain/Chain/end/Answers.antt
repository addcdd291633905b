use Rattle.std.proofs.Common.{ap, ◌∙◌}
use Rattle.rules.specs.Network.{DrawnLeg}
use Rattle.sheet.specs.Views.{legs_of}
use Rattle.sheet.proofs.Chaining.{end_last}
use Rattle.sheet.proofs.chain.Chain.end.Goals as goal

pub returns : goal.returns
returns c = ap (λ (x : DrawnLeg). x.to) c.leg.ensures ∙ end_last (legs_of c.args.self.now.all.now) 0 c.args.self.now.numbers.now c.args.self.now.some
