use Rattle.std.proofs.Common.{◌<◌, sym, ap, ◌∙◌, arith}
use Rattle.std.proofs.lemmas.Bool.{lt-ltb, cond-true}
use Rattle.rules.specs.declared.power.Watts.{Watts}
use Rattle.grid.proofs.sections.SectionGrid.ground_weight.Goals as goal

pub returns : goal.returns
returns g c =
    let law = g.met.G.Grid.lawful c.args.self.now.below in
    let is = ap (λ (w : Watts). w.0) c.weight.ensures in
    let low : c.args.gauge < (g.G.Grid.meaning c.args.self.now.below).grounds = omega (arith, c.if-gauge-ground_gauges.false, c.ground_gauges.ensures) in
    record {
      value = is ∙ sym (cond-true _ _ _ (lt-ltb _ _ low));
      bound = omega (arith, is, law.narrow c.args.path c.args.gauge);
    }
