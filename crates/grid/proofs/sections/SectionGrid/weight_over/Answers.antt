use Rattle.std.proofs.Common.{ltb, filter, ap, ◌∙◌, arith}
use Rattle.std.proofs.lemmas.List.{take_all}
use Rattle.rules.specs.Grids.{as_watts, weights_of, weight_over}
use Rattle.grid.specs.Stacks.{over_more}
use Rattle.grid.proofs.sections.SectionGrid.weight_over.Goals as goal

pub overflow_add-sum : goal.overflow_add-sum
overflow_add-sum g c = omega (arith, c.loop-gauge.invariant.1, c.ground_weight-sum.ensures.bound, c.requires)

pub loop-gauge-preserved : goal.loop-gauge-preserved
loop-gauge-preserved g c =
    let m = g.G.Grid.meaning c.args.self.now.below in (
      omega (
        arith,
        c.loop-gauge.invariant.0,
        c.ground_weight-sum.ensures.value,
        over_more (λ k. ltb k m.grounds) (weights_of m c.args.path) c.args.gauges.now c.loop-gauge.gauge-index c.loop-gauge-test.true,
      ),
      omega (arith, c.loop-gauge.invariant.1, c.ground_weight-sum.ensures.bound),
    )

pub returns : goal.returns
returns g c =
    let m = g.G.Grid.meaning c.args.self.now.below in
    ap as_watts (c.loop-gauge.invariant.0 ∙ ap (λ ks. (weight_over (filter (λ k. ltb k m.grounds) ks) (weights_of m c.args.path)).0) (take_all c.loop-gauge.gauge-index c.args.gauges.now c.loop-gauge-test.false))
