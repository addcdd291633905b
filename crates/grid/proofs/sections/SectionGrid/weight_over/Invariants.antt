use Rattle.std.proofs.Common.{◌≡◌, ◌*◌, ◌≤◌, ltb, take, filter}
use Rattle.rules.specs.Grids.{weights_of, weight_over}
use Rattle.grid.proofs.sections.SectionGrid.weight_over.Given as goal

abbrev pub invariant-loop-gauge : goal.invariant-loop-gauge
invariant-loop-gauge g l =
    (l.sum ≡ (weight_over (filter (λ k. ltb k (g.G.Grid.meaning l.self.below).grounds) (take l.gauge-index l.gauges)) (weights_of (g.G.Grid.meaning l.self.below) l.path)).0)
    × (l.sum ≤ l.gauge-index * 8000000)
