use Rattle.std.proofs.Common.{ℕ, ◌-◌, ◌<◌, get_or, sym, ap, ◌∙◌, arith, length-take}
use Rattle.std.proofs.lemmas.Bool.{ltb-true}
use Rattle.std.proofs.lemmas.List.{get_or-take}
use Rattle.rules.specs.Grids.{weight_over, weights_of}
use Rattle.arrayvec.specs.ArrayVec.{ArrayVec}
use Rattle.grid.specs.Sections.{ground_in}
use Rattle.grid.specs.Stacks.{weight_of_section}
use Rattle.grid.proofs.section_gauges.SectionGridGrid.weight.Goals as goal

pub returns-in-Some : goal.returns-in-Some
returns-in-Some g c =
    let s = c.args.self.now in
    let m = g.G.Grid.meaning s.below in
    let section = c.in-Some.section.now in
    let inside : c.args.gauge - c.layers-under.result.0 < c.layers-under.result.1 = omega (arith, ltb-true _ _ (sym c.in-Some.ensures.lookup.0), length-take c.layers-under.result.1 c.as_slice.result.now) in
    let read = c.in-Some.ensures.lookup.1 ∙ get_or-take c.layers-under.result.1 c.as_slice.result.now (c.args.gauge - c.layers-under.result.0) section inside ∙ ap (λ xs. get_or xs (c.args.gauge - c.layers-under.result.0) section) c.as_slice.ensures.value in
    c.section_weight.ensures
    ∙ ap (λ (x : ArrayVec ℕ). weight_over (ground_in m.grounds x) (weights_of m c.args.path)) read
    ∙ weight_of_section g.G.Grid.meaning s (g.met.G.Grid.lawful s.below) c.args.path c.args.gauge c.layers-under.result.0 section c.layers-under.ensures.below
    (omega (arith, c.layers-under.ensures.below, c.if-gauge-under.false)) (omega (arith, c.layers-under.ensures.above, inside))
