use Rattle.std.proofs.Common.{◌≡◌, arith}
use Rattle.grid.specs.Sections.{here}
use Rattle.grid.specs.Stacks.{stack_of, in_all_of}
use Rattle.grid.proofs.sections.SectionGrid.layers.Goals as goal

pub returns : goal.returns
returns g c =
    let s = c.args.self.now in
    let means = g.G.Grid.meaning in
    let law = g.met.G.Grid.lawful s.below in
    let above : c.min.result ≡ here means s = omega (arith, c.min.ensures, c.len.ensures, c.gauges-below.ensures) in
    record {
      below = c.gauges-below.ensures;
      above = above;
      in_all = omega (arith, c.gauges-below.ensures, above, in_all_of means s law);
      extension = stack_of means s law;
    }
