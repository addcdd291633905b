use Rattle.std.proofs.Common.{sym, ◌∙◌}
use Rattle.grid.proofs.StackBookings.{short, part_fits}
use Rattle.grid.proofs.sections.SectionGrid.fitting_weights.Goals as goal

pub returns-then-not-all_enough : goal.returns-then-not-all_enough
returns-then-not-all_enough g c real =
    let s = c.args.self.now in
    let means = g.G.Grid.meaning in
    let fits = part_fits means s c.args.path c.args.mw c.layers-above.result.1 c.as_slice.result.now c.as_slice-2.result.now c.layers-above.ensures.above c.as_slice.ensures.value (c.as_slice-2.ensures.value ∙ c.section_weights-weights.ensures) in
    short means s (g.met.G.Grid.lawful s.below) c.args.path real c.args.mw (sym fits ∙ sym c.all_enough.ensures ∙ c.if-not-all_enough.true)

pub returns : goal.returns
returns g c =
    let s = c.args.self.now in
    let fits = part_fits g.G.Grid.meaning s c.args.path c.args.mw c.layers-above.result.1 c.as_slice.result.now c.as_slice-2.result.now c.layers-above.ensures.above c.as_slice.ensures.value (c.as_slice-2.ensures.value ∙ c.section_weights-weights.ensures) in
    record { weights = c.section_weights-weights.ensures; fit = sym fits ∙ sym c.all_enough.ensures ∙ c.if-not-all_enough.false }
