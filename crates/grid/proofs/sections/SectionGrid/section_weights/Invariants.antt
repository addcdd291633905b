use Rattle.std.proofs.Common.{◌≡◌, length, take}
use Rattle.grid.specs.Sections.{section_weights}
use Rattle.grid.proofs.sections.SectionGrid.section_weights.Given as goal

abbrev pub invariant-loop-section : goal.invariant-loop-section
invariant-loop-section g l =
    (length l.weights.items ≡ l.section-index)
    × (l.weights.items ≡ section_weights (g.G.Grid.meaning l.self.below) (take l.section-index l.section-items) l.path)
