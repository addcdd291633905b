use Rattle.std.proofs.Common.{length, [], ◌∷◌, ◌++◌, ap, ◌∙◌}
use Rattle.std.proofs.lemmas.List.{length_push}
use Rattle.rules.specs.Grids.{gauges_of}
use Rattle.grid.specs.Sections.{counted, stacked}
use Rattle.grid.proofs.Adding.{one_section}
use Rattle.grid.proofs.sections.SectionGrid.push_section.Goals as goal

pub returns-clause-more : goal.returns-clause-more
returns-clause-more g c =
    let s = c.args.self.now in
    let h = c.put.new.self in
    let means = g.G.Grid.meaning in
    let m = g.G.Grid.meaning s.below in
    let more = s.sections.items ++ (c.args.section ∷ []) in
    record {
      gauge = ap (λ b. stacked (means b) h.sections.items h.rooms.items (counted (gauges_of (means b)) (length h.sections.items))) c.put.ensures.below
          ∙ ap (λ ss. stacked m ss h.rooms.items (counted (gauges_of m) (length ss))) c.put.ensures.sections
          ∙ ap (λ rs. stacked m more rs (counted (gauges_of m) (length more))) c.put.ensures.rooms
          ∙ one_section means s (g.met.G.Grid.lawful s.below) c.args.section.items c.args.limit.mw c.args.section c.args.limit c.requires;
      sections = ap length c.put.ensures.sections ∙ length_push s.sections.items c.args.section;
    }
