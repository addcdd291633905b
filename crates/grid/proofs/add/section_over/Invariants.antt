use Rattle.std.proofs.Common.{◌≡◌, ◌+◌, length, take, drop}
use Rattle.grid.specs.SectionAsks.{gauges_from}
use Rattle.grid.proofs.add.section_over.Given as goal

abbrev pub invariant-loop-i : goal.invariant-loop-i
invariant-loop-i l =
    (length l.section.items ≡ l.i)
    × (l.section.items ≡ take l.i l.gauges)
    × (gauges_from l.grounds l.least (l.i + 1) (drop l.i l.gauges) ≡ gauges_from l.grounds 0 1 l.gauges)
