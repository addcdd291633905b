-- The numbers of the sheet's questions.
use Rattle.std.specs.Prelude.{ℕ}
use Rattle.sheet.specs.declared.question.SheetQuestion.{SheetQuestion}
use Rattle.sheet.specs.declared.question.SheetQuestion.TheVariants.{NodeCount, NodeFigures, LegCount, LegNodes, LegFigures, PathCount, PathLegs, PathChain, PathNodes, PathEnds}

abbrev pub number : SheetQuestion → ℕ
number NodeCount = 5
number NodeFigures = 6
number LegCount = 7
number LegNodes = 8
number LegFigures = 9
number PathCount = 10
number PathLegs = 11
number PathChain = 12
number PathNodes = 13
number PathEnds = 14
