-- The numbers of the grid's questions.
use Rattle.std.specs.Prelude.{ℕ}
use Rattle.grid.specs.declared.question.GridQuestion.{GridQuestion}
use Rattle.grid.specs.declared.question.GridQuestion.TheVariants.{SectionCount, SectionGauges, SectionLimit, BookingPath, BookingRoom}

abbrev pub number : GridQuestion → ℕ
number SectionCount = 15
number SectionGauges = 16
number SectionLimit = 17
number BookingPath = 18
number BookingRoom = 19
