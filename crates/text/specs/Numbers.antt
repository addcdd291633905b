-- The numbers of the questions on a text and its lines.
use Rattle.std.specs.Prelude.{ℕ}
use Rattle.text.specs.declared.question.TextQuestion.{TextQuestion}
use Rattle.text.specs.declared.question.TextQuestion.TheVariants.{Length, KnownWord, FigureCount, Figures}

abbrev pub number : TextQuestion → ℕ
number Length = 1
number KnownWord = 2
number FigureCount = 3
number Figures = 4
