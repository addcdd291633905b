-- What the reader does with one line.
use Rattle.std.specs.Prelude.{◌≡◌, ℕ, ◌-◌, List, map, length, take, Some, None, Ok, Err, Option, Result}
use Rattle.rules.specs.Questions.{Asked, each_from, first_no}
use Rattle.rules.specs.declared.fault.Fault.{Fault}
use Rattle.sheet.specs.Sheets.{drawing, nothing_drawn}
use Rattle.text.specs.Figures.{is_figure, value}
use Rattle.text.specs.Words.{word_of}
use Rattle.text.specs.declared.question.TextQuestion.{TextQuestion}
use Rattle.text.specs.declared.question.TextQuestion.TheVariants.{Length, KnownWord, FigureCount, Figures}
use Rattle.text.specs.declared.word.Word.{Word}
use Rattle.reader.specs.Case.{first_word, figure_words, figures_of, moves, figure_questions, line_step, read_lines, ends, fails, leads}
use Rattle.reader.specs.Order.{next_stage}
use Rattle.reader.specs.declared.stage.Stage.{Stage}
use Rattle.reader.specs.declared.stage.Stage.TheVariants.{Nodes}
use Rattle.reader.specs.declared.fault.CaseFault.{CaseFault}
use Rattle.reader.specs.declared.fault.Question.{Question}
use Rattle.reader.specs.declared.read.Flow.{Flow}
use Rattle.reader.specs.declared.read.Flow.TheVariants.{On, Stop}
use Rattle.reader.specs.declared.read.Reader.{Reader}

-- a known word in its turn, and the stage that it leads to
abbrev pub Turns : Stage → List ℕ → Option (Word × Stage) → Type 0
Turns st l None = moves st (word_of (first_word l)) ≡ None
Turns st l (Some p) = (word_of (first_word l) ≡ Some p.0) × (next_stage st p.0 ≡ Some p.1)

-- the questions on a line's figures
abbrev pub figures_asked : Word → List ℕ → List (Asked TextQuestion)
figures_asked w l = figure_questions (Some w) (length (figure_words l)) (each_from 2 is_figure (figure_words l))

-- what a refusal leaves of the figures: where their count offends those that were there, and else those before the first word that is none
abbrev pub figures_left : List ℕ → List ℕ → Fault TextQuestion → List ℕ
figures_left was l f = elim f.question [ Length ↦ was | KnownWord ↦ was | FigureCount ↦ was | Figures ↦ map value (take (f.place - 2) (figure_words l)) ]

-- the figures into which those that were there turned
abbrev pub Figured : Word → List ℕ → List ℕ → List ℕ → Result (Unit {0}) (Fault TextQuestion) → Type 0
Figured w l was into (Ok x) = (first_no (figures_asked w l) ≡ None) × (into ≡ figures_of l)
Figured w l was into (Err f) = (first_no (figures_asked w l) ≡ Some f) × (into ≡ figures_left was l f)

-- the reader b after the reader a took a line: a line past the sheet changes nothing, and a refusal neither stage nor sheet
abbrev pub Steps : Reader → Reader → List ℕ → Result Flow (Fault Question) → Type 0
Steps a b l (Ok On) = line_step a.stage (drawing a.sheet) l ≡ leads b.stage (drawing b.sheet)
Steps a b l (Ok Stop) = (line_step a.stage (drawing a.sheet) l ≡ ends) × (b ≡ a)
Steps a b l (Err f) = (line_step a.stage (drawing a.sheet) l ≡ fails f) × (b.stage ≡ a.stage) × (b.sheet ≡ a.sheet)

-- a reader that has read nothing yet
pub record Fresh (a : Reader) : Type 0 where
  pub stage : a.stage ≡ Nodes
  pub sheet : drawing a.sheet ≡ nothing_drawn

-- the reader b after the reader a took lines from the first on
abbrev pub Reads : Reader → Reader → List (List ℕ) → Result (Unit {0}) CaseFault → Type 0
Reads a b ls (Ok x) = read_lines 1 a.stage (drawing a.sheet) ls ≡ Ok (drawing b.sheet)
Reads a b ls (Err f) = read_lines 1 a.stage (drawing a.sheet) ls ≡ Err f
