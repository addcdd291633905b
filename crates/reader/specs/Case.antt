-- What a case text says, up to the first line that is past the sheet.
use Rattle.std.specs.Prelude.{◌≡◌, ℕ, ◌+◌, Bool, true, false, List, [], ◌∷◌, map, length, drop, is_some, Some, None, Ok, Err, Option, Result, nat_le, slice_index, slice_index_or}
use Rattle.std.specs.Option.{option_map, unwrap_or}
use Rattle.rules.specs.Network.{Drawing, DrawnLeg}
use Rattle.rules.specs.Questions.{Answer, Asked, asked, answered, each_from, first_no}
use Rattle.rules.specs.declared.fault.Fault.{Fault}
use Rattle.sheet.specs.Asks.{node_questions, leg_questions, path_questions, marked, drawn_leg, with_node, with_leg, with_path}
use Rattle.sheet.specs.Sheets.{drawing, nothing_drawn, Enters}
use Rattle.sheet.specs.declared.question.SheetQuestion.{SheetQuestion}
use Rattle.sheet.specs.declared.sheet.Sheet.{Sheet}
use Rattle.text.specs.Pieces.{lines, words}
use Rattle.text.specs.Figures.{is_figure, value}
use Rattle.text.specs.Words.{word_of}
use Rattle.text.specs.declared.question.TextQuestion.{TextQuestion}
use Rattle.text.specs.declared.question.TextQuestion.TheVariants.{Length, KnownWord, FigureCount, Figures}
use Rattle.text.specs.declared.word.Word.{Word}
use Rattle.text.specs.declared.word.Word.TheVariants.{Node, Leg, Path, Section, Limits, Sell, Buy, Go}
use Rattle.reader.specs.Order.{next_stage, figures_expected, count_fits}
use Rattle.reader.specs.declared.stage.Stage.{Stage}
use Rattle.reader.specs.declared.stage.Stage.TheVariants.{Nodes, Legs, Paths, Past}
use Rattle.reader.specs.declared.fault.Question.{Question}
use Rattle.reader.specs.declared.fault.Question.TheVariants as questions
use Rattle.reader.specs.declared.fault.CaseFault.{CaseFault}

-- the first word of a line, and the words after it, which are its figures
abbrev pub first_word : List ℕ → List ℕ
first_word l = slice_index_or (words l) 0 []

abbrev pub figure_words : List ℕ → List (List ℕ)
figure_words l = drop 1 (words l)

abbrev pub figures_of : List ℕ → List ℕ
figures_of l = map value (figure_words l)

-- the stage that a line moves on to: none where its word is unknown or out of turn
abbrev pub moves : Stage → Option Word → Option Stage
moves st None = None
moves st (Some w) = next_stage st w

abbrev pub fits : Option Word → ℕ → Bool
fits None n = true
fits (Some w) n = count_fits (figures_expected w) n

-- a known word in its turn, the right count of figures, and each of them a figure
abbrev pub figure_questions : Option Word → ℕ → Answer → List (Asked TextQuestion)
figure_questions w count each = asked FigureCount (answered (fits w count)) ∷ (asked Figures each ∷ [])

abbrev pub text_questions : Stage → Option Word → ℕ → Answer → List (Asked TextQuestion)
text_questions st w count each = asked KnownWord (answered (is_some (moves st w))) ∷ figure_questions w count each

-- the figure of this number on a line, 0 where there is none
abbrev pub nth_figure : List ℕ → ℕ → ℕ
nth_figure figs k = slice_index figs k

-- node lines have province and marks; leg lines nodes, rate, tariff and limit; path lines legs
abbrev pub line_leg : List ℕ → DrawnLeg
line_leg figs = drawn_leg (nth_figure figs 0) (nth_figure figs 1) (nth_figure figs 2) (nth_figure figs 3) (nth_figure figs 4)

abbrev pub sheet_questions : Drawing → Word → List ℕ → List (Asked SheetQuestion)
sheet_questions d Node figs = node_questions d (nth_figure figs 0) (nth_figure figs 1) (nth_figure figs 2) (nth_figure figs 3)
sheet_questions d Leg figs = leg_questions d (line_leg figs)
sheet_questions d Path figs = path_questions d figs
sheet_questions d Section figs = []
sheet_questions d Limits figs = []
sheet_questions d Sell figs = []
sheet_questions d Buy figs = []
sheet_questions d Go figs = []

abbrev pub entered : Drawing → Word → List ℕ → Drawing
entered d Node figs = with_node d (marked (nth_figure figs 0) (nth_figure figs 1) (nth_figure figs 2) (nth_figure figs 3))
entered d Leg figs = with_leg d (line_leg figs)
entered d Path figs = with_path d figs
entered d Section figs = d
entered d Limits figs = d
entered d Sell figs = d
entered d Buy figs = d
entered d Go figs = d

-- the sheet t after a line acted on the sheet s
abbrev pub Acts : Sheet → Sheet → Word → List ℕ → Result (Unit {0}) (Fault SheetQuestion) → Type 0
Acts s t w figs r = Enters s t (sheet_questions (drawing s) w figs) tt (entered (drawing s) w figs) r

abbrev pub acting_questions : Drawing → Option Word → List ℕ → List (Asked SheetQuestion)
acting_questions d None figs = []
acting_questions d (Some w) figs = sheet_questions d w figs

abbrev pub acted : Drawing → Option Word → List ℕ → Drawing
acted d None figs = d
acted d (Some w) figs = entered d w figs

abbrev pub of_text : Fault TextQuestion → Fault Question
of_text f = record { question = questions.Text f.question; place = f.place }

abbrev pub of_sheet : Fault SheetQuestion → Fault Question
of_sheet f = record { question = questions.Sheet f.question; place = f.place }

-- the questions of the text come before those of the sheet
abbrev pub text_first : Option (Fault TextQuestion) → Option (Fault SheetQuestion) → Option (Fault Question)
text_first (Some f) o = Some (of_text f)
text_first None o = option_map of_sheet o

abbrev pub line_fault : Stage → Drawing → Option Word → ℕ → Answer → List ℕ → Option (Fault Question)
line_fault st d w count each figs = text_first (first_no (text_questions st w count each)) (first_no (acting_questions d w figs))

abbrev pub is_past : Option Stage → Bool
is_past None = false
is_past (Some Nodes) = false
is_past (Some Legs) = false
is_past (Some Paths) = false
is_past (Some Past) = true

-- what a line does: it ends the sheet, it has a fault, or it leads to a stage and a drawing
pub data Step : Type 0 where
  ends : Step
  fails : Fault Question → Step
  leads : Stage → Drawing → Step

abbrev pub unless : Option (Fault Question) → Stage → Drawing → Step
unless (Some f) st d = fails f
unless None st d = leads st d

-- by its word, the count of its figures, whether each is one, and their values
abbrev pub said_step : Stage → Drawing → Option Word → ℕ → Answer → List ℕ → Step
said_step st d w count each figs =
    elim (is_past (moves st w)) [ true ↦ ends | false ↦ unless (line_fault st d w count each figs) (unwrap_or (moves st w) st) (acted d w figs) ]

abbrev pub line_step : Stage → Drawing → List ℕ → Step
line_step st d l = said_step st d (word_of (first_word l)) (length (figure_words l)) (each_from 2 is_figure (figure_words l)) (figures_of l)

abbrev pub at_line : ℕ → Fault Question → CaseFault
at_line n f = record { question = f.question; line = n; place = f.place }

-- lines act in turn, from line n on, to the first fault or the end of the sheet
abbrev pub read_lines : ℕ → Stage → Drawing → List (List ℕ) → Result Drawing CaseFault
read_lines n st d [] = Ok d
read_lines n st d (l ∷ ls) = elim (line_step st d l) [ ends ↦ Ok d | fails f ↦ Err (at_line n f) | leads st' d' ↦ read_lines (n + 1) st' d' ls ]

abbrev pub length_question : List ℕ → List (Asked TextQuestion)
length_question t = asked Length (answered (nat_le (length t) 60000)) ∷ []

-- the length is asked of the whole text first
abbrev pub within_length : Option (Fault TextQuestion) → Result Drawing CaseFault → Result Drawing CaseFault
within_length (Some f) r = Err (at_line 0 (of_text f))
within_length None r = r

abbrev pub read_from : Stage → Drawing → List ℕ → Result Drawing CaseFault
read_from st d t = within_length (first_no (length_question t)) (read_lines 1 st d (lines t))

-- what a text says
abbrev pub read_text : List ℕ → Result Drawing CaseFault
read_text t = read_from Nodes nothing_drawn t

-- a sheet, or a fault, is what the text says
abbrev pub Said : Result Drawing CaseFault → Result Sheet CaseFault → Type 0
Said said (Ok s) = said ≡ Ok (drawing s)
Said said (Err f) = said ≡ Err f
