-- How lines of a case are written, and what reading owes its reader.
use Rattle.std.specs.Prelude.{◌≡◌, ℕ, ◌+◌, Bool, true, List, [], ◌∷◌, ◌++◌, map, length, Some, None, Ok, Err, decimal, Option, Result, nat_lt}
use Rattle.rules.specs.Lists.{all_of}
use Rattle.rules.specs.Network.{Drawing}
use Rattle.rules.specs.Questions.{Answer, each_from}
use Rattle.text.specs.Figures.{is_figure}
use Rattle.text.specs.Format.{join_words, join_lines}
use Rattle.text.specs.Pieces.{lines}
use Rattle.text.specs.Words.{spelled, word_of}
use Rattle.text.specs.declared.word.Word.{Word}
use Rattle.reader.specs.Case.{first_word, figure_words, figures_of, said_step, line_step, Step, ends, fails, leads, at_line, read_lines}
use Rattle.reader.specs.declared.stage.Stage.{Stage}
use Rattle.reader.specs.declared.fault.CaseFault.{CaseFault}

-- a line is a word and its figures
pub record CaseLine : Type 0 where
  pub word : Word
  pub figures : List ℕ

-- each figure has at most 9 digits
abbrev pub short_figures : CaseLine → Bool
short_figures c = all_of (λ n. nat_lt n 1000000000) c.figures

abbrev pub written_line : CaseLine → List ℕ
written_line c = join_words (spelled c.word ∷ map decimal c.figures)

abbrev pub written : List CaseLine → List ℕ
written cs = join_lines (map written_line cs)

-- the line that bytes say: a known word, and figures after it
abbrev pub said_by : Option Word → Answer → List ℕ → Option CaseLine
said_by None a figs = None
said_by (Some w) (Err p) figs = None
said_by (Some w) (Ok done) figs = Some (record { word = w; figures = figs })

abbrev pub line_said : List ℕ → Option CaseLine
line_said l = said_by (word_of (first_word l)) (each_from 2 is_figure (figure_words l)) (figures_of l)

-- what a line does, by its word and figures, and what lines do in turn
abbrev pub takes : Stage → Drawing → CaseLine → Step
takes st d c = said_step st d (Some c.word) (length c.figures) (Ok tt) c.figures

abbrev pub take_lines : ℕ → Stage → Drawing → List CaseLine → Result Drawing CaseFault
take_lines n st d [] = Ok d
take_lines n st d (c ∷ cs) = elim (takes st d c) [ ends ↦ Ok d | fails f ↦ Err (at_line n f) | leads st' d' ↦ take_lines (n + 1) st' d' cs ]

-- lines that are all carried out lead from one stage and drawing to another
abbrev pub Lead : Stage → Drawing → List (List ℕ) → Stage → Drawing → Type 0
Lead st d [] st' d' = (st ≡ st') × (d ≡ d')
Lead st d (l ∷ ls) st' d' = (s : Stage) × (e : Drawing) × (line_step st d l ≡ leads s e) × Lead s e ls st' d'

-- the fault is that of its line, and the lines before it are all carried out
pub record FirstFault (n : ℕ) (st : Stage) (d : Drawing) (ls : List (List ℕ)) (f : CaseFault) : Type 0 where
  pub front : List (List ℕ)
  pub line : List ℕ
  pub back : List (List ℕ)
  pub stage : Stage
  pub drawn : Drawing
  pub splits : ls ≡ front ++ (line ∷ back)
  pub number : f.line ≡ n + length front
  pub before : Lead st d front stage drawn
  pub here : line_step stage drawn line ≡ fails (record { question = f.question; place = f.place })

pub record ReadingStands : Type 0 where
  -- any list of lines whose figures have at most 9 digits, written in the format, reads back as those lines
  pub reads_back : (cs : List CaseLine) → all_of short_figures cs ≡ true → map line_said (lines (written cs)) ≡ map Some cs
  -- and acts as they do in turn
  pub acts_alike : (n : ℕ) (st : Stage) (d : Drawing) (cs : List CaseLine) → all_of short_figures cs ≡ true → read_lines n st d (lines (written cs)) ≡ take_lines n st d cs
  -- a fault is the first
  pub first_fault : (n : ℕ) (st : Stage) (d : Drawing) (ls : List (List ℕ)) (f : CaseFault) → read_lines n st d ls ≡ Err f → FirstFault n st d ls f
  -- and decides, whatever lines follow
  pub decides : (n : ℕ) (st : Stage) (d : Drawing) (ls more : List (List ℕ)) (f : CaseFault) → read_lines n st d ls ≡ Err f → read_lines n st d (ls ++ more) ≡ Err f
