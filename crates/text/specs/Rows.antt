-- The figures of a line, after its first word.
use Rattle.std.specs.Prelude.{◌≡◌, ℕ, ◌-◌, ◌<◌, List, map, length, take, Ok, Err, Result}
use Rattle.rules.specs.Questions.{Answer, each_from}
use Rattle.text.specs.declared.row.RowError.{RowError}
use Rattle.text.specs.declared.row.RowError.TheVariants.{NoFigure, Memory}
use Rattle.text.specs.Figures.{is_figure, value}

-- each word is a figure, or the answer says the place of the first that is not, the line's first word having place 1; the figures
-- before that place are read
pub record Reads (ws : List (List ℕ)) (answer : Answer) (into : List ℕ) : Type 0 where
  pub each : answer ≡ each_from 2 is_figure ws
  pub values : answer ≡ Ok tt → into ≡ map value ws
  pub before : (p : ℕ) → answer ≡ Err p → into ≡ map value (take (p - 2) ws)

-- there was no room for all figures; those that found room are there
pub record Wants (room : ℕ) (ws : List (List ℕ)) (into : List ℕ) : Type 0 where
  pub full : room < length ws
  pub front : (k : ℕ) × (into ≡ map value (take k ws))

-- the words are read as figures, or one is none, or there was no room for all
abbrev pub ReadsRow : ℕ → List (List ℕ) → Result (Unit {0}) RowError → List ℕ → Type 0
ReadsRow room ws (Ok done) into = Reads ws (Ok tt) into
ReadsRow room ws (Err (NoFigure place)) into = Reads ws (Err place) into
ReadsRow room ws (Err Memory) into = Wants room ws into
