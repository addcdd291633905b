-- The order of a case's words, and how many figures follow each.
use Rattle.std.specs.Prelude.{ℕ, Bool, true, cond, Some, None, Option, ◌==◌, nat_le}
use Rattle.text.specs.declared.word.Word.{Word}
use Rattle.text.specs.declared.word.Word.TheVariants.{Node, Leg, Path, Section, Limits, Sell, Buy, Go}
use Rattle.reader.specs.declared.stage.Stage.{Stage}
use Rattle.reader.specs.declared.stage.Stage.TheVariants.{Nodes, Legs, Paths, Past}

-- words come in the order node, leg, path; what comes after them is past the sheet
abbrev pub stage_of : Word → Stage
stage_of Node = Nodes
stage_of Leg = Legs
stage_of Path = Paths
stage_of Section = Past
stage_of Limits = Past
stage_of Sell = Past
stage_of Buy = Past
stage_of Go = Past

abbrev pub rank : Stage → ℕ
rank Nodes = 0
rank Legs = 1
rank Paths = 2
rank Past = 3

-- a word is in its turn where none that comes later in the order was met
abbrev pub next_stage : Stage → Word → Option Stage
next_stage st w = cond (nat_le (rank st) (rank (stage_of w))) (Some (stage_of w)) None

-- a node line has 4 figures, a leg line 5, a path line any count
abbrev pub figures_expected : Word → Option ℕ
figures_expected Node = Some 4
figures_expected Leg = Some 5
figures_expected Path = None
figures_expected Section = None
figures_expected Limits = None
figures_expected Sell = None
figures_expected Buy = None
figures_expected Go = None

abbrev pub count_fits : Option ℕ → ℕ → Bool
count_fits None n = true
count_fits (Some k) n = n == k
