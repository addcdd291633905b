-- What a sheet shows, and what entering does to it.
use Rattle.std.specs.Prelude.{◌≡◌, ℕ, ◌<◌, true, List, [], map, length, Ok, Err, vec_items, Result, slice_index_or}
use Rattle.rules.specs.ConvertLaws.{Converts}
use Rattle.rules.specs.Network.{Drawing, DrawnLeg, node_at, leg_at, stretches, joins, path_holds, routed}
use Rattle.rules.specs.Questions.{Asked, first_no, answer_to}
use Rattle.rules.specs.declared.fault.Fault.{Fault}
use Rattle.sheet.specs.declared.question.SheetQuestion.{SheetQuestion}
use Rattle.sheet.specs.declared.leg.Leg.{Leg}
use Rattle.sheet.specs.declared.node.Node.{Node}
use Rattle.sheet.specs.declared.path.Path.{Path}
use Rattle.sheet.specs.declared.sheet.Sheet.{Sheet}
use Rattle.sheet.specs.Asks.{node_questions, leg_questions, path_questions, marked, with_node, with_leg, with_path}
use Rattle.sheet.specs.Views.{node_of, leg_of, nodes_of, legs_of, path_legs, route_of}

-- what was entered, in order
abbrev pub drawing : Sheet → Drawing
drawing s = record { nodes = nodes_of (vec_items s.nodes); legs = legs_of (vec_items s.legs); paths = map path_legs (vec_items s.paths) }

abbrev pub nothing_drawn : Drawing
nothing_drawn = record { nodes = []; legs = []; paths = [] }

-- the sheet t shows d where the item was taken, and is s where it was refused
abbrev pub Leaves : {A : Type 0} → Sheet → Sheet → Drawing → Result A (Fault SheetQuestion) → Type 0
Leaves s t d (Ok a) = drawing t ≡ d
Leaves s t d (Err f) = t ≡ s

-- an item entered on s, with these questions and the answer a where it is taken, so that the sheet then shows d
pub record Enters {A : Type 0} (s t : Sheet) (qs : List (Asked SheetQuestion)) (a : A) (d : Drawing) (r : Result A (Fault SheetQuestion)) : Type 0 where
  pub answers : r ≡ answer_to (first_no qs) a
  pub leaves : Leaves s t d r

abbrev pub EntersNode : Sheet → Sheet → ℕ → ℕ → ℕ → ℕ → Result ℕ (Fault SheetQuestion) → Type 0
EntersNode s t province standalone tight congested r =
    Enters s t (node_questions (drawing s) province standalone tight congested) (length (drawing s).nodes) (with_node (drawing s) (marked province standalone tight congested)) r

abbrev pub EntersLeg : Sheet → Sheet → DrawnLeg → Result ℕ (Fault SheetQuestion) → Type 0
EntersLeg s t l r = Enters s t (leg_questions (drawing s) l) (length (drawing s).legs) (with_leg (drawing s) l) r

abbrev pub EntersPath : Sheet → Sheet → List ℕ → Result ℕ (Fault SheetQuestion) → Type 0
EntersPath s t ks r = Enters s t (path_questions (drawing s) ks) (length (drawing s).paths) (with_path (drawing s) ks) r

-- what is read of node k and of leg k: what was entered; a leg joins two of the nodes
pub record NodeRead (d : Drawing) (k : ℕ) (n : Node) : Type 0 where
  pub entered : k < length d.nodes
  pub figures : node_of n ≡ node_at d.nodes k

pub record LegRead (d : Drawing) (k : ℕ) (l : Leg) : Type 0 where
  pub entered : k < length d.legs
  pub figures : leg_of l ≡ leg_at d.legs k
  pub joined : joins (length d.nodes) (leg_at d.legs k) ≡ true
  pub apart : (leg_at d.legs k).from ≡ (leg_at d.legs k).to → ⊥

-- what is read of all legs, in the order of their numbers
pub record LegsRead (d : Drawing) (ls : List Leg) : Type 0 where
  pub figures : legs_of ls ≡ d.legs
  pub each : (k : ℕ) (l : Leg) → k < length ls → LegRead d k (slice_index_or ls k l)

-- what is read of path k: an entered path, whose legs, ends, yield, charge and flows are those of the rules, which convert a MW sent along its legs
pub record PathRead (d : Drawing) (k : ℕ) (p : Path) : Type 0 where
  pub entered : k < length d.paths
  pub legs : path_legs p ≡ slice_index_or d.paths k []
  pub a_path : path_holds d.nodes d.legs (slice_index_or d.paths k []) ≡ true
  pub route : route_of p ≡ routed d.legs (slice_index_or d.paths k [])
  pub converts : Converts (stretches d.legs (slice_index_or d.paths k []))

-- what is read of all paths, in the order of their numbers
pub record PathsRead (d : Drawing) (ps : List Path) : Type 0 where
  pub legs : map path_legs ps ≡ d.paths
  pub each : (k : ℕ) (p : Path) → k < length ps → PathRead d k (slice_index_or ps k p)
