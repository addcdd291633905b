-- Nodes, legs and paths as plain figures.
use Rattle.std.specs.Prelude.{ℕ, Bool, ◌&&◌, List, map}
use Rattle.rules.specs.Network.{DrawnNode, DrawnLeg, Route, path_holds, same_route, routed}
use Rattle.sheet.specs.Asks.{marked, drawn_leg}
use Rattle.sheet.specs.Places.{laid}
use Rattle.sheet.specs.declared.node.Node.{Node}
use Rattle.sheet.specs.declared.node.NodeFigures.{NodeFigures}
use Rattle.sheet.specs.declared.leg.Leg.{Leg}
use Rattle.sheet.specs.declared.leg.LegFigures.{LegFigures}
use Rattle.sheet.specs.declared.path.Path.{Path}
use Rattle.sheet.specs.declared.path.Passage.{Passage}

abbrev pub node_of : Node → DrawnNode
node_of n = record { province = n.province; standalone = n.standalone; tight = n.tight; congested = n.congested }

abbrev pub leg_of : Leg → DrawnLeg
leg_of l = record { from = l.from; to = l.to; rate = l.rate.millionths; tariff = l.tariff.thousandths; limit = l.limit.mw }

-- a node and a leg as their figures tell them
abbrev pub told_node : NodeFigures → DrawnNode
told_node f = marked f.province f.standalone f.tight f.congested

abbrev pub told_leg : LegFigures → DrawnLeg
told_leg f = drawn_leg f.from f.to f.rate f.tariff f.limit

abbrev pub nodes_of : List Node → List DrawnNode
nodes_of ns = map node_of ns

abbrev pub legs_of : List Leg → List DrawnLeg
legs_of ls = map leg_of ls

-- the legs of a path in order, each with what enters and what leaves it
abbrev pub passages_of : Path → List Passage
passages_of p = laid p.passages

abbrev pub path_legs : Path → List ℕ
path_legs p = map (λ x. x.leg) (passages_of p)

-- a path's figures
abbrev pub route_of : Path → Route
route_of p = record {
  from = p.from;
  to = p.to;
  yield = p.yields.watts;
  charge = p.charge.billionths;
  enters = map (λ x. x.enters.0) (passages_of p);
  leaves = map (λ x. x.leaves.0) (passages_of p);
}

-- a path of the sheet is a chain that meets no node twice, whose ends may trade, and its figures are those of the rules
abbrev pub is_sound : List DrawnNode → List DrawnLeg → Path → Bool
is_sound ns ls p = path_holds ns ls (path_legs p) && same_route (route_of p) (routed ls (path_legs p))
