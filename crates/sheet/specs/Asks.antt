-- What is asked of a node, a leg and a path that are to be entered on a drawing.
use Rattle.std.specs.Prelude.{ℕ, ◌+◌, Bool, true, false, not, ◌&&◌, ltb, List, [], ◌∷◌, ◌++◌, length, Ok, Err, ◌==◌, nat_le, nat_lt}
use Rattle.rules.specs.Lists.{has}
use Rattle.rules.specs.Network.{DrawnNode, DrawnLeg, Drawing, node_at, leg_at, start_of, end_of, may_trade, one_to_eight}
use Rattle.rules.specs.Questions.{Answer, Asked, asked, answered, each_from}
use Rattle.sheet.specs.declared.question.SheetQuestion.{SheetQuestion}
use Rattle.sheet.specs.declared.question.SheetQuestion.TheVariants.{NodeCount, NodeFigures, LegCount, LegNodes, LegFigures, PathCount, PathLegs, PathChain, PathNodes, PathEnds}

-- a mark is 0 or 1
abbrev pub is_mark : ℕ → Bool
is_mark m = nat_le m 1

abbrev pub node_figures_fit : ℕ → ℕ → ℕ → ℕ → Bool
node_figures_fit province standalone tight congested = nat_le province 99 && (is_mark standalone && (is_mark tight && is_mark congested))

abbrev pub node_questions : Drawing → ℕ → ℕ → ℕ → ℕ → List (Asked SheetQuestion)
node_questions d province standalone tight congested =
    asked NodeCount (answered (nat_lt (length d.nodes) 40))
    ∷ (asked NodeFigures (answered (node_figures_fit province standalone tight congested))
    ∷ [])

-- a mark of 1 is set
abbrev pub marked : ℕ → ℕ → ℕ → ℕ → DrawnNode
marked province standalone tight congested = record { province = province; standalone = (standalone == 1); tight = (tight == 1); congested = (congested == 1) }

abbrev pub with_node : Drawing → DrawnNode → Drawing
with_node d n = record { nodes = d.nodes ++ (n ∷ []); legs = d.legs; paths = d.paths }

abbrev pub drawn_leg : ℕ → ℕ → ℕ → ℕ → ℕ → DrawnLeg
drawn_leg from to rate tariff limit = record { from = from; to = to; rate = rate; tariff = tariff; limit = limit }

abbrev pub leg_figures_fit : ℕ → ℕ → ℕ → Bool
leg_figures_fit rate tariff limit = nat_le rate 200000 && (nat_le tariff 1000000 && nat_le limit 100000)

abbrev pub leg_questions : Drawing → DrawnLeg → List (Asked SheetQuestion)
leg_questions d l =
    asked LegCount (answered (nat_lt (length d.legs) 64))
    ∷ (asked LegNodes (answered (nat_lt l.from (length d.nodes) && (nat_lt l.to (length d.nodes) && not (l.from == l.to))))
    ∷ (asked LegFigures (answered (leg_figures_fit l.rate l.tariff l.limit))
    ∷ []))

abbrev pub with_leg : Drawing → DrawnLeg → Drawing
with_leg d l = record { nodes = d.nodes; legs = d.legs ++ (l ∷ []); paths = d.paths }

-- 1 to 8 legs, each of them entered; where the count offends there is no place
abbrev pub legs_answer : ℕ → List ℕ → Answer
legs_answer n ks = elim (one_to_eight ks) [ true ↦ each_from 1 (λ k. ltb k n) ks | false ↦ Err 0 ]

-- each leg starts where the last ended; the place is that of the first that does not. The legs stand from place i on, after one that ended at n
abbrev pub chain_from : List DrawnLeg → ℕ → ℕ → List ℕ → Answer
chain_from ls n i [] = Ok tt
chain_from ls n i (k ∷ ks) = elim ((leg_at ls k).from == n) [ true ↦ chain_from ls (leg_at ls k).to (i + 1) ks | false ↦ Err i ]

abbrev pub chain_answer : List DrawnLeg → List ℕ → Answer
chain_answer ls ks = chain_from ls (start_of ls ks) 1 ks

-- no node twice; the place is that of the first leg that ends at a node met before
abbrev pub nodes_from : List DrawnLeg → List ℕ → ℕ → List ℕ → Answer
nodes_from ls met i [] = Ok tt
nodes_from ls met i (k ∷ ks) = elim (has (leg_at ls k).to met) [ true ↦ Err i | false ↦ nodes_from ls (met ++ ((leg_at ls k).to ∷ [])) (i + 1) ks ]

abbrev pub nodes_answer : List DrawnLeg → List ℕ → Answer
nodes_answer ls ks = nodes_from ls (start_of ls ks ∷ []) 1 ks

abbrev pub ends_trade : List DrawnNode → List DrawnLeg → List ℕ → Bool
ends_trade ns ls ks = may_trade (node_at ns (start_of ls ks)) (node_at ns (end_of ls ks))

-- the chain is asked for over the whole path before nodes met twice
abbrev pub chain_questions : List DrawnNode → List DrawnLeg → List ℕ → List (Asked SheetQuestion)
chain_questions ns ls ks =
    asked PathLegs (legs_answer (length ls) ks)
    ∷ (asked PathChain (chain_answer ls ks)
    ∷ (asked PathNodes (nodes_answer ls ks)
    ∷ (asked PathEnds (answered (ends_trade ns ls ks))
    ∷ [])))

abbrev pub path_questions : Drawing → List ℕ → List (Asked SheetQuestion)
path_questions d ks = asked PathCount (answered (nat_lt (length d.paths) 128)) ∷ chain_questions d.nodes d.legs ks

abbrev pub with_path : Drawing → List ℕ → Drawing
with_path d ks = record { nodes = d.nodes; legs = d.legs; paths = d.paths ++ (ks ∷ []) }
