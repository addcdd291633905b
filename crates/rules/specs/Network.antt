-- What is entered on a sheet, as plain figures, and what a chain of legs is.
use Rattle.std.specs.Prelude.{ℕ, Bool, true, false, not, ◌&&◌, ◌||◌, ltb, List, [], ◌∷◌, map, length, ◌==◌, nat_le, nat_lt, slice_index_or}
use Rattle.std.specs.Str.{bytes_eq}
use Rattle.rules.specs.Lists.{has, all_of}
use Rattle.rules.specs.Convert.{Stretch, entering, leaving, yield_of, charge_of, one_mw}

pub record DrawnNode : Type 0 where
  pub province : ℕ
  pub standalone : Bool
  pub tight : Bool
  pub congested : Bool

-- a directed line between two nodes: loss rate in millionths, tariff in thousandths of a yuan, limit in MW at its sending end
pub record DrawnLeg : Type 0 where
  pub from : ℕ
  pub to : ℕ
  pub rate : ℕ
  pub tariff : ℕ
  pub limit : ℕ

-- a path is the list of its legs' numbers
pub record Drawing : Type 0 where
  pub nodes : List DrawnNode
  pub legs : List DrawnLeg
  pub paths : List (List ℕ)

abbrev no_node : DrawnNode
no_node = record { province = 0; standalone = false; tight = false; congested = false }

abbrev no_leg : DrawnLeg
no_leg = record { from = 0; to = 0; rate = 0; tariff = 0; limit = 0 }

abbrev pub node_at : List DrawnNode → ℕ → DrawnNode
node_at ns k = slice_index_or ns k no_node

abbrev pub leg_at : List DrawnLeg → ℕ → DrawnLeg
leg_at ls k = slice_index_or ls k no_leg

-- what the legs of a path do to power, in order
abbrev pub stretch_at : List DrawnLeg → ℕ → Stretch
stretch_at ls k = record { rate = (leg_at ls k).rate; tariff = (leg_at ls k).tariff }

abbrev pub stretches : List DrawnLeg → List ℕ → List Stretch
stretches ls ks = map (stretch_at ls) ks

-- each leg of a path is one of n that are entered
abbrev pub all_entered : ℕ → List ℕ → Bool
all_entered n ks = all_of (λ k. ltb k n) ks

-- where a path starts and where it ends
abbrev pub start_of : List DrawnLeg → List ℕ → ℕ
start_of ls [] = 0
start_of ls (k ∷ ks) = (leg_at ls k).from

abbrev pub end_after : List DrawnLeg → ℕ → List ℕ → ℕ
end_after ls n [] = n
end_after ls n (k ∷ ks) = end_after ls (leg_at ls k).to ks

abbrev pub end_of : List DrawnLeg → List ℕ → ℕ
end_of ls ks = end_after ls 0 ks

-- each leg starts where the last ended, the first at node n
abbrev pub chained_from : List DrawnLeg → ℕ → List ℕ → Bool
chained_from ls n [] = true
chained_from ls n (k ∷ ks) = (leg_at ls k).from == n && chained_from ls (leg_at ls k).to ks

abbrev pub chained : List DrawnLeg → List ℕ → Bool
chained ls ks = chained_from ls (start_of ls ks) ks

-- the nodes that a path meets, in order
abbrev pub ends_of : List DrawnLeg → List ℕ → List ℕ
ends_of ls ks = map (λ k. (leg_at ls k).to) ks

abbrev pub nodes_met : List DrawnLeg → List ℕ → List ℕ
nodes_met ls ks = start_of ls ks ∷ ends_of ls ks

abbrev pub no_twice : List ℕ → Bool
no_twice [] = true
no_twice (n ∷ ns) = not (has n ns) && no_twice ns

-- two nodes that may trade: in different provinces, or one of them standalone
abbrev pub may_trade : DrawnNode → DrawnNode → Bool
may_trade a b = not (a.province == b.province) || (a.standalone || b.standalone)

-- a leg joins two of n entered nodes
abbrev pub joins : ℕ → DrawnLeg → Bool
joins n l = nat_lt l.from n && nat_lt l.to n

abbrev pub joins_all : ℕ → List DrawnLeg → Bool
joins_all n ls = all_of (joins n) ls

abbrev pub one_to_eight : List ℕ → Bool
one_to_eight ks = nat_le 1 (length ks) && nat_le (length ks) 8

-- a path: a chain of 1 to 8 entered legs that meets no node twice, whose ends may trade
abbrev pub path_holds : List DrawnNode → List DrawnLeg → List ℕ → Bool
path_holds ns ls ks =
    (one_to_eight ks && all_entered (length ls) ks)
    && (chained ls ks
    && (no_twice (nodes_met ls ks)
    && may_trade (node_at ns (start_of ls ks)) (node_at ns (end_of ls ks))))

-- a path's ends, what lands of a MW sent, what it is charged, and what enters and what leaves each leg
pub record Route : Type 0 where
  pub from : ℕ
  pub to : ℕ
  pub yield : ℕ
  pub charge : ℕ
  pub enters : List ℕ
  pub leaves : List ℕ

abbrev pub routed : List DrawnLeg → List ℕ → Route
routed ls ks = record {
  from = start_of ls ks;
  to = end_of ls ks;
  yield = yield_of (stretches ls ks);
  charge = charge_of (stretches ls ks);
  enters = entering one_mw (stretches ls ks);
  leaves = leaving one_mw (stretches ls ks);
}

abbrev pub same_route : Route → Route → Bool
same_route a b =
    (a.from == b.from) && (a.to == b.to && (a.yield == b.yield && (a.charge == b.charge
    && (bytes_eq a.enters b.enters && bytes_eq a.leaves b.leaves))))
