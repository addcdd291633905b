-- What a check of a path answers.
use Rattle.std.specs.Prelude.{◌≡◌, ℕ, true, List}
use Rattle.rules.specs.Network.{DrawnNode, DrawnLeg, path_holds, routed}
use Rattle.sheet.specs.declared.path.Path.{Path}
use Rattle.sheet.specs.Views.{path_legs, route_of}

-- the path along the legs ks, with its figures
pub record PathOf (ns : List DrawnNode) (ls : List DrawnLeg) (ks : List ℕ) (p : Path) : Type 0 where
  pub legs : path_legs p ≡ ks
  pub a_path : path_holds ns ls ks ≡ true
  pub route : route_of p ≡ routed ls ks
