-- What a sheet keeps when something more is entered.
use Rattle.std.proofs.Common.{◌≡◌, ℕ, ◌+◌, ◌<◌, true, eqb, List, [], ◌∷◌, ◌++◌, map, length, get_or, vec_items, sym, refl, ap, ◌∙◌, subst, arith}
use Rattle.std.specs.Str.{bytes_eq}
use Rattle.std.proofs.lemmas.Slice.Eq.{bytes_eq-Decides}
use Rattle.std.proofs.lemmas.Bool.{and_parts, and_from, eqb-true, eq-eqb}
use Rattle.std.proofs.lemmas.List.{map_push, length-map, get_or-map}
use Rattle.rules.specs.Lists.{all_of}
use Rattle.rules.specs.Network.{DrawnNode, DrawnLeg, Drawing, Route, same_route, joins_all, joins, path_holds, routed, stretch_at, stretches, one_to_eight, all_entered, leg_at}
use Rattle.rules.specs.ConvertLaws.{Chain, Converts}
use Rattle.rules.proofs.Chains.{converts}
use Rattle.rules.proofs.Alls.{all_of_at, all_of_push, all_of_mono}
use Rattle.rules.proofs.Networks.{held, holds_with_node, holds_with_leg, routed_kept, joins_more}
use Rattle.sheet.proofs.Passing.{few_legs_lem}
use Rattle.sheet.proofs.Tracing.{legal_all}
use Rattle.sheet.specs.Sheets.{drawing, LegsRead, PathsRead}
use Rattle.sheet.specs.Views.{node_of, leg_of, nodes_of, legs_of, path_legs, route_of, is_sound}
use Rattle.sheet.specs.declared.node.Node.{Node}
use Rattle.sheet.specs.declared.leg.Leg.{Leg}
use Rattle.sheet.specs.declared.path.Path.{Path}
use Rattle.sheet.specs.declared.sheet.Sheet.{Sheet}

abbrev pub drawn : List DrawnNode → List DrawnLeg → List (List ℕ) → Drawing
drawn ns ls ps = record { nodes = ns; legs = ls; paths = ps }

-- the legs of a path, as what they do to power
chain_of : (ls : List Leg) (ks : List ℕ) → one_to_eight ks ≡ true → all_entered (length (legs_of ls)) ks ≡ true → Chain (stretches (legs_of ls) ks)
chain_of ls ks o e =
    let n = few_legs_lem ks o in
    let m = length-map ks (stretch_at (legs_of ls)) in
    record {
      some = omega (arith, m, n.0);
      few = omega (arith, m, n.1);
      each = legal_all ls ks (ap (λ k. all_entered k ks) (sym (length-map ls leg_of)) ∙ e);
    }

pub same_route_refl : (a : Route) → same_route a a ≡ true
same_route_refl a =
    and_from _ _ (eq-eqb a.from _ refl) (and_from _ _ (eq-eqb a.to _ refl) (and_from _ _ (eq-eqb a.yield _ refl) (and_from _ _ (eq-eqb a.charge _ refl)
    (and_from _ _ ((bytes_eq-Decides a.enters a.enters).1 refl) ((bytes_eq-Decides a.leaves a.leaves).1 refl)))))

abbrev route : ℕ → ℕ → ℕ → ℕ → List ℕ → List ℕ → Route
route f t y c e l = record { from = f; to = t; yield = y; charge = c; enters = e; leaves = l }

pub same_route_is : (a b : Route) → same_route a b ≡ true → a ≡ b
same_route_is a b h =
    let p = and_parts (eqb a.from b.from) _ h in
    let q = and_parts (eqb a.to b.to) _ p.1 in
    let r = and_parts (eqb a.yield b.yield) _ q.1 in
    let s = and_parts (eqb a.charge b.charge) _ r.1 in
    let t = and_parts (bytes_eq a.enters b.enters) _ s.1 in
    ap (λ x. route x a.to a.yield a.charge a.enters a.leaves) (eqb-true _ _ p.0)
    ∙ ap (λ x. route b.from x a.yield a.charge a.enters a.leaves) (eqb-true _ _ q.0)
    ∙ ap (λ x. route b.from b.to x a.charge a.enters a.leaves) (eqb-true _ _ r.0)
    ∙ ap (λ x. route b.from b.to b.yield x a.enters a.leaves) (eqb-true _ _ s.0)
    ∙ ap (λ x. route b.from b.to b.yield b.charge x a.leaves) ((bytes_eq-Decides a.enters b.enters).0 t.0)
    ∙ ap (λ x. route b.from b.to b.yield b.charge b.enters x) ((bytes_eq-Decides a.leaves b.leaves).0 t.1)

pub sound_parts : (ns : List DrawnNode) (ls : List DrawnLeg) (p : Path) → is_sound ns ls p ≡ true → (path_holds ns ls (path_legs p) ≡ true) × (route_of p ≡ routed ls (path_legs p))
sound_parts ns ls p h =
    let a = and_parts (path_holds ns ls (path_legs p)) _ h in
    (a.0, same_route_is (route_of p) (routed ls (path_legs p)) a.1)

pub sound_from : (ns : List DrawnNode) (ls : List DrawnLeg) (p : Path) → path_holds ns ls (path_legs p) ≡ true → route_of p ≡ routed ls (path_legs p) → is_sound ns ls p ≡ true
sound_from ns ls p h e = and_from _ _ h (ap (λ r. same_route (route_of p) r) (sym e) ∙ same_route_refl (route_of p))

module _ (ns : List Node) (ls : List Leg) (ps : List Path) (m : ℕ) (many : m ≡ length ns) (joined : joins_all m (legs_of ls) ≡ true) (sound : all_of (is_sound (nodes_of ns) (legs_of ls)) ps ≡ true) where
  counted : m ≡ length (nodes_of ns)
  counted = many ∙ sym (length-map ns node_of)

  pub node_keeps_legs : joins_all (m + 1) (legs_of ls) ≡ true
  node_keeps_legs = joins_more m (legs_of ls) joined

  pub node_keeps_paths : (n : Node) → all_of (is_sound (nodes_of (ns ++ (n ∷ []))) (legs_of ls)) ps ≡ true
  node_keeps_paths n =
      all_of_mono (is_sound (nodes_of ns) (legs_of ls)) (is_sound (nodes_of (ns ++ (n ∷ []))) (legs_of ls)) ps
      (λ p h.
      let s = sound_parts (nodes_of ns) (legs_of ls) p h in
      sound_from (nodes_of (ns ++ (n ∷ []))) (legs_of ls) p
      (ap (λ xs. path_holds xs (legs_of ls) (path_legs p)) (map_push node_of ns n)
      ∙ holds_with_node (nodes_of ns) (node_of n) (legs_of ls) (path_legs p) (ap (λ k. joins_all k (legs_of ls)) (sym counted) ∙ joined) s.0)
      s.1)
      sound

  pub leg_keeps_legs : (l : Leg) → joins m (leg_of l) ≡ true → joins_all m (legs_of (ls ++ (l ∷ []))) ≡ true
  leg_keeps_legs l h = ap (joins_all m) (map_push leg_of ls l) ∙ all_of_push (joins m) (legs_of ls) (leg_of l) joined h

  pub leg_keeps_paths : (l : Leg) → all_of (is_sound (nodes_of ns) (legs_of (ls ++ (l ∷ [])))) ps ≡ true
  leg_keeps_paths l =
      all_of_mono (is_sound (nodes_of ns) (legs_of ls)) (is_sound (nodes_of ns) (legs_of (ls ++ (l ∷ [])))) ps
      (λ p h.
      let s = sound_parts (nodes_of ns) (legs_of ls) p h in
      let e = map_push leg_of ls l in
      sound_from (nodes_of ns) (legs_of (ls ++ (l ∷ []))) p
      (ap (λ xs. path_holds (nodes_of ns) xs (path_legs p)) e ∙ holds_with_leg (nodes_of ns) (legs_of ls) (leg_of l) (path_legs p) s.0)
      (s.1 ∙ sym (ap (λ xs. routed xs (path_legs p)) e ∙ routed_kept (legs_of ls) (leg_of l) (path_legs p) (held (nodes_of ns) (legs_of ls) (path_legs p) s.0).entered)))
      sound

  pub path_keeps_paths : (p : Path) → path_holds (nodes_of ns) (legs_of ls) (path_legs p) ≡ true → route_of p ≡ routed (legs_of ls) (path_legs p) → all_of (is_sound (nodes_of ns) (legs_of ls)) (ps ++ (p ∷ [])) ≡ true
  path_keeps_paths p h e = all_of_push (is_sound (nodes_of ns) (legs_of ls)) ps p sound (sound_from (nodes_of ns) (legs_of ls) p h e)

-- what is read of all legs and of all paths, through a slice that lends them
legs_read : (ns : List DrawnNode) (ls slice : List Leg) (ps : List (List ℕ)) → slice ≡ ls → joins_all (length ns) (legs_of ls) ≡ true → LegsRead (drawn ns (legs_of ls) ps) slice
legs_read ns ls slice ps e j =
    rw e (record {
      figures = refl;
      each = λ k l h.
          let real : k < length (legs_of ls) = omega (arith, length-map ls leg_of) in
          let x = get_or ls k l in
          let figures : leg_of x ≡ leg_at (legs_of ls) k = sym (get_or-map leg_of ls k l _ h) in
          record {
            entered = real;
            figures = figures;
            joined = all_of_at (joins (length ns)) (legs_of ls) k _ j real;
            apart = λ same. x.apart (ap (λ (y : DrawnLeg). y.from) figures ∙ same ∙ sym (ap (λ (y : DrawnLeg). y.to) figures));
          };
    })

paths_read : (ns : List DrawnNode) (ls : List Leg) (ps slice : List Path) → slice ≡ ps → all_of (is_sound ns (legs_of ls)) ps ≡ true → PathsRead (drawn ns (legs_of ls) (map path_legs ps)) slice
paths_read ns ls ps slice e sound =
    rw e (record {
      legs = refl;
      each = λ k p h.
          let ds = legs_of ls in
          let x = get_or ps k p in
          let legs : path_legs x ≡ get_or (map path_legs ps) k [] = sym (get_or-map path_legs ps k p [] h) in
          let parts = sound_parts ns ds x (all_of_at (is_sound ns ds) ps k p sound h) in
          let path = held ns ds (path_legs x) parts.0 in
          record {
            entered = omega (arith, length-map ps path_legs);
            legs = legs;
            a_path = ap (path_holds ns ds) (sym legs) ∙ parts.0;
            route = parts.1 ∙ ap (routed ds) legs;
            converts = subst (λ ks. Converts (stretches ds ks)) legs (converts (stretches ds (path_legs x)) (chain_of ls (path_legs x) path.some path.entered));
          };
    })

pub sheet_legs : (s : Sheet) (slice : List Leg) → slice ≡ vec_items s.legs → LegsRead (drawing s) slice
sheet_legs s slice lent =
    let ns = vec_items s.nodes in
    let joined = ap (λ n. joins_all n (legs_of (vec_items s.legs))) (sym (s.nodes.ok.0 ∙ sym (length-map ns node_of))) ∙ s.joined in
    legs_read (nodes_of ns) (vec_items s.legs) slice (map path_legs (vec_items s.paths)) lent joined

pub sheet_paths : (s : Sheet) (slice : List Path) → slice ≡ vec_items s.paths → PathsRead (drawing s) slice
sheet_paths s slice lent = paths_read (nodes_of (vec_items s.nodes)) (vec_items s.legs) (vec_items s.paths) slice lent s.sound
