use Rattle.std.proofs.Common.{map, vec_items, sym, ap, ◌∙◌, arith}
use Rattle.std.proofs.lemmas.List.{length-map, map_push}
use Rattle.rules.specs.Lists.{all_of}
use Rattle.sheet.specs.Views.{nodes_of, legs_of, path_legs, is_sound}
use Rattle.sheet.proofs.Keeping.{drawn, path_keeps_paths}
use Rattle.sheet.proofs.sheet.Sheet.add_path.Goals as goal

pub invariant_of-self : goal.invariant_of-self
invariant_of-self c =
    let s = c.args.self.now in
    let ns = vec_items s.nodes in
    let ls = vec_items s.legs in
    let ps = vec_items s.paths in
    record {
      few_nodes = omega (arith, c.append.ensures.len);
      few_legs = omega (arith, c.append.ensures.len);
      few_paths = omega (arith, c.append.ensures.len);
      node_room = omega (arith, c.append.ensures.room);
      leg_room = omega (arith, c.append.ensures.room);
      path_room = omega (arith, c.append.ensures.room);
      joined = s.joined;
      sound = ap (all_of (is_sound (nodes_of ns) (legs_of ls))) c.append.ensures.items
          ∙ path_keeps_paths ns ls ps _ s.nodes.ok.0 s.joined s.sound c.args.path c.requires.sound.a_path c.requires.sound.route;
    }

pub returns : goal.returns
returns c =
    let s = c.args.self.now in
    let ns = vec_items s.nodes in
    let ls = vec_items s.legs in
    let ps = vec_items s.paths in
    record {
      number = c.append.ensures.number ∙ s.paths.ok.0 ∙ sym (length-map ps path_legs);
      shows = ap (λ xs. drawn (nodes_of ns) (legs_of ls) xs) (ap (map path_legs) c.append.ensures.items ∙ map_push path_legs ps c.args.path);
    }
