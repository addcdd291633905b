use Rattle.std.proofs.Common.{map, vec_items, vec_len, sym, ap, ◌∙◌, arith}
use Rattle.std.proofs.lemmas.List.{length-map, map_push}
use Rattle.rules.specs.Lists.{all_of}
use Rattle.rules.specs.Network.{joins_all}
use Rattle.sheet.specs.Views.{leg_of, nodes_of, legs_of, path_legs, is_sound}
use Rattle.sheet.proofs.Keeping.{drawn, leg_keeps_legs, leg_keeps_paths}
use Rattle.sheet.proofs.sheet.Sheet.add_leg.Goals as goal

pub invariant_of-self : goal.invariant_of-self
invariant_of-self c =
    let s = c.args.self.now in
    let ns = vec_items s.nodes in
    let ls = vec_items s.legs in
    let ps = vec_items s.paths in
    record {
      few_nodes = omega (arith, c.append.ensures.len);
      few_legs = omega (arith, c.append.ensures.len);
      few_paths = omega (arith, c.append.ensures.len);
      node_room = omega (arith, c.append.ensures.room);
      leg_room = omega (arith, c.append.ensures.room);
      path_room = omega (arith, c.append.ensures.room);
      joined = ap (λ xs. joins_all (vec_len s.nodes) (legs_of xs)) c.append.ensures.items ∙ leg_keeps_legs ns ls ps _ s.nodes.ok.0 s.joined s.sound c.args.leg c.requires.joined;
      sound = ap (λ xs. all_of (is_sound (nodes_of ns) (legs_of xs)) ps) c.append.ensures.items ∙ leg_keeps_paths ns ls ps _ s.nodes.ok.0 s.joined s.sound c.args.leg;
    }

pub returns : goal.returns
returns c =
    let s = c.args.self.now in
    let ns = vec_items s.nodes in
    let ls = vec_items s.legs in
    let ps = vec_items s.paths in
    record {
      number = c.append.ensures.number ∙ s.legs.ok.0 ∙ sym (length-map ls leg_of);
      shows = ap (λ xs. drawn (nodes_of ns) xs (map path_legs ps)) (ap legs_of c.append.ensures.items ∙ map_push leg_of ls c.args.leg);
    }
