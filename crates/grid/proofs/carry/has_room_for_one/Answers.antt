use Rattle.std.proofs.Common.{ap, ◌∙◌, refl, arith, rules, tests}
use Rattle.std.proofs.lemmas.Iterator.{YieldsList-from_range}
use Rattle.std.proofs.lemmas.Iterator.Search.{all_from_yields_List}
use Rattle.std.specs.List.{list_all}
use Rattle.std.specs.Prelude.{nat_le}
use Rattle.rules.specs.Grids.{Meaning, weight_of, room_of}
use Rattle.rules.specs.Lists.{below}
use Rattle.grid.proofs.Carrying.{room_for_one}
use Rattle.grid.proofs.carry.has_room_for_one.Goals as goal

pub returns : goal.returns
returns g c =
    let m : Meaning = g.G.Grid.meaning c.args.grid.now in
    all_from_yields_List (λ k. nat_le (weight_of m c.args.path k).0 (room_of m k).0) _ _ c.all.result c.all.ensures.ran (YieldsList-from_range 0 c.gauges.result c.gauges.result refl (omega arith)) (λ x b q k. search (rules, tests))
    ∙ (ap (λ n. list_all (λ k. nat_le (weight_of m c.args.path k).0 (room_of m k).0) (below n)) c.gauges.ensures ∙ room_for_one m c.args.path)
