use Rattle.std.proofs.Common.{map, length, vec_items, get_or, ap, ◌∙◌, arith}
use Rattle.std.proofs.lemmas.List.{length-map, take_all}
use Rattle.rules.specs.LegGrids.{leg_weights}
use Rattle.sheet.specs.Places.{laid}
use Rattle.sheet.specs.Sheets.{drawing}
use Rattle.sheet.specs.Views.{path_legs}
use Rattle.sheet.specs.declared.path.Path.{Path}
use Rattle.grid.proofs.Making.{light, weights_are, row_more, even_more}
use Rattle.grid.proofs.make.leg_rows.Goals as goal

pub row_of-requires : goal.row_of-requires
row_of-requires c =
    let k = c.loop-path.path-index in
    light (drawing c.args.sheet.now) k (get_or c.paths-path-items.result.now k c.path-item.result) c.passages.result.now (c.paths-path-items.ensures.each k c.path-item.result c.loop-path-test.true)
    (c.passages.ensures ∙ ap (λ (x : Path). laid x.passages) c.path-item.is)

pub loop-path-preserved : goal.loop-path-preserved
loop-path-preserved c =
    let d = drawing c.args.sheet.now in
    let k = c.loop-path.path-index in
    let p = get_or c.paths-path-items.result.now k c.path-item.result in
    let read = c.paths-path-items.ensures.each k c.path-item.result c.loop-path-test.true in
    let its = c.passages.ensures ∙ ap (λ (x : Path). laid x.passages) c.path-item.is in (
      row_more d (vec_items c.loop-path.rows) _ k c.leg_count.result c.in_ok-row_of.field-0 c.passages.result.now c.in_ok-push.ensures.items c.in_ok-row_of.ensures
          read.entered c.loop-path.invariant.0 (weights_are d k p c.passages.result.now read its c.leg_count.result c.leg_count.ensures),
      even_more d (vec_items c.loop-path.rows) _ k c.leg_count.result c.in_ok-row_of.field-0 c.passages.result.now c.in_ok-push.ensures.items c.in_ok-row_of.ensures
          c.leg_count.ensures c.loop-path.invariant.1,
    )

pub returns : goal.returns
returns c =
    let d = drawing c.args.sheet.now in
    let ps = c.paths-path-items.result.now in
    record {
      weights = c.loop-path.invariant.0 ∙ ap (map (leg_weights d.legs)) (take_all c.loop-path.path-index d.paths (omega (arith, ap length c.paths-path-items.ensures.legs, length-map ps path_legs, c.loop-path-test.false)));
      even = c.loop-path.invariant.1;
    }
