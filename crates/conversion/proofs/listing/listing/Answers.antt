use Rattle.std.proofs.Common.{length, string_bytes, sym, ap, ◌∙◌, arith}
use Rattle.std.proofs.lemmas.List.{length-map}
use Rattle.sheet.specs.Sheets.{drawing}
use Rattle.sheet.specs.Views.{path_legs, route_of}
use Rattle.conversion.specs.Offers.{whole_yuan}
use Rattle.conversion.proofs.Writing.{paths_on, paths_done, all_written}
use Rattle.conversion.proofs.listing.listing.Goals as goal

pub loop-number-preserved : goal.loop-number-preserved
loop-number-preserved c =
    let d = drawing c.args.sheet.now in
    let read = rw (sym c.path-item.is) at (c.paths-path-items.ensures.each c.loop-number.number c.path-item.result c.loop-number-test.true) in
    paths_on d.legs d.paths (whole_yuan c.args.bids.now) c.loop-number.number (route_of c.path-item.result) (string_bytes c.loop-number.out) (string_bytes c.add_path.new.out)
    read.entered read.route c.in_ok-add_path.ensures
    ∙ c.loop-number.invariant

pub returns : goal.returns
returns c =
    let d = drawing c.args.sheet.now in
    let paths = c.paths-path-items in
    all_written (string_bytes c.loop-number.out) _ _
    (paths_done d.legs d.paths (whole_yuan c.args.bids.now) c.loop-number.number
    (omega (arith, ap length paths.ensures.legs, length-map paths.result.now path_legs, c.loop-number-test.false)))
    c.loop-number.invariant
