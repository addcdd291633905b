use Rattle.std.proofs.Common.{string_bytes, ◌∙◌}
use Rattle.sheet.specs.Views.{route_of}
use Rattle.conversion.proofs.Writing.{claims_on, claims_done, all_written}
use Rattle.conversion.proofs.listing.add_path.Goals as goal

pub loop-bid-preserved : goal.loop-bid-preserved
loop-bid-preserved c =
    claims_on c.args.number (route_of c.args.path.now) c.args.bids.now c.loop-bid.bid-index c.bid-item.result (string_bytes c.loop-bid.out) (string_bytes c.add_claim.new.out)
    c.loop-bid-test.true c.bid-item.is c.in_ok-add_claim.ensures
    ∙ c.loop-bid.invariant

pub returns : goal.returns
returns c =
    all_written (string_bytes c.loop-bid.out) _ _
    (claims_done c.args.number (route_of c.args.path.now) c.args.bids.now c.loop-bid.bid-index c.loop-bid-test.false)
    c.loop-bid.invariant
