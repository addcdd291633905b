use Rattle.std.proofs.Common.{◌≡◌, ◌++◌, drop, string_bytes}
use Rattle.sheet.specs.Views.{route_of}
use Rattle.conversion.specs.Listing.{path_line, claim_lines}
use Rattle.conversion.specs.Offers.{whole_yuan}
use Rattle.conversion.proofs.listing.add_path.Given as goal

-- what is written, and what is still to be written, is the whole
abbrev pub invariant-loop-bid : goal.invariant-loop-bid
invariant-loop-bid l =
    string_bytes l.out ++ claim_lines l.number (route_of l.path) (whole_yuan (drop l.bid-index l.bids))
    ≡ string_bytes l.fn.out ++ (path_line l.number (route_of l.path) ++ claim_lines l.number (route_of l.path) (whole_yuan l.bids))
