use Rattle.std.proofs.Common.{◌≡◌, ◌++◌, drop, string_bytes}
use Rattle.sheet.specs.Sheets.{drawing}
use Rattle.conversion.specs.Listing.{path_lines, listed}
use Rattle.conversion.specs.Offers.{whole_yuan}
use Rattle.conversion.proofs.listing.listing.Given as goal

-- what is written, and what is still to be written, is the whole
abbrev pub invariant-loop-number : goal.invariant-loop-number
invariant-loop-number l =
    string_bytes l.out ++ path_lines l.number (drawing l.sheet).legs (drop l.number (drawing l.sheet).paths) (whole_yuan l.bids) ≡ listed (drawing l.sheet) (whole_yuan l.bids)
