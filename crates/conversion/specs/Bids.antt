-- Bids as words write them.
use Rattle.std.specs.Prelude.{ℕ, cond, List, ℤ, Some, None, Option}
use Rattle.rules.specs.Offers.{is_offer}
use Rattle.text.specs.Figures.{signed_figure_of}

-- a bid is an offer
abbrev pub if_offer : Option ℤ → Option ℤ
if_offer None = None
if_offer (Some z) = cond (is_offer z) (Some z) None

abbrev pub bid_of : List ℕ → Option ℤ
bid_of w = if_offer (signed_figure_of w)
