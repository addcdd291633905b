-- What a MW sent along a chain of legs becomes, what it is charged, and what a bid at the far end is worth at the sending end.
-- The trading rules have, for legs with loss rates ρ and tariffs Pt,
--     coefficient = Π (1 - ρ(m)),  charge = Σ Pt(m) × Π (1 - ρ(r)) over r ≤ m,  claim = bid × coefficient - charge.
-- Here powers are whole W: each leg's loss is rounded up, and what is left goes on.
use Rattle.std.specs.Prelude.{ℕ, ◌+◌, ◌-◌, ◌*◌, ◌/◌, List, [], ◌∷◌, ℤ, pos, ◌-ℤ◌, ◌*ℤ◌}

-- what a leg does to power: its loss rate in millionths and its tariff in thousandths of a yuan for each MWh
pub record Stretch : Type 0 where
  pub rate : ℕ
  pub tariff : ℕ

-- the W lost of y W that enter a leg of this rate, rounded up
abbrev pub lost : ℕ → ℕ → ℕ
lost rate y = (y * rate + 999999) / 1000000

-- the W that leave it
abbrev pub passed : ℕ → ℕ → ℕ
passed rate y = y - lost rate y

-- what enters and what leaves each leg where y W enter the first
abbrev pub entering : ℕ → List Stretch → List ℕ
entering y [] = []
entering y (s ∷ ss) = y ∷ entering (passed s.rate y) ss

abbrev pub leaving : ℕ → List Stretch → List ℕ
leaving y [] = []
leaving y (s ∷ ss) = passed s.rate y ∷ leaving (passed s.rate y) ss

-- the W that leave the last leg
abbrev pub landed : ℕ → List Stretch → ℕ
landed y [] = y
landed y (s ∷ ss) = landed (passed s.rate y) ss

-- each leg's tariff on what leaves it
abbrev pub charged : ℕ → List Stretch → ℕ
charged y [] = 0
charged y (s ∷ ss) = s.tariff * passed s.rate y + charged (passed s.rate y) ss

-- a MW sent starts as so many W
abbrev pub one_mw : ℕ
one_mw = 1000000

abbrev pub yield_of : List Stretch → ℕ
yield_of ss = landed one_mw ss

-- in billionths of a yuan for each MWh sent
abbrev pub charge_of : List Stretch → ℕ
charge_of ss = charged one_mw ss

-- what a bid of b yuan at the far end is worth at the sending end, in billionths of a yuan for each MWh sent
abbrev pub claim_of : ℤ → ℕ → ℕ → ℤ
claim_of b yield charge = (b *ℤ pos (1000 * yield)) -ℤ pos charge
