-- What an offer may be.
use Rattle.std.specs.Prelude.{Bool, ◌&&◌, ℤ, pos, negsuc, int_le}

-- from -1,000 to 10,000 yuan
abbrev pub is_offer : ℤ → Bool
is_offer z = int_le (negsuc 999) z && int_le z (pos 10000)
