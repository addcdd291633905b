-- The bounds within which a claim is worked out.
use Rattle.std.proofs.Common.{◌≡◌, ◌∙◌, ℕ, suc, ◌*◌, ◌≤◌, ℤ, pos, negsuc, ◌-ℤ◌, ◌*ℤ◌, ◌≤ℤ◌, mul-le-mul, arith, w32, w64, SFits, to_z, of_z}
use Rattle.std.proofs.lemmas.Int.{ints, to_z-of_z, to_z_pos}
use Rattle.rules.specs.Convert.{claim_of}

pub record Narrow (z : ℤ) : Type 0 where
  pub low : negsuc 9999999999999 ≤ℤ z
  pub high : z ≤ℤ pos 10000000000000

product_narrow : (z : ℤ) (n : ℕ) → negsuc 999 ≤ℤ z → z ≤ℤ pos 10000 → n ≤ 1000000000 → Narrow (z *ℤ pos n)
product_narrow (pos a) n l h k =
    let b : a ≤ 10000 = omega (arith, ints) in
    let p : a * n ≤ 10000 * 1000000000 = mul-le-mul b k in
    record { low = omega (arith, ints); high = omega (arith, ints) }
product_narrow (negsuc a) n l h k =
    let b : suc a ≤ 1000 = omega (arith, ints) in
    let p : suc a * n ≤ 1000 * 1000000000 = mul-le-mul b k in
    record { low = omega (arith, ints); high = omega (arith, ints) }

-- a bid b, widened to z, of which y W land for each MW, in signed words
module _ (b z : ℤ) (y charge : ℕ) (widened : z ≡ to_z w32 (of_z w32 b)) (low : negsuc 999 ≤ℤ b) (high : b ≤ℤ pos 10000) (lands : y ≤ 1000000) (charges : charge ≤ 10000000000000) where
  same : z ≡ b
  same = let f : SFits w32 b = omega (arith, ints, low, high) in widened ∙ to_z-of_z w32 b f

  narrow : Narrow (b *ℤ pos (1000 * y))
  narrow = product_narrow b (1000 * y) low high (omega (arith, lands))

  product_is : to_z w64 (of_z w64 z) *ℤ to_z w64 (1000 * y) ≡ b *ℤ pos (1000 * y)
  product_is =
      let f : SFits w64 b = omega (arith, ints, low, high) in
      rw (same, to_z-of_z w64 b f, to_z_pos w64 (1000 * y) (omega (arith, lands)))

  product_fits : SFits w64 (b *ℤ pos (1000 * y))
  product_fits = let n = narrow in omega (arith, ints)

  pub multiplies : SFits w64 (to_z w64 (of_z w64 z) *ℤ to_z w64 (1000 * y))
  multiplies = rw product_is product_fits

  claim_fits : SFits w64 (claim_of b y charge)
  claim_fits = let n = narrow in omega (arith, ints, charges)

  difference_is : to_z w64 (of_z w64 (to_z w64 (of_z w64 z) *ℤ to_z w64 (1000 * y))) -ℤ to_z w64 charge ≡ claim_of b y charge
  difference_is = rw (product_is, to_z-of_z w64 _ product_fits, to_z_pos w64 charge (omega (arith, charges)))

  pub subtracts : SFits w64 (to_z w64 (of_z w64 (to_z w64 (of_z w64 z) *ℤ to_z w64 (1000 * y))) -ℤ to_z w64 charge)
  subtracts = rw difference_is claim_fits

  pub claims : to_z w64 (of_z w64 (to_z w64 (of_z w64 (to_z w64 (of_z w64 z) *ℤ to_z w64 (1000 * y))) -ℤ to_z w64 charge)) ≡ claim_of b y charge
  claims = rw (difference_is, to_z-of_z w64 _ claim_fits)
