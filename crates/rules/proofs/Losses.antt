-- The loss of a leg.
use Rattle.std.proofs.Common.{ℕ, ◌*◌, ◌≤◌, mul-le-mul_left, arith}
use Rattle.rules.specs.Convert.{lost, passed}
use Rattle.rules.specs.ConvertLaws.{Loss}

pub product_le : (y r m : ℕ) → r ≤ m → y * r ≤ y * m
product_le y r m h = mul-le-mul_left y h

pub lost_le : (rate y : ℕ) → rate ≤ 1000000 → lost rate y ≤ y
lost_le rate y h = omega (arith, product_le y rate 1000000 h)

pub loss_law : (rate y : ℕ) → Loss rate y
loss_law rate y = record {
  enough = omega arith;
  least = λ n h. omega arith;
  rest = λ h. omega (arith, lost_le rate y h);
}

pub passed_le : (rate y : ℕ) → passed rate y ≤ y
passed_le rate y = omega arith

-- what leaves at a lower rate, of more, is no less
pub passed_mono : (r y z : ℕ) → r ≤ 200000 → y ≤ z → passed 200000 y ≤ passed r z
passed_mono r y z h k = omega (arith, product_le z r 200000 h)
