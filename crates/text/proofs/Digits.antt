-- Digits read one by one.
use Rattle.std.proofs.Common.{◌≡◌, ℕ, ◌+◌, ◌-◌, ◌*◌, ◌^◌, ◌<◌, ◌≤◌, true, false, cond, ◌&&◌, List, length, get_or, drop, Some, None, Option, ap, ◌∙◌, pow-suc, add-one, arith}
use native.Mathlib.Nat.{pow-le-pow_right}
use Rattle.std.proofs.lemmas.List.{drop_more, at_drop_all}
use Rattle.std.proofs.lemmas.Bool.Decides.{nat_tests}
use Rattle.rules.specs.Lists.{all_of}
use Rattle.text.specs.Figures.{is_digit, value_on}

-- what digits read on from n give
abbrev pub reading : ℕ → List ℕ → Option ℕ
reading n bs = cond (all_of is_digit bs) (Some (value_on n bs)) None

digit_true : (b : ℕ) → 48 ≤ b → b ≤ 57 → is_digit b ≡ true
digit_true b l h = grind (arith, nat_tests)

module _ (n : ℕ) (xs : List ℕ) (i : ℕ) (inside : i < length xs) where
  pub reading_more : 48 ≤ get_or xs i 0 → get_or xs i 0 ≤ 57 → reading n (drop i xs) ≡ reading (n * 10 + (get_or xs i 0 - 48)) (drop (i + 1) xs)
  reading_more l h =
      ap (reading n) (drop_more xs i 0 inside)
      ∙ ap (λ t. cond (t && all_of is_digit (drop (i + 1) xs)) (Some (value_on (n * 10 + (get_or xs i 0 - 48)) (drop (i + 1) xs))) None) (digit_true (get_or xs i 0) l h)

  pub reading_none : is_digit (get_or xs i 0) ≡ false → reading n (drop i xs) ≡ None
  reading_none e =
      ap (reading n) (drop_more xs i 0 inside)
      ∙ ap (λ t. cond (t && all_of is_digit (drop (i + 1) xs)) (Some (value_on (n * 10 + (get_or xs i 0 - 48)) (drop (i + 1) xs))) None) e

pub reading_all : (n : ℕ) (xs : List ℕ) (i : ℕ) → length xs ≤ i → reading n (drop i xs) ≡ Some n
reading_all n xs i h = at_drop_all (reading n) xs i h

-- a number of i digits stays below the next power with a digit more, and below nine digits' bound
pub power_more : (n d i : ℕ) → n < 10 ^ i → d ≤ 9 → n * 10 + d < 10 ^ (i + 1)
power_more n d i h k = rw (add-one, pow-suc) (omega arith)

pub below_power : (n i k : ℕ) → n < 10 ^ i → i ≤ k → n < 10 ^ k
below_power n i k h l = let p : 10 ^ i ≤ 10 ^ k = pow-le-pow_right (omega arith) l in omega arith
