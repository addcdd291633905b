-- Figures as a text writes them.
use Rattle.std.specs.Prelude.{ℕ, ◌+◌, ◌-◌, ◌*◌, Bool, cond, ◌&&◌, List, [], ◌∷◌, length, drop, ℤ, pos, neg_ℤ, Some, None, Option, ◌==◌, nat_le, slice_index}
use Rattle.std.specs.Option.{option_map}
use Rattle.rules.specs.Lists.{all_of}

abbrev pub is_digit : ℕ → Bool
is_digit b = nat_le 48 b && nat_le b 57

-- the decimal value, each digit after those before it
abbrev pub value_on : ℕ → List ℕ → ℕ
value_on n [] = n
value_on n (b ∷ bs) = value_on (n * 10 + (b - 48)) bs

abbrev pub value : List ℕ → ℕ
value w = value_on 0 w

-- 1 to 9 digits and nothing else
abbrev pub is_figure : List ℕ → Bool
is_figure w = (nat_le 1 (length w) && nat_le (length w) 9) && all_of is_digit w

abbrev pub figure_of : List ℕ → Option ℕ
figure_of w = cond (is_figure w) (Some (value w)) None

-- a minus may stand before the digits, before 0 too
abbrev pub signed_figure_of : List ℕ → Option ℤ
signed_figure_of w = cond (slice_index w 0 == 45) (option_map (λ n. neg_ℤ (pos n)) (figure_of (drop 1 w))) (option_map pos (figure_of w))
