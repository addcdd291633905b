-- What the conversion owes its reader, and worked figures.
use Rattle.std.specs.Prelude.{◌≡◌, ℕ, ◌+◌, ◌*◌, ◌<◌, ◌≤◌, Bool, true, ◌&&◌, List, [], ◌∷◌, length, pos, negsuc, nat_le, slice_index, slice_index_or}
use Rattle.rules.specs.Convert.{Stretch, lost, passed, entering, leaving, yield_of, charge_of, claim_of, one_mw}
use Rattle.rules.specs.Lists.{all_of}

-- the loss is the least whole number of W that is no less than rate × y / 1,000,000, and what leaves is the rest
pub record Loss (rate y : ℕ) : Type 0 where
  pub enough : y * rate ≤ 1000000 * lost rate y
  pub least : (n : ℕ) → y * rate ≤ 1000000 * n → lost rate y ≤ n
  pub rest : rate ≤ 1000000 → passed rate y + lost rate y ≡ y

-- the sum of each leg's tariff times what leaves it
abbrev pub tariffs_on : List Stretch → List ℕ → ℕ
tariffs_on [] ys = 0
tariffs_on (s ∷ ss) [] = 0
tariffs_on (s ∷ ss) (y ∷ ys) = s.tariff * y + tariffs_on ss ys

-- the legs of a path: 1 to 8, with rates and tariffs within their limits
abbrev pub legal : Stretch → Bool
legal s = nat_le s.rate 200000 && nat_le s.tariff 1000000

pub record Chain (ss : List Stretch) : Type 0 where
  pub some : 1 ≤ length ss
  pub few : length ss ≤ 8
  pub each : all_of legal ss ≡ true

pub record Converts (ss : List Stretch) : Type 0 where
  pub as_many_enter : length (entering one_mw ss) ≡ length ss
  pub as_many_leave : length (leaving one_mw ss) ≡ length ss
  pub first_enters : slice_index_or (entering one_mw ss) 0 0 ≡ one_mw
  pub enters_next : (k : ℕ) → k + 1 < length ss → slice_index (entering one_mw ss) (k + 1) ≡ slice_index (leaving one_mw ss) k
  pub leaves : (k : ℕ) (d : Stretch) → k < length ss → slice_index (leaving one_mw ss) k ≡ passed (slice_index_or ss k d).rate (slice_index (entering one_mw ss) k)
  pub last_leaves : (k : ℕ) → k + 1 ≡ length ss → yield_of ss ≡ slice_index (leaving one_mw ss) k
  pub charge : charge_of ss ≡ tariffs_on ss (leaving one_mw ss)
  pub yield_low : 167772 ≤ yield_of ss
  pub yield_high : yield_of ss ≤ 1000000
  pub charge_high : charge_of ss ≤ 8000000000000

-- a leg of this rate and tariff
abbrev leg : ℕ → ℕ → Stretch
leg r t = record { rate = r; tariff = t }

pub record Worked : Type 0 where
  pub one : yield_of (leg 50000 0 ∷ []) ≡ 950000
  pub two : yield_of (leg 50000 0 ∷ (leg 20000 0 ∷ [])) ≡ 931000
  pub eight : yield_of (leg 200000 0 ∷ (leg 200000 0 ∷ (leg 200000 0 ∷ (leg 200000 0 ∷ (leg 200000 0 ∷ (leg 200000 0 ∷ (leg 200000 0 ∷ (leg 200000 0 ∷ [])))))))) ≡ 167772
  pub bid_500 : claim_of (pos 500) (yield_of (leg 50000 30000 ∷ [])) (charge_of (leg 50000 30000 ∷ [])) ≡ pos 446500000000
  pub bid_minus_100 : claim_of (negsuc 99) (yield_of (leg 50000 30000 ∷ [])) (charge_of (leg 50000 30000 ∷ [])) ≡ negsuc 123499999999

pub record ConversionStands : Type 0 where
  pub loss : (rate y : ℕ) → Loss rate y
  pub converts : (ss : List Stretch) → Chain ss → Converts ss
  pub worked : Worked
