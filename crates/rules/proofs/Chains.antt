-- What a chain of legs does to a MW.
use Rattle.std.proofs.Common.{◌≡◌, ℕ, zero, suc, ◌+◌, ◌*◌, ◌<◌, ◌≤◌, true, List, [], ◌∷◌, length, get_or, refl, ap, mul-le-mul, add-one, arith, lit≤}
use Rattle.std.proofs.lemmas.Bool.{and_parts}
use Rattle.std.proofs.lemmas.Bool.Decides.{nat_tests}
use Rattle.rules.specs.Lists.{all_of}
use Rattle.rules.specs.Convert.{Stretch, passed, entering, leaving, landed, charged, yield_of, one_mw}
use Rattle.rules.specs.ConvertLaws.{legal, Chain, Converts, Worked, ConversionStands, tariffs_on}
use Rattle.rules.proofs.Losses.{loss_law, passed_le, passed_mono}

legal_rate : (s : Stretch) → legal s ≡ true → s.rate ≤ 200000
legal_rate s h = grind (arith, nat_tests)

legal_tariff : (s : Stretch) → legal s ≡ true → s.tariff ≤ 1000000
legal_tariff s h = grind (arith, nat_tests)

pub landed_high : (y : ℕ) (ss : List Stretch) → landed y ss ≤ y
landed_high y [] = omega arith
landed_high y (s ∷ ss) = omega (arith, landed_high (passed s.rate y) ss, passed_le s.rate y)

-- n legs that lose as much as a leg may
abbrev worn : ℕ → ℕ → ℕ
worn zero y = y
worn (suc n) y = worn n (passed 200000 y)

landed_low : (ss : List Stretch) (y z : ℕ) → all_of legal ss ≡ true → y ≤ z → worn (length ss) y ≤ landed z ss
landed_low [] y z h k = k
landed_low (s ∷ ss) y z h k =
    landed_low ss (passed 200000 y) (passed s.rate z) (and_parts (legal s) _ h).1 (passed_mono s.rate y z (legal_rate s (and_parts (legal s) _ h).0) k)

worn_low : (n : ℕ) → n ≤ 8 → 167772 ≤ worn n one_mw
worn_low zero h = lit≤ tt
worn_low (suc zero) h = lit≤ tt
worn_low (suc (suc zero)) h = lit≤ tt
worn_low (suc (suc (suc zero))) h = lit≤ tt
worn_low (suc (suc (suc (suc zero)))) h = lit≤ tt
worn_low (suc (suc (suc (suc (suc zero))))) h = lit≤ tt
worn_low (suc (suc (suc (suc (suc (suc zero)))))) h = lit≤ tt
worn_low (suc (suc (suc (suc (suc (suc (suc zero))))))) h = lit≤ tt
worn_low (suc (suc (suc (suc (suc (suc (suc (suc zero)))))))) h = lit≤ tt
worn_low (suc (suc (suc (suc (suc (suc (suc (suc (suc n))))))))) h = absurd (omega arith)

pub charged_high : (ss : List Stretch) (y : ℕ) → all_of legal ss ≡ true → y ≤ 1000000 → charged y ss ≤ length ss * 1000000000000
charged_high [] y h k = omega arith
charged_high (s ∷ ss) y h k =
    let p : passed s.rate y ≤ 1000000 = omega (arith, passed_le s.rate y) in
    let t : s.tariff * passed s.rate y ≤ 1000000 * 1000000 = mul-le-mul (legal_tariff s (and_parts (legal s) _ h).0) p in
    omega (arith, t, charged_high ss (passed s.rate y) (and_parts (legal s) _ h).1 p)

pub as_many_enter : (ss : List Stretch) (y : ℕ) → length (entering y ss) ≡ length ss
as_many_enter [] y = refl
as_many_enter (s ∷ ss) y = ap suc (as_many_enter ss (passed s.rate y))

as_many_leave : (ss : List Stretch) (y : ℕ) → length (leaving y ss) ≡ length ss
as_many_leave [] y = refl
as_many_leave (s ∷ ss) y = ap suc (as_many_leave ss (passed s.rate y))

enters_next : (ss : List Stretch) (y k : ℕ) → suc k < length ss → get_or (entering y ss) (suc k) 0 ≡ get_or (leaving y ss) k 0
enters_next [] y k h = absurd (omega arith)
enters_next (s ∷ []) y k h = absurd (omega arith)
enters_next (s ∷ (t ∷ ss)) y zero h = refl
enters_next (s ∷ (t ∷ ss)) y (suc k) h = enters_next (t ∷ ss) (passed s.rate y) k (omega arith)

leaves : (ss : List Stretch) (y k : ℕ) (d : Stretch) → k < length ss → get_or (leaving y ss) k 0 ≡ passed (get_or ss k d).rate (get_or (entering y ss) k 0)
leaves [] y k d h = absurd (omega arith)
leaves (s ∷ ss) y zero d h = refl
leaves (s ∷ ss) y (suc k) d h = leaves ss (passed s.rate y) k d (omega arith)

last_leaves : (ss : List Stretch) (y k : ℕ) → k + 1 ≡ length ss → landed y ss ≡ get_or (leaving y ss) k 0
last_leaves [] y k h = absurd (omega arith)
last_leaves (s ∷ []) y zero h = refl
last_leaves (s ∷ (t ∷ ss)) y zero h = absurd (omega arith)
last_leaves (s ∷ ss) y (suc k) h = last_leaves ss (passed s.rate y) k (omega arith)

charge_law : (ss : List Stretch) (y : ℕ) → charged y ss ≡ tariffs_on ss (leaving y ss)
charge_law [] y = refl
charge_law (s ∷ ss) y = ap (λ n. s.tariff * passed s.rate y + n) (charge_law ss (passed s.rate y))

first_enters : (ss : List Stretch) → 1 ≤ length ss → get_or (entering one_mw ss) 0 0 ≡ one_mw
first_enters [] h = absurd (omega arith)
first_enters (s ∷ ss) h = refl

pub yield_low : (ss : List Stretch) → length ss ≤ 8 → all_of legal ss ≡ true → 167772 ≤ yield_of ss
yield_low ss few each = omega (arith, worn_low (length ss) few, landed_low ss one_mw one_mw each (omega arith))

pub converts : (ss : List Stretch) → Chain ss → Converts ss
converts ss c = record {
  as_many_enter = as_many_enter ss one_mw;
  as_many_leave = as_many_leave ss one_mw;
  first_enters = first_enters ss c.some;
  enters_next = λ k h. let l : suc k < length ss = omega arith in rw add-one (enters_next ss one_mw k l);
  leaves = leaves ss one_mw;
  last_leaves = last_leaves ss one_mw;
  charge = charge_law ss one_mw;
  yield_low = yield_low ss c.few c.each;
  yield_high = landed_high one_mw ss;
  charge_high = omega (arith, charged_high ss one_mw c.each (omega arith), c.few);
}

pub worked : Worked
worked = record { one = refl; two = refl; eight = refl; bid_500 = refl; bid_minus_100 = refl }

pub conversion_stands_lem : ConversionStands
conversion_stands_lem = record { loss = loss_law; converts = converts; worked = worked }
