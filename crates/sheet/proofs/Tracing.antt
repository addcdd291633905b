-- What legs do to power, within the limits of their types.
use Rattle.std.proofs.Common.{◌≡◌, ℕ, zero, suc, ◌<◌, true, ltb, List, [], ◌∷◌, length, refl, arith}
use Rattle.std.proofs.lemmas.Bool.{and_parts, and_from, le-leb, ltb-true}
use Rattle.rules.specs.Lists.{all_of}
use Rattle.rules.specs.ConvertLaws.{legal}
use Rattle.rules.specs.Network.{stretch_at, stretches, all_entered}
use Rattle.sheet.specs.Views.{legs_of}
use Rattle.sheet.specs.declared.leg.Leg.{Leg}

-- a leg's rate and tariff are within their limits
legal_leg : (l : Leg) → legal (record { rate = l.rate.millionths; tariff = l.tariff.thousandths }) ≡ true
legal_leg l = and_from _ _ (le-leb _ _ l.rate.within) (le-leb _ _ l.tariff.within)

legal_one : (ls : List Leg) (k : ℕ) → k < length ls → legal (stretch_at (legs_of ls) k) ≡ true
legal_one [] k h = absurd (omega arith)
legal_one (l ∷ ls) zero h = legal_leg l
legal_one (l ∷ ls) (suc k) h = legal_one ls k (omega arith)

pub legal_all : (ls : List Leg) (ks : List ℕ) → all_entered (length ls) ks ≡ true → all_of legal (stretches (legs_of ls) ks) ≡ true
legal_all ls [] h = refl
legal_all ls (k ∷ ks) h =
    and_from (legal (stretch_at (legs_of ls) k)) _ (legal_one ls k (ltb-true _ _ (and_parts (ltb k (length ls)) _ h).0)) (legal_all ls ks (and_parts (ltb k (length ls)) _ h).1)
