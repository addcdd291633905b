-- Lists of rooms and weights: tests and sums over gauges, and rooms lowered.
use Rattle.std.proofs.Common.{◌≡◌, ℕ, zero, suc, ◌+◌, ◌-◌, ◌*◌, ◌<◌, ◌≤◌, Bool, true, false, ◌&&◌, ltb, leb, List, [], ◌∷◌, ◌++◌, length, get_or, take, drop, sym, refl, ap, ◌∙◌, inl, inr, add-one, arith, length-append}
use Rattle.std.specs.List.{range_with_len}
use Rattle.std.proofs.lemmas.List.FromFn.{length-map-range_with_len, get_or-map-range_with_len}
use Rattle.std.proofs.lemmas.List.{ext_get_or, get_or_append_left, get_or-append_right, get_or_past, get_or-take}
use Rattle.std.proofs.lemmas.Bool.{and_parts, and_from, leb-true, le-leb, ltb-true, cases_lt, cases_Bool}
use Rattle.rules.specs.Lists.{all_of, below}
use Rattle.rules.specs.Grids.{as_watts, sum_of, enough, lowered, rising_from, weight_over}
use Rattle.rules.proofs.Alls.{all_of_at}
use Rattle.rules.specs.declared.power.Mw.{Mw}
use Rattle.rules.specs.declared.power.Watts.{Watts}

-- two tests that pass together are the same
pub same_test : (x y : Bool) → (x ≡ true → y ≡ true) → (y ≡ true → x ≡ true) → x ≡ y
same_test true y there back = sym (there refl)
same_test false true there back = back refl
same_test false false there back = refl

-- a test of all numbers below n passes exactly where each of them does
at_counting : (f : ℕ → Bool) (a n k : ℕ) → all_of f (range_with_len a n) ≡ true → k < n → f (a + k) ≡ true
at_counting f a zero k h real = absurd (omega arith)
at_counting f a (suc n) zero h real = let e : a + zero ≡ a = omega arith in rw e (and_parts (f a) _ h).0
at_counting f a (suc n) (suc k) h real =
    let e : a + suc k ≡ (a + 1) + k = omega arith in
    rw e (at_counting f (a + 1) n k (and_parts (f a) _ h).1 (omega arith))

pub at_below : (f : ℕ → Bool) (n k : ℕ) → all_of f (below n) ≡ true → k < n → f k ≡ true
at_below f n k h real = let e : 0 + k ≡ k = omega arith in rw e at (at_counting f 0 n k h real)

from_counting : (f : ℕ → Bool) (a n : ℕ) → ((k : ℕ) → k < n → f (a + k) ≡ true) → all_of f (range_with_len a n) ≡ true
from_counting f a zero each = refl
from_counting f a (suc n) each =
    let e : a + zero ≡ a = omega arith in
    and_from (f a) _ (rw e at (each zero (omega arith)))
    (from_counting f (a + 1) n (λ k real. let s : a + suc k ≡ (a + 1) + k = omega arith in rw s at (each (suc k) (omega arith))))

pub from_below : (f : ℕ → Bool) (n : ℕ) → ((k : ℕ) → k < n → f k ≡ true) → all_of f (below n) ≡ true
from_below f n each = from_counting f 0 n (λ k real. let e : 0 + k ≡ k = omega arith in rw e (each k real))

pub from_each : {A : Type 0} (f : A → Bool) (xs : List A) (d : A) → ((i : ℕ) → i < length xs → f (get_or xs i d) ≡ true) → all_of f xs ≡ true
from_each f [] d each = refl
from_each f (x ∷ xs) d each = and_from (f x) _ (each zero (omega arith)) (from_each f xs d (λ i real. each (suc i) (omega arith)))

-- one weight, and the first so many, are at most all
pub one_of_sum : (ws : List Watts) (k : ℕ) → (get_or ws k (as_watts 0)).0 ≤ sum_of ws
one_of_sum [] k = omega arith
one_of_sum (w ∷ ws) zero = omega arith
one_of_sum (w ∷ ws) (suc k) = omega (arith, one_of_sum ws k)

pub first_of_sum : (ws : List Watts) (n : ℕ) → sum_of (take n ws) ≤ sum_of ws
first_of_sum ws zero = omega arith
first_of_sum [] (suc n) = omega arith
first_of_sum (w ∷ ws) (suc n) = omega (arith, first_of_sum ws n)

-- one weight, and those behind it, are at most the weights from a lower number on
one_and_rest : (ws : List Watts) (n k : ℕ) → n ≤ k → (get_or ws k (as_watts 0)).0 + sum_of (drop (suc k) ws) ≤ sum_of (drop n ws)
one_and_rest [] zero k h = omega arith
one_and_rest [] (suc n) k h = omega arith
one_and_rest (w ∷ ws) zero zero h = omega arith
one_and_rest (w ∷ ws) zero (suc k) h = omega (arith, one_and_rest ws zero k (omega arith))
one_and_rest (w ∷ ws) (suc n) zero h = absurd (omega arith)
one_and_rest (w ∷ ws) (suc n) (suc k) h = one_and_rest ws n k (omega arith)

-- strictly rising gauges weigh together no more than all
rising_sum : (ws : List Watts) (n : ℕ) (ks : List ℕ) → rising_from n ks ≡ true → (weight_over ks ws).0 ≤ sum_of (drop n ws)
rising_sum ws n [] h = omega arith
rising_sum ws n (k ∷ ks) h =
    let p = and_parts (leb n k) _ h in
    let e : k + 1 ≡ suc k = add-one k in
    let rest : (weight_over ks ws).0 ≤ sum_of (drop (suc k) ws) = rising_sum ws (suc k) ks (rw e at p.1) in
    omega (arith, rest, one_and_rest ws n k (leb-true n k p.0))

-- what gauges below n weigh hangs on the first n weights alone
pub weight_over_same : (n : ℕ) (ks : List ℕ) (vs ws : List Watts) → ((k : ℕ) → k < n → get_or vs k (as_watts 0) ≡ get_or ws k (as_watts 0))
    → all_of (λ k. ltb k n) ks ≡ true → weight_over ks vs ≡ weight_over ks ws
weight_over_same n [] vs ws same h = refl
weight_over_same n (k ∷ ks) vs ws same h =
    let p = and_parts (ltb k n) _ h in
    let one : (get_or vs k (as_watts 0)).0 ≡ (get_or ws k (as_watts 0)).0 = ap (λ (w : Watts). w.0) (same k (ltb-true k n p.0)) in
    let rest : (weight_over ks vs).0 ≡ (weight_over ks ws).0 = ap (λ (w : Watts). w.0) (weight_over_same n ks vs ws same p.1) in
    ap as_watts (omega (arith, one, rest))

-- strictly rising gauges below n weigh together no more than the first n
pub rising_light : (n : ℕ) (ks : List ℕ) (ws : List Watts) → rising_from 0 ks ≡ true → all_of (λ k. ltb k n) ks ≡ true → (weight_over ks ws).0 ≤ sum_of (take n ws)
rising_light n ks ws r h =
    let e : weight_over ks ws ≡ weight_over ks (take n ws) = weight_over_same n ks ws (take n ws) (λ k real. sym (get_or-take n ws k (as_watts 0) real)) h in
    let e' : (weight_over ks ws).0 ≡ (weight_over ks (take n ws)).0 = ap (λ (w : Watts). w.0) e in
    omega (arith, e', rising_sum (take n ws) 0 ks r)

-- every room is enough exactly where each is
module _ (q : Mw) (rs ws : List Watts) where
  abbrev fits_at : ℕ → Bool
  fits_at k = leb (q.0 * (get_or ws k (as_watts 0)).0) (get_or rs k (as_watts 0)).0

  pub enough_from : ((k : ℕ) → k < length rs → q.0 * (get_or ws k (as_watts 0)).0 ≤ (get_or rs k (as_watts 0)).0) → enough q rs ws ≡ true
  enough_from each = from_below fits_at (length rs) (λ k real. le-leb _ _ (each k real))

  pub enough_at : (k : ℕ) → enough q rs ws ≡ true → k < length rs → q.0 * (get_or ws k (as_watts 0)).0 ≤ (get_or rs k (as_watts 0)).0
  enough_at k h real = leb-true _ _ (at_below fits_at (length rs) k h real)

  pub not_enough : (k : ℕ) → k < length rs → (get_or rs k (as_watts 0)).0 < q.0 * (get_or ws k (as_watts 0)).0 → enough q rs ws ≡ false
  not_enough k real short =
      elim (cases_Bool (enough q rs ws)) [ inl h ↦ absurd (omega (arith, enough_at k h real)) | inr h ↦ h ]

-- rooms lowered, one by one
pub length-lowered : (q : Mw) (rs ws : List Watts) → length (lowered q rs ws) ≡ length rs
length-lowered q rs ws = length-map-range_with_len _ 0 (length rs)

pub room_lowered : (q : Mw) (rs ws : List Watts) (k : ℕ) → get_or (lowered q rs ws) k (as_watts 0) ≡ as_watts ((get_or rs k (as_watts 0)).0 - q.0 * (get_or ws k (as_watts 0)).0)
room_lowered q rs ws k =
    elim (cases_lt k (length rs)) [
      | inl real ↦ get_or-map-range_with_len (λ i. as_watts ((get_or rs i (as_watts 0)).0 - q.0 * (get_or ws i (as_watts 0)).0)) 0 (length rs) k k (as_watts 0) real (omega arith)
      | inr past ↦
          let e : get_or rs k (as_watts 0) ≡ as_watts 0 = get_or_past rs k (as_watts 0) past in
          let f : get_or (lowered q rs ws) k (as_watts 0) ≡ as_watts 0 = get_or_past (lowered q rs ws) k (as_watts 0) (omega (arith, length-lowered q rs ws)) in
          let z : 0 ≡ (get_or rs k (as_watts 0)).0 - q.0 * (get_or ws k (as_watts 0)).0 = omega (arith, ap (λ (w : Watts). w.0) e) in
          f ∙ ap as_watts z
    ]

-- they stay within a bound
pub lowered_within : (n : ℕ) (q : Mw) (rs ws : List Watts) → all_of (λ r. leb r.0 n) rs ≡ true → all_of (λ r. leb r.0 n) (lowered q rs ws) ≡ true
lowered_within n q rs ws h =
    from_each (λ r. leb r.0 n) (lowered q rs ws) (as_watts 0) (λ i real.
    let room : i < length rs = omega (arith, length-lowered q rs ws) in
    let low : (get_or rs i (as_watts 0)).0 ≤ n = leb-true _ _ (all_of_at (λ r. leb r.0 n) rs i (as_watts 0) h room) in
    le-leb _ _ (omega (arith, low, ap (λ (w : Watts). w.0) (room_lowered q rs ws i))))

-- the rooms of one list behind those of another
module _ (q : Mw) (rs ws ss vs : List Watts) (as_many : length ws ≡ length rs) where
  front : (k : ℕ) → k < length rs → (get_or (rs ++ ss) k (as_watts 0) ≡ get_or rs k (as_watts 0)) × (get_or (ws ++ vs) k (as_watts 0) ≡ get_or ws k (as_watts 0))
  front k real = (get_or_append_left rs ss (as_watts 0) k real, get_or_append_left ws vs (as_watts 0) k (omega arith))

  back : (k : ℕ) → length rs ≤ k
      → (get_or (rs ++ ss) k (as_watts 0) ≡ get_or ss (k - length rs) (as_watts 0)) × (get_or (ws ++ vs) k (as_watts 0) ≡ get_or vs (k - length rs) (as_watts 0))
  back k past = (get_or-append_right rs ss (length rs) k (as_watts 0) refl past, get_or-append_right ws vs (length rs) k (as_watts 0) as_many past)

  pub lowered-append : lowered q (rs ++ ss) (ws ++ vs) ≡ lowered q rs ws ++ lowered q ss vs
  lowered-append =
      ext_get_or (as_watts 0) (lowered q (rs ++ ss) (ws ++ vs)) (lowered q rs ws ++ lowered q ss vs) long (λ k real. each k)
    where
      long : length (lowered q (rs ++ ss) (ws ++ vs)) ≡ length (lowered q rs ws ++ lowered q ss vs)
      long =
          omega (arith, length-lowered q (rs ++ ss) (ws ++ vs), length-append rs ss, length-append (lowered q rs ws) (lowered q ss vs), length-lowered q rs ws, length-lowered q ss vs)

      each : (k : ℕ) → get_or (lowered q (rs ++ ss) (ws ++ vs)) k (as_watts 0) ≡ get_or (lowered q rs ws ++ lowered q ss vs) k (as_watts 0)
      each k =
          room_lowered q (rs ++ ss) (ws ++ vs) k ∙ elim (cases_lt k (length rs)) [
            | inl real ↦
                let f = front k real in
                let l : k < length (lowered q rs ws) = omega (arith, length-lowered q rs ws) in
                rw (f.0, f.1, get_or_append_left (lowered q rs ws) (lowered q ss vs) (as_watts 0) k l) (sym (room_lowered q rs ws k))
            | inr past ↦
                let b = back k past in
                let e = get_or-append_right (lowered q rs ws) (lowered q ss vs) (length rs) k (as_watts 0) (length-lowered q rs ws) past in
                rw (b.0, b.1, e) (sym (room_lowered q ss vs (k - length rs)))
          ]

  pub enough-append : enough q (rs ++ ss) (ws ++ vs) ≡ enough q rs ws && enough q ss vs
  enough-append = same_test _ _ there back'
    where
      fits : List Watts → List Watts → ℕ → Bool
      fits ts us k = leb (q.0 * (get_or us k (as_watts 0)).0) (get_or ts k (as_watts 0)).0

      there : enough q (rs ++ ss) (ws ++ vs) ≡ true → (enough q rs ws && enough q ss vs) ≡ true
      there h =
          and_from (enough q rs ws) (enough q ss vs)
          (from_below (fits rs ws) (length rs) (λ k real. let f = front k real in rw (f.0, f.1) at (at_below (fits (rs ++ ss) (ws ++ vs)) (length (rs ++ ss)) k h (omega (arith, length-append rs ss)))))
          (from_below (fits ss vs) (length ss) (λ k real.
          let b = back (length rs + k) (omega arith) in
          let e : length rs + k - length rs ≡ k = omega arith in
          rw (b.0, b.1, e) at (at_below (fits (rs ++ ss) (ws ++ vs)) (length (rs ++ ss)) (length rs + k) h (omega (arith, length-append rs ss)))))

      back' : (enough q rs ws && enough q ss vs) ≡ true → enough q (rs ++ ss) (ws ++ vs) ≡ true
      back' h =
          let p = and_parts (enough q rs ws) (enough q ss vs) h in
          from_below (fits (rs ++ ss) (ws ++ vs)) (length (rs ++ ss)) (λ k real. elim (cases_lt k (length rs)) [
            | inl low ↦ let f = front k low in rw (f.0, f.1) (at_below (fits rs ws) (length rs) k p.0 low)
            | inr past ↦ let b = back k past in rw (b.0, b.1) (at_below (fits ss vs) (length ss) (k - length rs) p.1 (omega (arith, length-append rs ss)))
          ])
