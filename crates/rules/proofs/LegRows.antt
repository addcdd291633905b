-- What a path weighs on legs.
use Rattle.std.proofs.Common.{◌≡◌, ℕ, zero, suc, ◌+◌, ◌*◌, ◌<◌, ◌≤◌, true, false, cond, not, eqb, ltb, List, [], ◌∷◌, map, length, get_or, refl, ap, ◌∙◌, inl, inr, mul-le-mul_left, arith}
use lib.ListN.{length-map}
use Rattle.std.specs.List.{range_with_len}
use Rattle.std.proofs.lemmas.List.FromFn.{length-map-range_with_len, get_or-map-range_with_len}
use Rattle.std.proofs.lemmas.List.{get_or-map, get_or_past}
use Rattle.std.proofs.lemmas.Bool.{and_parts, and_from, or_parts, or_right, eq-eqb, ne_eqb, eqb-true, ltb-true, cases_eq, cases_lt, cases_Bool, both_ways, not-true}
use Rattle.std.proofs.lemmas.Bool.Decides.{nat_tests}
use Rattle.rules.specs.Convert.{Stretch, passed, entering, one_mw}
use Rattle.rules.specs.GridLaws.{LegWeights, GridsStand}
use Rattle.rules.specs.Grids.{as_watts, weight_of, weights_of}
use Rattle.rules.specs.LegGrids.{enters_leg, leg_weights, leg_grid}
use Rattle.rules.specs.Lists.{has, sum_by, below}
use Rattle.rules.specs.Network.{Drawing, stretches, leg_at, ends_of, no_twice, path_holds}
use Rattle.rules.proofs.Alls.{all_of_at}
use Rattle.rules.proofs.Chains.{as_many_enter}
use Rattle.rules.proofs.Losses.{passed_le}
use Rattle.rules.proofs.Meanings.{beyond, booking, extension}
use Rattle.rules.proofs.Networks.{held}

pub sum_mapped : {A B : Type 0} (g : B → ℕ) (f : A → B) (xs : List A) → sum_by g (map f xs) ≡ sum_by (λ x. g (f x)) xs
sum_mapped g f [] = refl
sum_mapped g f (x ∷ xs) = ap (λ n. g (f x) + n) (sum_mapped g f xs)

-- a figure put at one number adds at most itself to a sum over numbers that rise by one
module _ (k e : ℕ) (f : ℕ → ℕ) where
  abbrev at_one : ℕ → ℕ
  at_one j = cond (eqb k j) e (f j)

  none_left : (a n : ℕ) → k < a → sum_by at_one (range_with_len a n) ≤ sum_by f (range_with_len a n)
  none_left a zero h = omega arith
  none_left a (suc n) h = let rest = none_left (a + 1) n (omega arith) in grind (arith, nat_tests)

  pub at_most_once : (a n : ℕ) → sum_by at_one (range_with_len a n) ≤ e + sum_by f (range_with_len a n)
  at_most_once a zero = omega arith
  at_most_once a (suc n) =
      let rest = at_most_once (a + 1) n in
      elim (cases_eq k a) [
        | inl same ↦ let left = none_left (a + 1) n (omega arith) in grind (arith, nat_tests)
        | inr apart ↦ grind (arith, nat_tests)
      ]

-- a path weighs on all legs together no more than what enters its legs
pub weighs_what_enters : (ks es : List ℕ) (n : ℕ) → sum_by (enters_leg ks es) (below n) ≤ sum_by (λ e. e) es
weighs_what_enters [] es n = none 0 n
  where
    none : (a n : ℕ) → sum_by (enters_leg [] es) (range_with_len a n) ≤ sum_by (λ e. e) es
    none a zero = omega arith
    none a (suc n) = omega (arith, none (a + 1) n)
weighs_what_enters (k ∷ ks) [] n = none 0 n
  where
    none : (a n : ℕ) → sum_by (enters_leg (k ∷ ks) []) (range_with_len a n) ≤ 0
    none a zero = omega arith
    none a (suc n) = omega (arith, none (a + 1) n)
weighs_what_enters (k ∷ ks) (e ∷ es) n = omega (arith, at_most_once k e (enters_leg ks es) 0 n, weighs_what_enters ks es n)

pub entering_sum : (ss : List Stretch) (y : ℕ) → sum_by (λ e. e) (entering y ss) ≤ length ss * y
entering_sum [] y = omega arith
entering_sum (s ∷ ss) y =
    omega (arith, entering_sum ss (passed s.rate y), mul-le-mul_left (length ss) (passed_le s.rate y))

-- no leg is taken twice where no node is met twice
has_mapped : (f : ℕ → ℕ) (n : ℕ) (ks : List ℕ) → has n ks ≡ true → has (f n) (map f ks) ≡ true
has_mapped f n [] h = h
has_mapped f n (k ∷ ks) h =
    elim (cases_Bool (eqb k n)) [
      | inl e ↦ let z : f k ≡ f n = ap f (eqb-true k n e) in let t : eqb (f k) (f n) ≡ true = eq-eqb (f k) (f n) z in grind arith
      | inr e ↦ let r : has (f n) (map f ks) ≡ true = has_mapped f n ks (grind arith) in grind arith
    ]

once_before : (f : ℕ → ℕ) (ks : List ℕ) → no_twice (map f ks) ≡ true → no_twice ks ≡ true
once_before f [] h = refl
once_before f (k ∷ ks) h =
    let p = and_parts (not (has (f k) (map f ks))) _ h in
    let out : has (f k) (map f ks) ≡ false = not_true' p.0 in
    and_from (not (has k ks)) _
    (elim (cases_Bool (has k ks)) [
      | inl inside ↦ absurd (both_ways (has (f k) (map f ks)) out (has_mapped f k ks inside))
      | inr outside ↦ rw outside refl
    ])
    (once_before f ks p.1)
  where
    not_true' : not (has (f k) (map f ks)) ≡ true → has (f k) (map f ks) ≡ false
    not_true' e = not-true (has (f k) (map f ks)) e

has_at : (ks : List ℕ) (i : ℕ) → i < length ks → has (get_or ks i 0) ks ≡ true
has_at [] i h = absurd (omega arith)
has_at (k ∷ ks) zero h = let t : eqb k k ≡ true = eq-eqb k k refl in grind arith
has_at (k ∷ ks) (suc i) h = let r : has (get_or ks i 0) ks ≡ true = has_at ks i (omega arith) in or_right (eqb k (get_or ks i 0)) _ r

pub enters_its_leg : (ks es : List ℕ) (i : ℕ) → no_twice ks ≡ true → length es ≡ length ks → i < length ks → enters_leg ks es (get_or ks i 0) ≡ get_or es i 0
enters_its_leg [] es i once many h = absurd (omega arith)
enters_its_leg (k ∷ ks) [] i once many h = absurd (omega arith)
enters_its_leg (k ∷ ks) (e ∷ es) zero once many h = let t : eqb k k ≡ true = eq-eqb k k refl in rw t refl
enters_its_leg (k ∷ ks) (e ∷ es) (suc i) once many h =
    let p = and_parts (not (has k ks)) _ once in
    let out : has k ks ≡ false = not-true (has k ks) p.0 in
    let inside : has (get_or ks i 0) ks ≡ true = has_at ks i (omega arith) in
    let t : eqb k (get_or ks i 0) ≡ false = ne_eqb k (get_or ks i 0) (λ z. both_ways (has k ks) out (rw z inside)) in
    rw t (enters_its_leg ks es i p.1 (omega arith) (omega arith))

pub enters_no_other : (ks es : List ℕ) (j : ℕ) → has j ks ≡ false → enters_leg ks es j ≡ 0
enters_no_other [] es j h = refl
enters_no_other (k ∷ ks) [] j h = refl
enters_no_other (k ∷ ks) (e ∷ es) j h =
    let p = or_parts (eqb k j) (has j ks) h in
    rw p.0 (enters_no_other ks es j p.1)

module _ (d : Drawing) (p : ℕ) (real : p < length d.paths) (holds : path_holds d.nodes d.legs (get_or d.paths p []) ≡ true) where
  abbrev ks : List ℕ
  ks = get_or d.paths p []

  abbrev es : List ℕ
  es = entering one_mw (stretches d.legs (get_or d.paths p []))

  row : weights_of (leg_grid d) p ≡ leg_weights d.legs ks
  row = get_or-map (leg_weights d.legs) d.paths p [] [] real

  on_leg : (j : ℕ) → j < length d.legs → weight_of (leg_grid d) p j ≡ as_watts (enters_leg ks es j)
  on_leg j low = ap (λ ws. get_or ws j (as_watts 0)) row ∙ get_or-map-range_with_len (λ i. as_watts (enters_leg ks es i)) 0 (length d.legs) j j (as_watts 0) low (omega arith)

  no_leg : (j : ℕ) → length d.legs ≤ j → weight_of (leg_grid d) p j ≡ as_watts 0
  no_leg j past =
      ap (λ ws. get_or ws j (as_watts 0)) row
      ∙ get_or_past (leg_weights d.legs ks) j (as_watts 0) (omega (arith, length-map-range_with_len (λ i. as_watts (enters_leg ks es i)) 0 (length d.legs)))

  as_many : length es ≡ length ks
  as_many = as_many_enter (stretches d.legs ks) one_mw ∙ length-map ks _

  pub leg_weights_stand : LegWeights d p
  leg_weights_stand =
      let h = held d.nodes d.legs ks holds in
      let once : no_twice ks ≡ true = once_before (λ k. (leg_at d.legs k).to) ks (and_parts (not (has _ (ends_of d.legs ks))) _ h.once).1 in
      record {
        on_its_legs = λ i inside.
            on_leg (get_or ks i 0) (ltb-true (get_or ks i 0) (length d.legs) (all_of_at (λ k. ltb k (length d.legs)) ks i 0 h.entered inside))
            ∙ ap as_watts (enters_its_leg ks es i once as_many inside);
        elsewhere = λ j out. elim (cases_lt j (length d.legs)) [
          | inl low ↦ on_leg j low ∙ ap as_watts (enters_no_other ks es j out)
          | inr past ↦ no_leg j past
        ];
      }

pub grids_stand_lem : GridsStand
grids_stand_lem = record { beyond = beyond; booking = booking; extension = extension; legs = leg_weights_stand }
