-- Paths with the same ends, figures and passages: nothing else tells two paths apart.
use Rattle.std.specs.Prelude.{◌≡◌, ℕ, ◌≤◌, true, List, [], ◌∷◌, ◌++◌, length, drop, nat_eq, refl}
use Rattle.std.proofs.Common.{sym, ap, ◌∙◌, arith}
use Rattle.std.proofs.Math.Path.{PathP, to_path_p}
use Rattle.std.proofs.Math.Bridge.{le_prop}
use Rattle.std.proofs.Math.Nat.{ℕ_set}
use Rattle.std.proofs.Math.Bool.{Bool-set}
use Rattle.std.proofs.lemmas.Bool.{and_parts, eqb-true}
use Rattle.std.proofs.lemmas.List.{length-take-le, length-drop, take-append-drop}
use Rattle.rules.specs.Grids.{as_watts}
use Rattle.rules.specs.Lists.{all_of}
use Rattle.rules.specs.declared.charge.Charge.{Charge}
use Rattle.rules.specs.declared.yields.Yield.{Yield}
use Rattle.sheet.specs.Blanks.{blank_place}
use Rattle.sheet.specs.Places.{laid}
use Rattle.sheet.specs.PathLaws.{PathsStand}
use Rattle.sheet.specs.declared.passages.Passages.{Passages}
use Rattle.sheet.specs.declared.path.Passage.{Passage}

-- two proofs of a fact that has one at most
along : (A : 𝕀 → Type 0) → IsProp (A 1) → (a : A 0) (b : A 1) → PathP A a b
along A one a b = to_path_p A (one _ b)

same_yield : (a b : Yield) → a.watts ≡ b.watts → a ≡ b
same_yield a b w =
    λ i. record {
      watts = w i;
      some = along (λ j. 1 ≤ w j) le_prop a.some b.some i;
      within = along (λ j. w j ≤ 1000000) le_prop a.within b.within i;
    }

same_charge : (a b : Charge) → a.billionths ≡ b.billionths → a ≡ b
same_charge a b w = λ i. record { billionths = w i; within = along (λ j. w j ≤ 10000000000000) le_prop a.within b.within i }

abbrev passage : ℕ → ℕ → ℕ → Passage
passage l e v = record { leg = l; enters = as_watts e; leaves = as_watts v }

is_blank : (x : Passage) → blank_place x ≡ true → x ≡ passage 0 0 0
is_blank x b =
    let p = and_parts (nat_eq x.leg 0) _ b in
    let q = and_parts (nat_eq x.enters.0 0) _ p.1 in
    ap (λ n. passage n x.enters.0 x.leaves.0) (eqb-true _ _ p.0)
    ∙ ap (λ n. passage 0 n x.leaves.0) (eqb-true _ _ q.0)
    ∙ ap (λ n. passage 0 0 n) (eqb-true _ _ q.1)

both_blank : (xs ys : List Passage) → all_of blank_place xs ≡ true → all_of blank_place ys ≡ true → length xs ≡ length ys → xs ≡ ys
both_blank [] [] b c n = refl
both_blank [] (y ∷ ys) b c n = absurd (omega (arith, n))
both_blank (x ∷ xs) [] b c n = absurd (omega (arith, n))
both_blank (x ∷ xs) (y ∷ ys) b c n =
    let p = and_parts (blank_place x) _ b in
    let q = and_parts (blank_place y) _ c in
    ap (λ z. z ∷ xs) (is_blank x p.0 ∙ sym (is_blank y q.0)) ∙ ap (λ zs. y ∷ zs) (both_blank xs ys p.1 q.1 (omega (arith, n)))

how_many : (p : Passages) → length (laid p) ≡ p.count
how_many p = length-take-le p.count p.places (omega (arith, p.few, p.full))

abbrev behind : Passages → List Passage
behind p = drop p.count p.places

as_many_behind : (p q : Passages) → p.count ≡ q.count → length (behind p) ≡ length (behind q)
as_many_behind p q n = omega (arith, n, length-drop p.count p.places, length-drop q.count q.places, p.full, q.full)

-- behind the same passages lie as many places, all of them blank
same_places : (p q : Passages) → p.count ≡ q.count → laid p ≡ laid q → p.places ≡ q.places
same_places p q n l =
    let same_behind = both_blank (behind p) (behind q) p.blank q.blank (as_many_behind p q n) in
    sym (take-append-drop p.count p.places) ∙ ap (λ xs. xs ++ behind p) l ∙ ap (λ xs. laid q ++ xs) same_behind ∙ take-append-drop q.count q.places

same_list : (p q : Passages) → laid p ≡ laid q → p ≡ q
same_list p q l =
    let n : p.count ≡ q.count = sym (how_many p) ∙ ap length l ∙ how_many q in
    let xs : p.places ≡ q.places = same_places p q n l in
    λ i. record {
      places = xs i;
      count = n i;
      few = along (λ j. n j ≤ 8) le_prop p.few q.few i;
      full = along (λ j. length (xs j) ≡ 8) (ℕ_set _ _) p.full q.full i;
      blank = along (λ j. all_of blank_place (drop (n j) (xs j)) ≡ true) (Bool-set _ _) p.blank q.blank i;
    }

pub paths_stand_lem : PathsStand
paths_stand_lem p q f t y c l =
    let ps : p.passages ≡ q.passages = same_list p.passages q.passages l in
    λ i. record {
      from = f i;
      to = t i;
      yields = same_yield p.yields q.yields y i;
      charge = same_charge p.charge q.charge c i;
      passages = ps i;
      some = along (λ j. 1 ≤ (ps j).count) le_prop p.some q.some i;
      few = along (λ j. (ps j).count ≤ 8) le_prop p.few q.few i;
    }
