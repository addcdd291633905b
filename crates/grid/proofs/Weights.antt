-- What a path weighs on legs.
use Rattle.std.proofs.Common.{◌≡◌, ℕ, ◌≤◌, eqb, ◌==◌, List, [], ◌∷◌, map, None, Some, Option, refl, ap, ◌∙◌, inl, inr, arith}
use Rattle.std.specs.List.{find}
use Rattle.std.proofs.lemmas.Bool.{cases_Bool}
use Rattle.rules.specs.Grids.{as_watts, sum_of}
use Rattle.rules.specs.LegGrids.{enters_leg}
use Rattle.rules.specs.Lists.{sum_by, below}
use Rattle.rules.specs.declared.power.Watts.{Watts}
use Rattle.rules.proofs.LegRows.{sum_mapped, weighs_what_enters}
use Rattle.sheet.specs.declared.path.Passage.{Passage}
use Rattle.grid.specs.Legs.{passage_weight}

abbrev enters_of : Option Passage → Watts
enters_of None = as_watts 0
enters_of (Some x) = x.enters

found : (ps : List Passage) (j : ℕ) → enters_of (find (λ x. eqb x.leg j) ps) ≡ passage_weight ps j
found [] j = refl
found (x ∷ ps) j =
    elim (cases_Bool (eqb x.leg j)) [ inl e ↦ rw e refl | inr e ↦ rw e (found ps j) ]

-- what a path weighs on a leg is what enters the passage that is found there, and nothing where there is none
pub weight_found : (ps : List Passage) (j : ℕ) (x : Passage) → Some x ≡ find (λ y. y.leg == j) ps → x.enters ≡ passage_weight ps j
weight_found ps j x h = ap enters_of h ∙ found ps j

pub weight_missing : (ps : List Passage) (j : ℕ) → None ≡ find (λ y. y.leg == j) ps → as_watts 0 ≡ passage_weight ps j
weight_missing ps j h = ap enters_of h ∙ found ps j

-- a row is as light as what enters the path's legs
pub row_light : (ps : List Passage) (on : List Watts) (n : ℕ) → on ≡ map (passage_weight ps) (below n) → sum_by (λ (x : Passage). x.enters.0) ps ≤ 8000000 → sum_of on ≤ 8000000
row_light ps on n laid few =
    let ks : List ℕ = map (λ (x : Passage). x.leg) ps in
    let es : List ℕ = map (λ (x : Passage). x.enters.0) ps in
    let row : sum_of on ≡ sum_by (enters_leg ks es) (below n) = ap sum_of laid ∙ sum_mapped (λ (w : Watts). w.0) (passage_weight ps) (below n) in
    let all : sum_by (λ (m : ℕ). m) es ≡ sum_by (λ (x : Passage). x.enters.0) ps = sum_mapped (λ (m : ℕ). m) (λ (x : Passage). x.enters.0) ps in
    omega (arith, row, all, weighs_what_enters ks es n)
