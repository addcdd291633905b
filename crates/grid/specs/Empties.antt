-- Gauges without room, and no path.
use Rattle.std.specs.Prelude.{◌≡◌, ℕ, zero, suc, ◌≤◌, [], take, replicate, slice_index_or, refl}
use Rattle.std.proofs.Common.{ap, arith, lit≤}
use Rattle.std.proofs.lemmas.List.{length-replicate}
use Rattle.rules.specs.Grids.{Meaning, Lawful, as_watts, sum_of}
use Rattle.rules.specs.declared.power.Watts.{Watts}

-- what a grid of so many ground gauges without room means
abbrev pub empty_grid : ℕ → Meaning
empty_grid n = record { grounds = n; rooms = replicate n (as_watts 0); weights = [] }

pub no_room : (n k : ℕ) → slice_index_or (replicate n (as_watts 0)) k (as_watts 0) ≡ as_watts 0
no_room zero k = refl
no_room (suc n) zero = refl
no_room (suc n) (suc k) = no_room n k

pub no_weight : (n : ℕ) → sum_of (take n []) ≤ 8000000
no_weight zero = lit≤ tt
no_weight (suc n) = lit≤ tt

pub empty_lawful : (n : ℕ) → n ≤ 256 → Lawful (empty_grid n)
empty_lawful n few =
    let many = length-replicate n (as_watts 0) in
    record {
      few = omega (arith, many, few);
      ground_first = omega (arith, many);
      roomy = λ k. omega (arith, ap (λ (r : Watts). r.0) (no_room n k));
      narrow = λ p k. lit≤ tt;
      light = λ p. no_weight n;
      even = λ p real. absurd (omega arith);
    }
