-- Room for 1 MW on a path, told gauge by gauge.
use Rattle.std.proofs.Common.{◌≡◌, ℕ, ◌*◌, Bool, List, [], ◌∷◌, refl, ap, arith}
use Rattle.std.specs.List.{list_all}
use Rattle.std.specs.Prelude.{nat_le}
use Rattle.rules.specs.Grids.{Meaning, gauges_of, room_of, weight_of, has_room}
use Rattle.rules.specs.Lists.{all_of, below}

same_test : {A : Type 0} (f g : A → Bool) (each : (x : A) → f x ≡ g x) (xs : List A) → list_all f xs ≡ all_of g xs
same_test f g each [] = refl
same_test f g each (x ∷ xs) = rw (each x, same_test f g each xs) refl

pub room_for_one : (m : Meaning) (p : ℕ) → list_all (λ k. nat_le (weight_of m p k).0 (room_of m k).0) (below (gauges_of m)) ≡ has_room m p (record { 0 = 1 })
room_for_one m p =
    same_test (λ k. nat_le (weight_of m p k).0 (room_of m k).0) (λ k. nat_le (1 * (weight_of m p k).0) (room_of m k).0) (λ k. ap (λ n. nat_le n (room_of m k).0) (omega arith)) (below (gauges_of m))
