-- What the answers on a path's legs mean, and which place a no names.
use Rattle.std.specs.Prelude.{◌≡◌, ℕ, ◌-◌, ◌≤◌, Bool, true, false, List, Ok, Err, nat_lt}
use Rattle.rules.specs.Network.{DrawnLeg, one_to_eight, all_entered, chained, nodes_met, no_twice}
use Rattle.rules.specs.QuestionLaws.{FailsFirst, FailsAt}
use Rattle.sheet.specs.Asks.{legs_answer, chain_answer, nodes_answer}

-- no node is met twice
abbrev pub meets_once : List DrawnLeg → List ℕ → Bool
meets_once ls ks = no_twice (nodes_met ls ks)

pub record PlacesStand : Type 0 where
  pub legs_yes : (n : ℕ) (ks : List ℕ) → legs_answer n ks ≡ Ok tt → (one_to_eight ks ≡ true) × (all_entered n ks ≡ true)
  pub legs_yes_from : (n : ℕ) (ks : List ℕ) → one_to_eight ks ≡ true → all_entered n ks ≡ true → legs_answer n ks ≡ Ok tt
  pub legs_count : (n : ℕ) (ks : List ℕ) → one_to_eight ks ≡ false → legs_answer n ks ≡ Err 0
  pub legs_no : (n : ℕ) (ks : List ℕ) (p : ℕ) → one_to_eight ks ≡ true → legs_answer n ks ≡ Err p → (1 ≤ p) × FailsFirst (λ k. nat_lt k n) ks (p - 1)
  pub chain_yes : (ls : List DrawnLeg) (ks : List ℕ) → chain_answer ls ks ≡ Ok tt → chained ls ks ≡ true
  pub chain_yes_from : (ls : List DrawnLeg) (ks : List ℕ) → chained ls ks ≡ true → chain_answer ls ks ≡ Ok tt
  pub chain_no : (ls : List DrawnLeg) (ks : List ℕ) (p : ℕ) → chain_answer ls ks ≡ Err p → FailsAt (chained ls) ks p
  pub chain_no_from : (ls : List DrawnLeg) (ks : List ℕ) (p : ℕ) → FailsAt (chained ls) ks p → chain_answer ls ks ≡ Err p
  pub nodes_yes : (ls : List DrawnLeg) (ks : List ℕ) → nodes_answer ls ks ≡ Ok tt → meets_once ls ks ≡ true
  pub nodes_yes_from : (ls : List DrawnLeg) (ks : List ℕ) → meets_once ls ks ≡ true → nodes_answer ls ks ≡ Ok tt
  pub nodes_no : (ls : List DrawnLeg) (ks : List ℕ) (p : ℕ) → nodes_answer ls ks ≡ Err p → FailsAt (meets_once ls) ks p
  pub nodes_no_from : (ls : List DrawnLeg) (ks : List ℕ) (p : ℕ) → FailsAt (meets_once ls) ks p → nodes_answer ls ks ≡ Err p
