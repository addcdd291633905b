-- What the answer on a section's gauges means, and which place a no names.
use Rattle.std.specs.Prelude.{◌≡◌, ℕ, true, false, List, Ok, Err}
use Rattle.rules.specs.Grids.{rising_ground}
use Rattle.rules.specs.QuestionLaws.{FailsAt}
use Rattle.grid.specs.SectionAsks.{one_to_sixteen, gauges_answer}

pub record SectionsStand : Type 0 where
  pub yes : (grounds : ℕ) (ks : List ℕ) → gauges_answer grounds ks ≡ Ok tt → (one_to_sixteen ks ≡ true) × (rising_ground grounds ks ≡ true)
  pub yes_from : (grounds : ℕ) (ks : List ℕ) → one_to_sixteen ks ≡ true → rising_ground grounds ks ≡ true → gauges_answer grounds ks ≡ Ok tt
  pub count : (grounds : ℕ) (ks : List ℕ) → one_to_sixteen ks ≡ false → gauges_answer grounds ks ≡ Err 0
  pub no : (grounds : ℕ) (ks : List ℕ) (p : ℕ) → one_to_sixteen ks ≡ true → gauges_answer grounds ks ≡ Err p → FailsAt (rising_ground grounds) ks p
  pub no_from : (grounds : ℕ) (ks : List ℕ) (p : ℕ) → one_to_sixteen ks ≡ true → FailsAt (rising_ground grounds) ks p → gauges_answer grounds ks ≡ Err p
