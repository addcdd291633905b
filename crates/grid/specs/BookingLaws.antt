-- What the answer to a booking means.
use Rattle.std.specs.Prelude.{◌≡◌, ℕ, true, None}
use Rattle.rules.specs.Grids.{Meaning, known, has_room, carries_one}
use Rattle.rules.specs.Questions.{first_no}
use Rattle.rules.specs.declared.power.Mw.{Mw}
use Rattle.grid.specs.Bookings.{booking_questions}

-- no question fails exactly where the path is known and every room is enough; and where q is 1 MW, exactly where the path can carry 1 MW
pub record BookingsStand : Type 0 where
  pub carried_out : (m : Meaning) (p : ℕ) (q : Mw) → first_no (booking_questions m p q) ≡ None → (known m p ≡ true) × (has_room m p q ≡ true)
  pub carried_out_from : (m : Meaning) (p : ℕ) (q : Mw) → known m p ≡ true → has_room m p q ≡ true → first_no (booking_questions m p q) ≡ None
  pub one : (m : Meaning) (p : ℕ) → first_no (booking_questions m p (record { 0 = 1 })) ≡ None → carries_one m p ≡ true
  pub one_from : (m : Meaning) (p : ℕ) → carries_one m p ≡ true → first_no (booking_questions m p (record { 0 = 1 })) ≡ None
