-- What is asked of MW that are to be booked on a path, and what the booking answers and leaves.
use Rattle.std.specs.Prelude.{◌≡◌, ℕ, List, [], ◌∷◌, Ok, Err, Result}
use Rattle.rules.specs.Grids.{Meaning, known, has_room, booked}
use Rattle.rules.specs.Questions.{Asked, asked, answered, first_no, answer_to}
use Rattle.rules.specs.declared.fault.Fault.{Fault}
use Rattle.rules.specs.declared.power.Mw.{Mw}
use Rattle.grid.specs.declared.question.GridQuestion.{GridQuestion}
use Rattle.grid.specs.declared.question.GridQuestion.TheVariants.{BookingPath, BookingRoom}

-- is the path known, and is every room enough?
abbrev pub booking_questions : Meaning → ℕ → Mw → List (Asked GridQuestion)
booking_questions m p q = asked BookingPath (answered (known m p)) ∷ (asked BookingRoom (answered (has_room m p q)) ∷ [])

-- a booking that is carried out lowers each room; one that is refused leaves all
abbrev pub Leaves : Meaning → Meaning → ℕ → Mw → Result (Unit {0}) (Fault GridQuestion) → Type 0
Leaves m n p q (Ok done) = n ≡ booked m p q
Leaves m n p q (Err fault) = n ≡ m

-- q MW booked on path p of a grid that means m, and then means n
pub record Books (m n : Meaning) (p : ℕ) (q : Mw) (r : Result (Unit {0}) (Fault GridQuestion)) : Type 0 where
  pub answers : r ≡ answer_to (first_no (booking_questions m p q)) tt
  pub leaves : Leaves m n p q r
