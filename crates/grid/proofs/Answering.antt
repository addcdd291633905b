-- Both questions of a booking are answered yes exactly where it is carried out.
use Rattle.std.proofs.Common.{◌≡◌, ℕ, Bool, true, false, [], ◌∷◌, None, refl, arith}
use Rattle.std.proofs.lemmas.Bool.{and_parts, and_from}
use Rattle.rules.specs.Grids.{known, has_room}
use Rattle.rules.specs.Questions.{asked, answered, first_no}
use Rattle.grid.specs.BookingLaws.{BookingsStand}
use Rattle.grid.specs.declared.question.GridQuestion.TheVariants.{BookingPath, BookingRoom}

both_yes : (a b : Bool) → first_no (asked BookingPath (answered a) ∷ (asked BookingRoom (answered b) ∷ [])) ≡ None → (a ≡ true) × (b ≡ true)
both_yes true true h = (refl, refl)
both_yes true false h = let z : ◌≡◌ {A = ℕ} 0 1 = cc in absurd (omega arith)
both_yes false b h = let z : ◌≡◌ {A = ℕ} 0 1 = cc in absurd (omega arith)

yes_both : (a b : Bool) → a ≡ true → b ≡ true → first_no (asked BookingPath (answered a) ∷ (asked BookingRoom (answered b) ∷ [])) ≡ None
yes_both a b e f = rw (e, f) refl

pub bookings_stand_lem : BookingsStand
bookings_stand_lem =
    record {
      carried_out = λ m p q h. both_yes (known m p) (has_room m p q) h;
      carried_out_from = λ m p q e f. yes_both (known m p) (has_room m p q) e f;
      one = λ m p h. let b = both_yes (known m p) (has_room m p (record { 0 = 1 })) h in and_from (known m p) _ b.0 b.1;
      one_from = λ m p h. let b = and_parts (known m p) _ h in yes_both (known m p) (has_room m p (record { 0 = 1 })) b.0 b.1;
    }
