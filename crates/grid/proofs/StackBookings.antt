-- Booking on a grid with sections.
use Rattle.std.proofs.Common.{◌≡◌, ℕ, ◌<◌, Bool, true, false, ◌&&◌, ltb, leb, List, [], ◌∷◌, ◌++◌, map, length, take, drop, Ok, Err, sym, refl, ap, ◌∙◌, arith, length-append, length-drop, length-take}
use Rattle.std.proofs.lemmas.List.{take-map, take_at, length-map}
use Rattle.std.proofs.lemmas.Bool.{and_right}
use Rattle.rules.specs.Grids.{Meaning, Lawful, gauges_of, paths_of, weights_of, enough, lowered, known, has_room, booked, extended, weight_over}
use Rattle.rules.specs.Lists.{all_of}
use Rattle.rules.specs.Questions.{asked, answered, first_no, answer_to}
use Rattle.rules.specs.declared.fault.Fault.{Fault}
use Rattle.rules.specs.declared.power.Mw.{Mw}
use Rattle.rules.specs.declared.power.Watts.{Watts}
use Rattle.rules.proofs.Alls.{all_of-take, all_of-drop, all_of-append}
use Rattle.rules.proofs.Gauges.{length-lowered, lowered_within}
use Rattle.rules.proofs.Meanings.{added_weights, as_many_paths, room_above_lem, booked_above}
use Rattle.arrayvec.specs.ArrayVec.{ArrayVec, with_items}
use Rattle.grid.specs.Bookings.{Books, booking_questions}
use Rattle.grid.specs.Sections.{ground_in, counted, overs, stacked, here, over, section_weights, sections_fit}
use Rattle.grid.specs.declared.question.GridQuestion.{GridQuestion}
use Rattle.grid.specs.declared.question.GridQuestion.TheVariants.{BookingPath, BookingRoom}
use Rattle.grid.specs.declared.sections.SectionGrid.{SectionGrid}

map-map : {A B C : Type 0} (f : B → C) (h : A → B) (xs : List A) → map f (map h xs) ≡ map (λ x. f (h x)) xs
map-map f h [] = refl
map-map f h (x ∷ xs) = ap (λ ys. f (h x) ∷ ys) (map-map f h xs)

-- what a path weighs on the first n sections
pub weights_taken : (m : Meaning) (ss : List (ArrayVec ℕ)) (p n : ℕ) → take n (section_weights m ss p) ≡ added_weights (overs m ss n) (weights_of m p)
weights_taken m ss p n =
    take-map (λ s. weight_over (ground_in m.grounds s) (weights_of m p)) n ss
    ∙ sym (map-map (λ ks. weight_over ks (weights_of m p)) (ground_in m.grounds) (take n ss))

-- booking on a grid with sections: there is room where there is below and on the sections, and both are lowered
module _ (m : Meaning) (law : Lawful m) (ss : List (ArrayVec ℕ)) (rs : List Watts) (n p : ℕ) (real : p < paths_of m) (q : Mw) where
  abbrev fit : Bool
  fit = enough q (take n rs) (take n (section_weights m ss p))

  stacked_room : has_room (stacked m ss rs n) p q ≡ has_room m p q && fit
  stacked_room =
      room_above_lem m (overs m ss n) (take n rs) law p real q
      ∙ ap (λ ws. has_room m p q && enough q (take n rs) ws) (sym (weights_taken m ss p n))

  same_paths : known (stacked m ss rs n) p ≡ known m p
  same_paths = ap (λ k. ltb p k) (as_many_paths m (overs m ss n) (take n rs))

  pub no_room : fit ≡ false → has_room (stacked m ss rs n) p q ≡ false
  no_room short = stacked_room ∙ and_right (has_room m p q) fit short

  -- where the sections have room, the grid below decides
  pub same_answer : fit ≡ true → first_no (booking_questions (stacked m ss rs n) p q) ≡ first_no (booking_questions m p q)
  same_answer yes' =
      let room : has_room (stacked m ss rs n) p q ≡ has_room m p q = stacked_room ∙ ap (λ b. has_room m p q && b) yes' ∙ and_true (has_room m p q) in
      ap (λ b. first_no (asked BookingPath (answered b) ∷ (asked BookingRoom (answered (has_room (stacked m ss rs n) p q)) ∷ []))) same_paths
      ∙ ap (λ b. first_no (asked BookingPath (answered (known m p)) ∷ (asked BookingRoom (answered b) ∷ []))) room
    where
      and_true : (b : Bool) → (b && true) ≡ b
      and_true true = refl
      and_true false = refl

  pub stacked_booked : (rs' : List Watts) → take n rs' ≡ lowered q (take n rs) (take n (section_weights m ss p)) → stacked (booked m p q) ss rs' n ≡ booked (stacked m ss rs n) p q
  stacked_booked rs' is =
      ap (extended (booked m p q) (overs m ss n)) (is ∙ ap (lowered q (take n rs)) (weights_taken m ss p n))
      ∙ sym (booked_above m (overs m ss n) (take n rs) law p real q)

-- the whole grid answers and leaves what the grid below does, with its sections' rooms lowered or left
module _ {G : Type 0} (means : G → Meaning) (g : SectionGrid G) (law : Lawful (means g.below)) (p : ℕ) (real : p < paths_of (means g.below)) (q : Mw) where
  abbrev under : Meaning
  under = means g.below

  abbrev above : ℕ
  above = here means g

  abbrev path_weights : List Watts
  path_weights = take above (section_weights under g.sections.items p)

  abbrev whole : Meaning → List Watts → Meaning
  whole m rs = stacked m g.sections.items rs (counted (gauges_of m) (length g.sections.items))

  answer : sections_fit means g p q ≡ true → first_no (booking_questions (over means g) p q) ≡ first_no (booking_questions under p q)
  answer fits = same_answer under law g.sections.items g.rooms.items above p real q fits

  pub refuses : (f : Fault GridQuestion) (m : Meaning) → sections_fit means g p q ≡ true → Books under m p q (Err f) → Books (over means g) (whole m g.rooms.items) p q (Err f)
  refuses f m fits b =
      record {
        answers = b.answers ∙ ap (λ o. answer_to o tt) (sym (answer fits));
        leaves = ap (λ k. whole k g.rooms.items) b.leaves;
      }

  pub carries_out : (t : Unit {0}) (m : Meaning) (rs : List Watts) → sections_fit means g p q ≡ true → take above rs ≡ lowered q (take above g.rooms.items) path_weights
      → Books under m p q (Ok t) → Books (over means g) (whole m rs) p q (Ok t)
  carries_out t m rs fits rooms b =
      record {
        answers = b.answers ∙ ap (λ o. answer_to o tt) (sym (answer fits));
        leaves =
            ap (λ k. whole k rs) b.leaves
            ∙ ap (λ k. stacked (booked under p q) g.sections.items rs (counted k (length g.sections.items))) (length-lowered q under.rooms (weights_of under p))
            ∙ stacked_booked under law g.sections.items g.rooms.items above p real q rs rooms;
      }

  pub short : sections_fit means g p q ≡ false → has_room (over means g) p q ≡ false
  short = no_room under law g.sections.items g.rooms.items above p real q

  -- the rooms of the sections that count lowered where they lie, the others left
  module _ (n : ℕ) (slice ws new : List Watts) (count : n ≡ above) (rooms : slice ≡ g.rooms.items) (weights : ws ≡ section_weights under g.sections.items p)
      (is : new ≡ lowered q (take (length (take n ws)) slice) (take n ws) ++ drop (length (take n ws)) slice) where
    abbrev part : List Watts
    part = lowered q (take above g.rooms.items) path_weights

    abbrev after : List Watts
    after = (with_items g.rooms new).items

    weights_are : take n ws ≡ path_weights
    weights_are = ap (λ k. take k ws) count ∙ ap (take above) weights

    as_many_weights : length (take n ws) ≡ above
    as_many_weights = ap length weights_are ∙ simp (length-take, length-map) (omega arith)

    pub part_lowered : new ≡ part ++ drop above g.rooms.items
    part_lowered =
        is
        ∙ ap (λ k. lowered q (take k slice) (take n ws) ++ drop k slice) as_many_weights
        ∙ ap (λ vs. lowered q (take above slice) vs ++ drop above slice) weights_are
        ∙ ap (λ rs. lowered q (take above rs) path_weights ++ drop above rs) rooms

    part_long : length part ≡ above
    part_long = length-lowered q (take above g.rooms.items) path_weights ∙ simp length-take (omega (arith, g.as_many))

    all_long : length new ≡ length g.rooms.items
    all_long = ap length part_lowered ∙ omega (arith, length-append part (drop above g.rooms.items), length-drop above g.rooms.items, part_long, g.as_many)

    after_is : after ≡ part ++ drop above g.rooms.items
    after_is = take_at new (drop (length new) g.rooms.items) (length g.rooms.items) all_long ∙ part_lowered

    pub part_taken : take above after ≡ part
    part_taken = ap (take above) after_is ∙ take_at part (drop above g.rooms.items) above part_long

    pub still_as_many : length g.sections.items ≡ length after
    still_as_many = omega (arith, ap length after_is, ap length part_lowered, all_long, g.as_many)

    pub still_roomy : all_of (λ w. leb w.0 100000000000) after ≡ true
    still_roomy =
        ap (all_of (λ (w : Watts). leb w.0 100000000000)) after_is
        ∙ all_of-append (λ (w : Watts). leb w.0 100000000000) part (drop above g.rooms.items)
        (lowered_within 100000000000 q (take above g.rooms.items) path_weights (all_of-take (λ (w : Watts). leb w.0 100000000000) g.rooms.items above g.roomy))
        (all_of-drop (λ (w : Watts). leb w.0 100000000000) g.rooms.items above g.roomy)

-- looking at the sections from the first on, as far as they count, is looking at those that count
pub part_fits : {G : Type 0} (means : G → Meaning) (g : SectionGrid G) (p : ℕ) (q : Mw) (n : ℕ) (rs ws : List Watts) → n ≡ here means g → rs ≡ g.rooms.items
    → ws ≡ section_weights (means g.below) g.sections.items p → enough q (take n rs) (take n ws) ≡ sections_fit means g p q
part_fits means g p q n rs ws count rooms weights =
    ap (λ k. enough q (take k rs) (take k ws)) count
    ∙ ap (λ xs. enough q (take (here means g) xs) (take (here means g) ws)) rooms
    ∙ ap (λ vs. enough q (take (here means g) g.rooms.items) (take (here means g) vs)) weights
