-- Sections above a grid: what counts of them may be added, whatever the grid below.
use Rattle.std.specs.Prelude.{◌≡◌, ℕ, ◌+◌, ◌-◌, ◌<◌, ◌≤◌, Bool, true, false, cond, leb, List, [], ◌∷◌, ◌++◌, map, length, get_or, take, filter, nat_le, nat_lt, slice_index, slice_index_or, refl}
use Rattle.std.proofs.Common.{sym, ap, ◌∙◌, inl, inr, arith, length-take}
use Rattle.std.proofs.lemmas.List.Elements.{filter_more}
use Rattle.std.proofs.lemmas.List.{append-nil, get_or-take, get_or-map, length-map}
use Rattle.std.proofs.lemmas.Bool.{and_parts, and_from, leb-true, le-leb, cases_Bool}
use Rattle.rules.specs.GridLaws.{MayAdd, Extension}
use Rattle.rules.specs.Grids.{Meaning, Lawful, gauges_of, room_of, weight_of, weights_of, as_watts, weight_over, rising_from, rising_ground}
use Rattle.rules.specs.Lists.{all_of}
use Rattle.rules.specs.declared.power.Watts.{Watts}
use Rattle.rules.proofs.Alls.{all_of-take}
use Rattle.rules.proofs.Meanings.{beyond, extension}
use Rattle.arrayvec.specs.ArrayVec.{ArrayVec}
use Rattle.grid.specs.Sections.{ground_in, counted, overs, stacked, here, over}
use Rattle.grid.specs.declared.sections.SectionGrid.{SectionGrid}

-- what is kept of strictly rising numbers rises, and passes the test
rising_lower : (n k : ℕ) (ks : List ℕ) → n ≤ k → rising_from k ks ≡ true → rising_from n ks ≡ true
rising_lower n k [] h r = refl
rising_lower n k (j ∷ ks) h r =
    let p = and_parts (nat_le k j) _ r in
    and_from (nat_le n j) _ (le-leb n j (omega (arith, leb-true k j p.0))) p.1

rising_kept : (f : ℕ → Bool) (n : ℕ) (ks : List ℕ) → rising_from n ks ≡ true → rising_from n (filter f ks) ≡ true
rising_kept f n [] r = refl
rising_kept f n (k ∷ ks) r =
    let p = and_parts (nat_le n k) _ r in
    elim (cases_Bool (f k)) [
      | inl e ↦ rw e (and_from (nat_le n k) _ p.0 (rising_kept f (k + 1) ks p.1))
      | inr e ↦ rw e (rising_lower n (k + 1) (filter f ks) (omega (arith, leb-true n k p.0)) (rising_kept f (k + 1) ks p.1))
    ]

passes_kept : (f : ℕ → Bool) (ks : List ℕ) → all_of f (filter f ks) ≡ true
passes_kept f [] = refl
passes_kept f (k ∷ ks) =
    elim (cases_Bool (f k)) [ inl e ↦ rw e (and_from (f k) _ e (passes_kept f ks)) | inr e ↦ rw e (passes_kept f ks) ]

grounded : (m : Meaning) (ss : List (ArrayVec ℕ)) → all_of (λ s. rising_from 0 s.items) ss ≡ true → all_of (rising_ground m.grounds) (map (ground_in m.grounds) ss) ≡ true
grounded m [] r = refl
grounded m (s ∷ ss) r =
    let p = and_parts (rising_from 0 s.items) _ r in
    and_from (rising_ground m.grounds (ground_in m.grounds s)) _
    (and_from (rising_from 0 (ground_in m.grounds s)) _ (rising_kept (λ k. nat_lt k m.grounds) 0 s.items p.0) (passes_kept (λ k. nat_lt k m.grounds) s.items))
    (grounded m ss p.1)

module _ (m : Meaning) (law : Lawful m) (ss : List (ArrayVec ℕ)) (rs : List Watts) (count : ℕ)
    (sections : count ≤ length ss) (rooms : count ≤ length rs) (rising : all_of (λ s. rising_from 0 s.items) ss ≡ true) (roomy : all_of (λ w. leb w.0 100000000000) rs ≡ true) where
  abbrev n : ℕ
  n = counted (gauges_of m) count

  pub as_many_rooms : length (take n rs) ≡ n
  as_many_rooms = simp length-take (omega arith)

  pub as_many_overs : length (overs m ss n) ≡ n
  as_many_overs = simp (length-map, length-take) (omega arith)

  pub may_add : MayAdd m (overs m ss n) (take n rs)
  may_add =
      record {
        as_many = as_many_overs ∙ sym as_many_rooms;
        few = omega (arith, as_many_rooms, law.few);
        roomy = all_of-take (λ w. leb w.0 100000000000) rs n roomy;
        grounded = grounded m (take n ss) (all_of-take (λ s. rising_from 0 s.items) ss n rising);
      }

  pub stack : Extension m (overs m ss n) (take n rs)
  stack = extension m (overs m ss n) (take n rs) law may_add

  abbrev all : Meaning
  all = stacked m ss rs n

  pub in_all : gauges_of m + n ≡ gauges_of all
  in_all = omega (arith, stack.gauges, as_many_rooms)

  -- the room of a section, and what a path weighs on it
  pub room_at : (k : ℕ) → gauges_of m ≤ k → k - gauges_of m < n → slice_index_or rs (k - gauges_of m) (as_watts 0) ≡ room_of all k
  room_at k past real =
      let e : gauges_of m + (k - gauges_of m) ≡ k = omega arith in
      sym (ap (room_of all) (sym e) ∙ stack.rooms_added (k - gauges_of m) ∙ get_or-take n rs (k - gauges_of m) (as_watts 0) real)

  pub weight_at : (p k : ℕ) (d : ArrayVec ℕ) → gauges_of m ≤ k → k - gauges_of m < n
      → weight_over (ground_in m.grounds (slice_index_or ss (k - gauges_of m) d)) (weights_of m p) ≡ weight_of all p k
  weight_at p k d past real =
      let e : gauges_of m + (k - gauges_of m) ≡ k = omega arith in
      let inside : k - gauges_of m < length (overs m ss n) = omega (arith, as_many_overs) in
      let there : k - gauges_of m < length (take n ss) = simp length-take (omega arith) in
      let o : get_or (overs m ss n) (k - gauges_of m) [] ≡ ground_in m.grounds (slice_index_or ss (k - gauges_of m) d) =
      get_or-map (ground_in m.grounds) (take n ss) (k - gauges_of m) d [] there ∙ ap (ground_in m.grounds) (get_or-take n ss (k - gauges_of m) d real) in
      sym (ap (weight_of all p) (sym e) ∙ stack.weights_added p (k - gauges_of m) inside ∙ ap (λ ks. weight_over ks (weights_of m p)) o)

  pub none_at : (k : ℕ) → gauges_of m ≤ k → n ≤ k - gauges_of m → gauges_of all ≤ k
  none_at k past none = omega (arith, in_all)

module _ {G : Type 0} (means : G → Meaning) (g : SectionGrid G) (law : Lawful (means g.below)) where
  abbrev below : Meaning
  below = means g.below

  enough_rooms : length g.sections.items ≤ length g.rooms.items
  enough_rooms = omega (arith, g.as_many)

  pub stack_of : Extension below (overs below g.sections.items (here means g)) (take (here means g) g.rooms.items)
  stack_of = stack below law g.sections.items g.rooms.items (length g.sections.items) (omega arith) enough_rooms g.rising g.roomy

  pub lawful : Lawful (over means g)
  lawful = stack_of.lawful

  pub in_all_of : gauges_of below + here means g ≡ gauges_of (over means g)
  in_all_of = in_all below law g.sections.items g.rooms.items (length g.sections.items) (omega arith) enough_rooms g.rising g.roomy

  -- a gauge with so many gauges below it
  pub room_of_section : (k b : ℕ) → b ≡ gauges_of below → gauges_of below ≤ k → k - b < here means g → slice_index_or g.rooms.items (k - b) (as_watts 0) ≡ room_of (over means g) k
  room_of_section k b is past real =
      let e : k - b ≡ k - gauges_of below = omega arith in
      ap (λ i. get_or g.rooms.items i (as_watts 0)) e
      ∙ room_at below law g.sections.items g.rooms.items (length g.sections.items) (omega arith) enough_rooms g.rising g.roomy k past (omega arith)

  pub weight_of_section : (p k b : ℕ) (d : ArrayVec ℕ) → b ≡ gauges_of below → gauges_of below ≤ k → k - b < here means g
      → weight_over (ground_in below.grounds (slice_index_or g.sections.items (k - b) d)) (weights_of below p) ≡ weight_of (over means g) p k
  weight_of_section p k b d is past real =
      let e : k - b ≡ k - gauges_of below = omega arith in
      ap (λ i. weight_over (ground_in below.grounds (slice_index_or g.sections.items i d)) (weights_of below p)) e
      ∙ weight_at below law g.sections.items g.rooms.items (length g.sections.items) (omega arith) enough_rooms g.rising g.roomy p k d past (omega arith)

  pub room_beyond : (k b : ℕ) → b ≡ gauges_of below → gauges_of below ≤ k → here means g ≤ k - b → as_watts 0 ≡ room_of (over means g) k
  room_beyond k b is past none = sym ((beyond (over means g) lawful).rooms k (omega (arith, in_all_of)))

  pub weight_beyond : (p k b : ℕ) → b ≡ gauges_of below → gauges_of below ≤ k → here means g ≤ k - b → as_watts 0 ≡ weight_of (over means g) p k
  weight_beyond p k b is past none = sym ((beyond (over means g) lawful).weights p k (omega (arith, in_all_of)))

-- the sum of weights on the gauges that pass a test, one gauge on
over_push : (ks : List ℕ) (k : ℕ) (ws : List Watts) → (weight_over (ks ++ (k ∷ [])) ws).0 ≡ (weight_over ks ws).0 + (get_or ws k (as_watts 0)).0
over_push [] k ws = omega arith
over_push (j ∷ ks) k ws = omega (arith, over_push ks k ws)

pub over_more : (f : ℕ → Bool) (ws : List Watts) (ks : List ℕ) (i : ℕ) → i < length ks
    → (weight_over (filter f (take (i + 1) ks)) ws).0 ≡ (weight_over (filter f (take i ks)) ws).0 + cond (f (slice_index ks i)) (get_or ws (slice_index ks i) (as_watts 0)).0 0
over_more f ws ks i real = ap (λ js. (weight_over js ws).0) (filter_more f ks i 0 real) ∙ both (f (slice_index ks i))
  where
    both : (b : Bool) → (weight_over (filter f (take i ks) ++ cond b (slice_index ks i ∷ []) []) ws).0 ≡ (weight_over (filter f (take i ks)) ws).0 + cond b (get_or ws (slice_index ks i) (as_watts 0)).0 0
    both true = over_push (filter f (take i ks)) (slice_index ks i) ws
    both false = ap (λ js. (weight_over js ws).0) (append-nil (filter f (take i ks))) ∙ omega arith
