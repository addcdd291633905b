-- What a lawful meaning tells, what booking leaves of it, and gauges added above it.
use Rattle.std.proofs.Common.{◌≡◌, ℕ, ◌+◌, ◌-◌, ◌*◌, ◌<◌, ◌≤◌, true, ◌&&◌, ltb, leb, List, [], ◌∷◌, ◌++◌, map, length, get_or, take, sym, refl, ap, ◌∙◌, inl, inr, arith, length-append}
use lib.ListN.{length-map}
use Rattle.std.proofs.lemmas.List.{ext_get_or, get_or_append_left, get_or-append-add, get_or_past, get_or-map, take-append-le, map-append, append_assoc, append-nil}
use Rattle.std.proofs.lemmas.Bool.{and_parts, leb-true, cases_lt}
use Rattle.rules.specs.Lists.{all_of}
use Rattle.rules.specs.Grids.{Meaning, Lawful, gauges_of, paths_of, room_of, weight_of, weights_of, as_watts, sum_of, enough, lowered, has_room, booked, extended, weight_over, rising_from, rising_ground}
use Rattle.rules.specs.GridLaws.{NothingBeyond, Booking, MayAdd, Extension}
use Rattle.rules.proofs.Alls.{all_of_at}
use Rattle.rules.proofs.Gauges.{enough_from, enough_at, weight_over_same, rising_light, length-lowered, room_lowered, lowered-append, enough-append}
use Rattle.rules.specs.declared.power.Mw.{Mw}
use Rattle.rules.specs.declared.power.Watts.{Watts}

abbrev w0 : Watts
w0 = as_watts 0

abbrev figure : Watts → ℕ
figure w = w.0

-- the weights of a path that is not there
pub no_weights : (m : Meaning) (p : ℕ) → paths_of m ≤ p → weights_of m p ≡ []
no_weights m p past = get_or_past m.weights p [] past

pub beyond : (m : Meaning) → Lawful m → NothingBeyond m
beyond m law =
    record {
      rooms = λ k past. get_or_past m.rooms k w0 past;
      paths = λ p k past. ap (λ ws. get_or ws k w0) (no_weights m p past);
      weights = λ p k past. elim (cases_lt p (paths_of m)) [
        | inl real ↦ get_or_past (weights_of m p) k w0 (omega (arith, law.even p real))
        | inr none ↦ ap (λ ws. get_or ws k w0) (no_weights m p none)
      ];
    }

module _ (m : Meaning) (p : ℕ) (q : Mw) (law : Lawful m) where
  booked_enough : has_room m p q ≡ true → (k : ℕ) → q.0 * (weight_of m p k).0 ≤ (room_of m k).0
  booked_enough h k =
      elim (cases_lt k (gauges_of m)) [
        | inl real ↦ enough_at q m.rooms (weights_of m p) k h real
        | inr past ↦
            let z : (weight_of m p k).0 ≡ 0 = ap figure ((beyond m law).weights p k past) in
            rw z (omega arith)
      ]

  pub booking : Booking m p q
  booking =
      record {
        enough = booked_enough;
        enough_from = λ each. enough_from q m.rooms (weights_of m p) (λ k real. each k);
        rooms = λ k. room_lowered q m.rooms (weights_of m p) k;
        gauges = length-lowered q m.rooms (weights_of m p);
        lawful = record {
          few = omega (arith, length-lowered q m.rooms (weights_of m p), law.few);
          ground_first = omega (arith, length-lowered q m.rooms (weights_of m p), law.ground_first);
          roomy = λ k. omega (arith, ap figure (room_lowered q m.rooms (weights_of m p) k), law.roomy k);
          narrow = law.narrow;
          light = law.light;
          even = λ r real. law.even r real ∙ sym (length-lowered q m.rooms (weights_of m p));
        };
      }

-- a path's weights on gauges that are added
abbrev pub added_weights : List (List ℕ) → List Watts → List Watts
added_weights over ws = map (λ ks. weight_over ks ws) over

module _ (m : Meaning) (over : List (List ℕ)) (rs : List Watts) where
  pub known_weights : (p : ℕ) → p < paths_of m → weights_of (extended m over rs) p ≡ weights_of m p ++ added_weights over (weights_of m p)
  known_weights p real = get_or-map (λ ws. ws ++ added_weights over ws) m.weights p [] [] real

  pub as_many_paths : paths_of (extended m over rs) ≡ paths_of m
  as_many_paths = length-map m.weights (λ ws. ws ++ added_weights over ws)

  pub unknown_weights : (p : ℕ) → paths_of m ≤ p → weights_of (extended m over rs) p ≡ []
  unknown_weights p past = no_weights (extended m over rs) p (omega (arith, as_many_paths))

-- no gauges weigh anything for a path without weights
pub over_none : (ks : List ℕ) → weight_over ks [] ≡ w0
over_none [] = refl
over_none (k ∷ ks) = ap as_watts (omega (arith, ap figure (over_none ks)))

module _ (m : Meaning) (over : List (List ℕ)) (rs : List Watts) (law : Lawful m) (may : MayAdd m over rs) where
  abbrev all : Meaning
  all = extended m over rs

  gauges : gauges_of all ≡ gauges_of m + length rs
  gauges = length-append m.rooms rs

  rooms_below : (k : ℕ) → k < gauges_of m → room_of all k ≡ room_of m k
  rooms_below k real = get_or_append_left m.rooms rs w0 k real

  rooms_added : (i : ℕ) → room_of all (gauges_of m + i) ≡ get_or rs i w0
  rooms_added i = get_or-append-add m.rooms rs i w0

  weights_below : (p k : ℕ) → k < gauges_of m → weight_of all p k ≡ weight_of m p k
  weights_below p k low =
      elim (cases_lt p (paths_of m)) [
        | inl real ↦
            let l : k < length (weights_of m p) = omega (arith, law.even p real) in
            ap (λ ws. get_or ws k w0) (known_weights m over rs p real) ∙ get_or_append_left (weights_of m p) (added_weights over (weights_of m p)) w0 k l
        | inr past ↦ ap (λ ws. get_or ws k w0) (unknown_weights m over rs p past) ∙ sym (ap (λ ws. get_or ws k w0) (no_weights m p past))
      ]

  at_added : (p i : ℕ) → p < paths_of m → weight_of all p (gauges_of m + i) ≡ get_or (added_weights over (weights_of m p)) i w0
  at_added p i real =
      let e : length (weights_of m p) ≡ gauges_of m = law.even p real in
      ap (λ ws. get_or ws (gauges_of m + i) w0) (known_weights m over rs p real)
      ∙ ap (λ n. get_or (weights_of m p ++ added_weights over (weights_of m p)) (n + i) w0) (sym e)
      ∙ get_or-append-add (weights_of m p) (added_weights over (weights_of m p)) i w0

  weights_added : (p i : ℕ) → i < length over → weight_of all p (gauges_of m + i) ≡ weight_over (get_or over i []) (weights_of m p)
  weights_added p i real =
      elim (cases_lt p (paths_of m)) [
        | inl there ↦ at_added p i there ∙ get_or-map (λ ks. weight_over ks (weights_of m p)) over i [] w0 real
        | inr past ↦
            ap (λ ws. get_or ws (gauges_of m + i) w0) (unknown_weights m over rs p past)
            ∙ sym (ap (weight_over (get_or over i [])) (no_weights m p past) ∙ over_none (get_or over i []))
      ]

  -- an added gauge is as light as the ground
  added_light : (p i : ℕ) → i < length over → (weight_over (get_or over i []) (weights_of m p)).0 ≤ 8000000
  added_light p i real =
      let g = and_parts (rising_from 0 (get_or over i [])) _ (all_of_at (rising_ground m.grounds) over i [] may.grounded real) in
      omega (arith, rising_light m.grounds (get_or over i []) (weights_of m p) g.0 g.1, law.light p)

  past_added : (p k : ℕ) → gauges_of m + length over ≤ k → weight_of all p k ≡ w0
  past_added p k past =
      elim (cases_lt p (paths_of m)) [
        | inl real ↦
            let l : length (weights_of all p) ≤ k =
            omega (
              arith,
              ap length (known_weights m over rs p real),
              length-append (weights_of m p) (added_weights over (weights_of m p)),
              length-map over (λ ks. weight_over ks (weights_of m p)),
              law.even p real,
            ) in
            get_or_past (weights_of all p) k w0 l
        | inr none ↦ ap (λ ws. get_or ws k w0) (unknown_weights m over rs p none)
      ]

  narrow : (p k : ℕ) → (weight_of all p k).0 ≤ 8000000
  narrow p k =
      elim (cases_lt k (gauges_of m)) [
        | inl low ↦ omega (arith, ap figure (weights_below p k low), law.narrow p k)
        | inr past ↦
            let i : ℕ = k - gauges_of m in
            let e : gauges_of m + (k - gauges_of m) ≡ k = omega arith in
            elim (cases_lt (k - gauges_of m) (length over)) [
              | inl real ↦ omega (arith, ap figure (ap (λ n. weight_of all p n) (sym e) ∙ weights_added p (k - gauges_of m) real), added_light p (k - gauges_of m) real)
              | inr none ↦ omega (arith, ap figure (past_added p k (omega arith)))
            ]
      ]

  roomy : (k : ℕ) → (room_of all k).0 ≤ 100000000000
  roomy k =
      elim (cases_lt k (gauges_of m)) [
        | inl low ↦ omega (arith, ap figure (rooms_below k low), law.roomy k)
        | inr past ↦
            let e : gauges_of m + (k - gauges_of m) ≡ k = omega arith in
            let r : (room_of all k).0 ≡ (get_or rs (k - gauges_of m) w0).0 = ap figure (ap (room_of all) (sym e) ∙ rooms_added (k - gauges_of m)) in
            elim (cases_lt (k - gauges_of m) (length rs)) [
              | inl real ↦ omega (arith, r, leb-true (get_or rs (k - gauges_of m) w0).0 100000000000 (all_of_at (λ w. leb w.0 100000000000) rs (k - gauges_of m) w0 may.roomy real))
              | inr none ↦ omega (arith, r, ap figure (get_or_past rs (k - gauges_of m) w0 none))
            ]
      ]

  light : (p : ℕ) → sum_of (take m.grounds (weights_of all p)) ≤ 8000000
  light p =
      elim (cases_lt p (paths_of m)) [
        | inl real ↦
            let low : m.grounds ≤ length (weights_of m p) = omega (arith, law.even p real, law.ground_first) in
            let e : take m.grounds (weights_of all p) ≡ take m.grounds (weights_of m p) =
            ap (take m.grounds) (known_weights m over rs p real) ∙ take-append-le m.grounds (weights_of m p) (added_weights over (weights_of m p)) low in
            omega (arith, ap sum_of e, law.light p)
        | inr past ↦
            let e : weights_of all p ≡ weights_of m p = unknown_weights m over rs p past ∙ sym (no_weights m p past) in
            omega (arith, ap (λ ws. sum_of (take m.grounds ws)) e, law.light p)
      ]

  even : (p : ℕ) → p < paths_of all → length (weights_of all p) ≡ gauges_of all
  even p real =
      let there : p < paths_of m = omega (arith, as_many_paths m over rs) in
      omega (
        arith,
        ap length (known_weights m over rs p there),
        length-append (weights_of m p) (added_weights over (weights_of m p)),
        length-map over (λ ks. weight_over ks (weights_of m p)),
        law.even p there,
        gauges,
        may.as_many,
      )

  pub extension : Extension m over rs
  extension =
      record {
        lawful = record {
          few = omega (arith, gauges, may.few);
          ground_first = omega (arith, gauges, law.ground_first);
          roomy = roomy;
          narrow = narrow;
          light = light;
          even = even;
        };
        gauges = gauges;
        paths = as_many_paths m over rs;
        rooms_below = rooms_below;
        rooms_added = rooms_added;
        weights_below = weights_below;
        weights_added = weights_added;
      }

-- booking on a grid with gauges added above: every room is enough below and above, and both are lowered
module _ (m : Meaning) (over : List (List ℕ)) (rs : List Watts) (law : Lawful m) (p : ℕ) (real : p < paths_of m) (q : Mw) where
  pub room_above_lem : has_room (extended m over rs) p q ≡ has_room m p q && enough q rs (added_weights over (weights_of m p))
  room_above_lem =
      ap (enough q (m.rooms ++ rs)) (known_weights m over rs p real)
      ∙ enough-append q m.rooms (weights_of m p) rs (added_weights over (weights_of m p)) (law.even p real)

  pub booked_above : booked (extended m over rs) p q ≡ extended (booked m p q) over (lowered q rs (added_weights over (weights_of m p)))
  booked_above =
      ap (λ rooms. record { grounds = m.grounds; rooms = rooms; weights = (extended m over rs).weights })
      (ap (lowered q (m.rooms ++ rs)) (known_weights m over rs p real)
      ∙ lowered-append q m.rooms (weights_of m p) rs (added_weights over (weights_of m p)) (law.even p real))

-- nothing added
pub none_added : (m : Meaning) → extended m [] [] ≡ m
none_added m =
    ap (λ rooms. record { grounds = m.grounds; rooms = rooms; weights = (extended m [] []).weights }) (append-nil m.rooms)
    ∙ ap (λ weights. record { grounds = m.grounds; rooms = m.rooms; weights = weights }) (same m.weights)
  where
    same : (rows : List (List Watts)) → map (λ ws. ws ++ []) rows ≡ rows
    same [] = refl
    same (ws ∷ rows) = ap (λ x. x ∷ map (λ vs. vs ++ []) rows) (append-nil ws) ∙ ap (λ x. ws ∷ x) (same rows)

-- one gauge more above those that were added
module _ (m : Meaning) (over : List (List ℕ)) (rs : List Watts) (law : Lawful m) (ks : List ℕ) (room : Watts) (grounded : all_of (λ k. ltb k m.grounds) ks ≡ true) where
  abbrev before : Meaning
  before = extended m over rs

  abbrev after : Meaning
  after = extended m (over ++ (ks ∷ [])) (rs ++ (room ∷ []))

  same_weights : (p : ℕ) → p < paths_of after → weights_of after p ≡ weights_of (extended before (ks ∷ []) (room ∷ [])) p
  same_weights p real =
      let there : p < paths_of m = omega (arith, as_many_paths m (over ++ (ks ∷ [])) (rs ++ (room ∷ []))) in
      let ws : List Watts = weights_of m p in
      let vs : List Watts = added_weights over (weights_of m p) in
      let low : m.grounds ≤ length (weights_of m p) = omega (arith, law.even p there, law.ground_first) in
      let same : weight_over ks (weights_of m p) ≡ weight_over ks (weights_of m p ++ added_weights over (weights_of m p)) =
      weight_over_same m.grounds ks (weights_of m p) (weights_of m p ++ added_weights over (weights_of m p))
      (λ k less. sym (get_or_append_left (weights_of m p) (added_weights over (weights_of m p)) w0 k (omega arith))) grounded in
      known_weights m (over ++ (ks ∷ [])) (rs ++ (room ∷ [])) p there
      ∙ ap (λ us. weights_of m p ++ us) (map-append (λ is. weight_over is (weights_of m p)) over (ks ∷ []))
      ∙ sym (append_assoc (weights_of m p) (added_weights over (weights_of m p)) (weight_over ks (weights_of m p) ∷ []))
      ∙ ap (λ w. (weights_of m p ++ added_weights over (weights_of m p)) ++ (w ∷ [])) same
      ∙ sym (ap (λ us. us ++ (weight_over ks us ∷ [])) (known_weights m over rs p there))
      ∙ sym (known_weights before (ks ∷ []) (room ∷ []) p (omega (arith, as_many_paths m over rs)))

  pub one_more : after ≡ extended before (ks ∷ []) (room ∷ [])
  one_more =
      let long : paths_of after ≡ paths_of (extended before (ks ∷ []) (room ∷ [])) =
      omega (arith, as_many_paths m (over ++ (ks ∷ [])) (rs ++ (room ∷ [])), as_many_paths before (ks ∷ []) (room ∷ []), as_many_paths m over rs) in
      let weights : after.weights ≡ (extended before (ks ∷ []) (room ∷ [])).weights = ext_get_or [] after.weights (extended before (ks ∷ []) (room ∷ [])).weights long same_weights in
      ap (λ x. record { grounds = m.grounds; rooms = x; weights = after.weights }) (sym (append_assoc m.rooms rs (room ∷ [])))
      ∙ ap (λ x. record { grounds = m.grounds; rooms = (m.rooms ++ rs) ++ (room ∷ []); weights = x }) weights
