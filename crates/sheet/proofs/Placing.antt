-- The place that a no on a path's legs names.
use Rattle.std.proofs.Common.{◌≡◌, ℕ, zero, suc, ◌+◌, ◌-◌, ◌≤◌, Bool, true, false, not, eqb, ltb, ◌⊎◌, List, [], ◌∷◌, ◌++◌, take, Ok, Err, sym, refl, ap, ◌∙◌, inl, inr, append_assoc, append-nil, arith}
use Rattle.std.proofs.lemmas.Bool.{and_parts, and_from, and_cases, and_left, and_right, or_cases, or_left, or_right, not_from_true, eqb-true, eq-eqb, cases_Bool, both_ways, true≢false, false≢true}
use Rattle.rules.specs.Lists.{has}
use Rattle.rules.specs.Network.{DrawnLeg, leg_at, start_of, ends_of, chained_from, chained, no_twice, one_to_eight, all_entered}
use Rattle.rules.specs.QuestionLaws.{FailsFirst, FailsAt}
use Rattle.rules.specs.Questions.{Answer}
use Rattle.rules.proofs.Asking.{Next, never, stops_or_goes, each_no, all_each, fails_at, next_of}
use Rattle.sheet.specs.Asks.{legs_answer, chain_from, chain_answer, nodes_from, nodes_answer}
use Rattle.sheet.specs.AskLaws.{meets_once, PlacesStand}
use Rattle.sheet.proofs.Chaining.{legs_counted, chain_more, chain_ends, nodes_more, nodes_end}
use Rattle.sheet.proofs.Passing.{legs_pass, chain_pass, nodes_pass, no_twice_push}

-- a test that is put from where the legs start; no legs pass it
module _ (ls : List DrawnLeg) (test : ℕ → List ℕ → Bool) (none : (m : ℕ) → test m [] ≡ true) where
  from_start : (ks : List ℕ) (j : ℕ) → Next (test (start_of ls ks)) ks j → Next (λ js. test (start_of ls js) js) ks j
  from_start [] j n = absurd (omega (arith, n.inside))
  from_start (k ∷ ks) zero n = record { inside = n.inside; before = none 0; here = n.here }
  from_start (k ∷ ks) (suc j) n = record { inside = n.inside; before = n.before; here = n.here }

  at_start : (ks : List ℕ) (j : ℕ) → Next (λ js. test (start_of ls js) js) ks j → Next (test (start_of ls ks)) ks j
  at_start [] j n = absurd (omega (arith, n.inside))
  at_start (k ∷ ks) zero n = record { inside = n.inside; before = none (leg_at ls k).from; here = n.here }
  at_start (k ∷ ks) (suc j) n = record { inside = n.inside; before = n.before; here = n.here }

-- the legs, each of them entered
module _ (n : ℕ) (ks : List ℕ) where
  legs_fine : one_to_eight ks ≡ true → all_entered n ks ≡ true → legs_answer n ks ≡ Ok tt
  legs_fine o e = legs_counted n ks o ∙ all_each (λ k. ltb k n) 1 ks e

  legs_count : one_to_eight ks ≡ false → legs_answer n ks ≡ Err 0
  legs_count o = rw (o, legs_answer)

  legs_no : (p : ℕ) → one_to_eight ks ≡ true → legs_answer n ks ≡ Err p → (1 ≤ p) × FailsFirst (λ k. ltb k n) ks (p - 1)
  legs_no p o h = each_no (λ k. ltb k n) 1 ks p (sym (legs_counted n ks o) ∙ h)

-- the chain, after a leg that ended at n, from place i on
module _ (ls : List DrawnLeg) where
  chain_fine : (n i : ℕ) (ks : List ℕ) → chained_from ls n ks ≡ true → chain_from ls n i ks ≡ Ok tt
  chain_fine n i [] h = refl
  chain_fine n i (k ∷ ks) h =
      let p = and_parts (eqb (leg_at ls k).from n) _ h in
      chain_more ls n i k ks p.0 ∙ chain_fine (leg_at ls k).to (i + 1) ks p.1

  chain_finds : (n i : ℕ) (ks : List ℕ) (p : ℕ) → chain_from ls n i ks ≡ Err p → (j : ℕ) × ((p ≡ i + j) × Next (chained_from ls n) ks j)
  chain_finds n i [] p h = absurd (never (sym h))
  chain_finds n i (k ∷ ks) p h =
      elim (stops_or_goes (eqb (leg_at ls k).from n) i (chain_from ls (leg_at ls k).to (i + 1) ks) p h) [
        | inl s ↦ (0, (omega (arith, s.1), record { inside = omega arith; before = refl; here = and_left _ _ s.0 }))
        | inr g ↦
            let r = chain_finds (leg_at ls k).to (i + 1) ks p g.1 in
            let next = r.1.1 in
            (suc r.0, (omega (arith, r.1.0), record { inside = omega (arith, next.inside); before = and_from _ _ g.0 next.before; here = and_right _ _ next.here }))
      ]

  chain_points : (n i : ℕ) (ks : List ℕ) (j : ℕ) → Next (chained_from ls n) ks j → chain_from ls n i ks ≡ Err (i + j)
  chain_points n i [] j x = absurd (omega (arith, x.inside))
  chain_points n i (k ∷ ks) zero x =
      let e : i ≡ i + 0 = omega arith in
      elim (and_cases (eqb (leg_at ls k).from n) true x.here) [
        | inl h ↦ chain_ends ls n i k ks h ∙ ap Err e
        | inr h ↦ absurd (true≢false h)
      ]
  chain_points n i (k ∷ ks) (suc j) x =
      let e : i + 1 + j ≡ i + suc j = omega arith in
      let b = and_parts (eqb (leg_at ls k).from n) _ x.before in
      elim (and_cases (eqb (leg_at ls k).from n) _ x.here) [
        | inl h ↦ absurd (both_ways _ h b.0)
        | inr h ↦ chain_more ls n i k ks b.0 ∙ chain_points (leg_at ls k).to (i + 1) ks j (record { inside = omega (arith, x.inside); before = b.1; here = h }) ∙ ap Err e
      ]

  chain_no : (ks : List ℕ) (p : ℕ) → chain_answer ls ks ≡ Err p → FailsAt (chained ls) ks p
  chain_no ks p h =
      let r = chain_finds (start_of ls ks) 1 ks p h in
      fails_at (chained ls) ks r.0 p r.1.0 (from_start ls (chained_from ls) (λ m. refl) ks r.0 r.1.1)

  chain_no_from : (ks : List ℕ) (p : ℕ) → FailsAt (chained ls) ks p → chain_answer ls ks ≡ Err p
  chain_no_from ks p f =
      let e : 1 + (p - 1) ≡ p = omega (arith, f.some) in
      chain_points (start_of ls ks) 1 ks (p - 1) (at_start ls (chained_from ls) (λ m. refl) ks (p - 1) (next_of (chained ls) ks p f)) ∙ ap Err e

-- a number that stands in a list, and once more after it
has_in : (x : ℕ) (ms ys : List ℕ) → has x (ms ++ (x ∷ ys)) ≡ true
has_in x [] ys = or_left _ _ (eq-eqb x x refl)
has_in x (m ∷ ms) ys = or_right (eqb m x) _ (has_in x ms ys)

twice : (x : ℕ) (ms ys : List ℕ) → has x ms ≡ true → no_twice (ms ++ (x ∷ ys)) ≡ false
twice x [] ys h = absurd (false≢true h)
twice x (m ∷ ms) ys h =
    elim (or_cases (eqb m x) (has x ms) h) [
      | inl e ↦ and_left _ _ (not_from_true _ (ap (λ n. has n (ms ++ (x ∷ ys))) (eqb-true m x e) ∙ has_in x ms ys))
      | inr r ↦ and_right (not (has m (ms ++ (x ∷ ys)))) _ (twice x ms ys r)
    ]

-- a test whose yes ends the question
ends_or_goes : (b : Bool) (i : ℕ) (a : Answer) (p : ℕ) → ◌≡◌ {A = Answer} (elim b [ true ↦ Err i | false ↦ a ]) (Err p) → ((b ≡ true) × (i ≡ p)) ⊎ ((b ≡ false) × (a ≡ Err p))
ends_or_goes true i a p h = inl (refl, cc)
ends_or_goes false i a p h = inr (refl, h)

-- the nodes met, after those in met, from place i on
module _ (ls : List DrawnLeg) where
  abbrev once_after : List ℕ → List ℕ → Bool
  once_after met ks = no_twice (met ++ ends_of ls ks)

  -- one node more among those met
  met_more : (met ks : List ℕ) (to : ℕ) → no_twice (met ++ (to ∷ ends_of ls ks)) ≡ once_after (met ++ (to ∷ [])) ks
  met_more met ks to = ap no_twice (sym (append_assoc met (to ∷ []) (ends_of ls ks)))

  nodes_fine : (met : List ℕ) (i : ℕ) (ks : List ℕ) → once_after met ks ≡ true → nodes_from ls met i ks ≡ Ok tt
  nodes_fine met i [] h = refl
  nodes_fine met i (k ∷ ks) h =
      let to = (leg_at ls k).to in
      elim (cases_Bool (has to met)) [
        | inl t ↦ absurd (both_ways _ (twice to met (ends_of ls ks) t) h)
        | inr f ↦ nodes_more ls met i k ks f ∙ nodes_fine (met ++ (to ∷ [])) (i + 1) ks (sym (met_more met ks to) ∙ h)
      ]

  nodes_finds : (met : List ℕ) (i : ℕ) (ks : List ℕ) (p : ℕ) → no_twice met ≡ true → nodes_from ls met i ks ≡ Err p → (j : ℕ) × ((p ≡ i + j) × Next (once_after met) ks j)
  nodes_finds met i [] p t h = absurd (never (sym h))
  nodes_finds met i (k ∷ ks) p t h =
      let to = (leg_at ls k).to in
      elim (ends_or_goes (has to met) i (nodes_from ls (met ++ (to ∷ [])) (i + 1) ks) p h) [
        | inl s ↦ (0, (omega (arith, s.1), record { inside = omega arith; before = ap no_twice (append-nil met) ∙ t; here = twice to met [] s.0 }))
        | inr g ↦
            let r = nodes_finds (met ++ (to ∷ [])) (i + 1) ks p (no_twice_push met to t g.0) g.1 in
            let next = r.1.1 in (
              suc r.0,
              (
                omega (arith, r.1.0),
                record {
                  inside = omega (arith, next.inside);
                  before = met_more met (take r.0 ks) to ∙ next.before;
                  here = met_more met (take (suc r.0) ks) to ∙ next.here;
                },
              ),
            )
      ]

  nodes_points : (met : List ℕ) (i : ℕ) (ks : List ℕ) (j : ℕ) → Next (once_after met) ks j → nodes_from ls met i ks ≡ Err (i + j)
  nodes_points met i [] j x = absurd (omega (arith, x.inside))
  nodes_points met i (k ∷ ks) zero x =
      let to = (leg_at ls k).to in
      let e : i ≡ i + 0 = omega arith in
      elim (cases_Bool (has to met)) [
        | inl t ↦ nodes_end ls met i k ks t ∙ ap Err e
        | inr f ↦ absurd (both_ways _ x.here (no_twice_push met to (ap no_twice (sym (append-nil met)) ∙ x.before) f))
      ]
  nodes_points met i (k ∷ ks) (suc j) x =
      let to = (leg_at ls k).to in
      let e : i + 1 + j ≡ i + suc j = omega arith in
      elim (cases_Bool (has to met)) [
        | inl t ↦ absurd (both_ways _ (twice to met (ends_of ls (take j ks)) t) x.before)
        | inr f ↦
            nodes_more ls met i k ks f
            ∙ nodes_points (met ++ (to ∷ [])) (i + 1) ks j (record {
              inside = omega (arith, x.inside);
              before = sym (met_more met (take j ks) to) ∙ x.before;
              here = sym (met_more met (take (suc j) ks) to) ∙ x.here;
            })
            ∙ ap Err e
      ]

  abbrev once_from : ℕ → List ℕ → Bool
  once_from m ks = no_twice (m ∷ ends_of ls ks)

  nodes_no : (ks : List ℕ) (p : ℕ) → nodes_answer ls ks ≡ Err p → FailsAt (meets_once ls) ks p
  nodes_no ks p h =
      let r = nodes_finds (start_of ls ks ∷ []) 1 ks p refl h in
      fails_at (meets_once ls) ks r.0 p r.1.0 (from_start ls once_from (λ m. refl) ks r.0 r.1.1)

  nodes_no_from : (ks : List ℕ) (p : ℕ) → FailsAt (meets_once ls) ks p → nodes_answer ls ks ≡ Err p
  nodes_no_from ks p f =
      let e : 1 + (p - 1) ≡ p = omega (arith, f.some) in
      nodes_points (start_of ls ks ∷ []) 1 ks (p - 1) (at_start ls once_from (λ m. refl) ks (p - 1) (next_of (meets_once ls) ks p f)) ∙ ap Err e

pub places_stand_lem : PlacesStand
places_stand_lem = record {
  legs_yes = legs_pass;
  legs_yes_from = legs_fine;
  legs_count = legs_count;
  legs_no = legs_no;
  chain_yes = chain_pass;
  chain_yes_from = λ ls ks. chain_fine ls (start_of ls ks) 1 ks;
  chain_no = chain_no;
  chain_no_from = chain_no_from;
  nodes_yes = nodes_pass;
  nodes_yes_from = λ ls ks. nodes_fine ls (start_of ls ks ∷ []) 1 ks;
  nodes_no = nodes_no;
  nodes_no_from = nodes_no_from;
}
