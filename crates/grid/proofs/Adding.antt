-- A section's gauges, asked one by one, and one section more.
use Rattle.std.proofs.Common.{◌≡◌, ℕ, zero, suc, ◌+◌, ◌-◌, ◌<◌, ◌≤◌, Bool, true, false, ◌&&◌, ltb, leb, List, [], ◌∷◌, ◌++◌, map, length, take, None, Ok, Err, filter, sym, refl, ap, ◌∙◌, inl, inr, arith}
use Rattle.std.proofs.lemmas.List.{map_push, length_push, take_all}
use Rattle.std.proofs.lemmas.Bool.{and_parts, and_from, and_right, le-leb, lt-ltb, cases_Bool, both_ways}
use Rattle.rules.specs.Grids.{Meaning, Lawful, gauges_of, extended, rising_from, rising_ground}
use Rattle.rules.specs.LegGrids.{limit_room}
use Rattle.rules.specs.Lists.{all_of}
use Rattle.rules.specs.Questions.{Asked, asked, answered, first_no}
use Rattle.rules.specs.declared.power.Watts.{Watts}
use Rattle.rules.proofs.Asking.{passes, stops_or_goes, never, asks_on, Next, fails_at, next_of}
use Rattle.rules.proofs.Meanings.{none_added, one_more}
use Rattle.arrayvec.specs.ArrayVec.{ArrayVec}
use Rattle.rules.specs.declared.limit.Limit.{Limit}
use Rattle.grid.specs.SectionAsks.{one_to_sixteen, gauges_from, gauges_answer, section_questions, Addable}
use Rattle.grid.specs.SectionLaws.{SectionsStand}
use Rattle.grid.specs.Sections.{ground_in, counted, overs, stacked, here, over}
use Rattle.grid.specs.declared.question.GridQuestion.{GridQuestion}
use Rattle.grid.specs.declared.question.GridQuestion.TheVariants.{SectionCount, SectionGauges, SectionLimit}
use Rattle.grid.specs.declared.sections.SectionGrid.{SectionGrid}
use Rattle.grid.specs.Stacks.{in_all_of}

-- the gauges from one on, where it may stand and where it may not
module _ (grounds n i k : ℕ) (ks : List ℕ) where
  first_stands : (leb n k && ltb k grounds) ≡ true → gauges_from grounds n i (k ∷ ks) ≡ gauges_from grounds (k + 1) (i + 1) ks
  first_stands e = ap (λ b. elim b [ true ↦ gauges_from grounds (k + 1) (i + 1) ks | false ↦ Err i ]) e

  first_falls : (leb n k && ltb k grounds) ≡ false → gauges_from grounds n i (k ∷ ks) ≡ Err i
  first_falls e = ap (λ b. elim b [ true ↦ gauges_from grounds (k + 1) (i + 1) ks | false ↦ Err i ]) e

-- strictly rising ground gauges, none below n
abbrev fine : ℕ → ℕ → List ℕ → Bool
fine grounds n ks = rising_from n ks && all_of (λ k. ltb k grounds) ks

together : (a b r s : Bool) → (a && b) ≡ true → ((a && r) && (b && s)) ≡ (r && s)
together true true r s h = refl
together true false r s h = absurd (both_ways false refl h)
together false b r s h = absurd (both_ways false refl h)

apart : (a b r s : Bool) → (a && b) ≡ false → ((a && r) && (b && s)) ≡ false
apart true true r s h = absurd (both_ways true h refl)
apart true false r s h = and_right r false refl
apart false b r s h = refl

first_fine : (grounds n k : ℕ) (ks : List ℕ) → (leb n k && ltb k grounds) ≡ true → fine grounds n (k ∷ ks) ≡ fine grounds (k + 1) ks
first_fine grounds n k ks h = together (leb n k) (ltb k grounds) (rising_from (k + 1) ks) (all_of (λ j. ltb j grounds) ks) h

all_fine : (grounds n i : ℕ) (ks : List ℕ) → gauges_from grounds n i ks ≡ Ok tt → fine grounds n ks ≡ true
all_fine grounds n i [] h = refl
all_fine grounds n i (k ∷ ks) h =
    let p = passes (leb n k && ltb k grounds) i (gauges_from grounds (k + 1) (i + 1) ks) h in
    first_fine grounds n k ks p.0 ∙ all_fine grounds (k + 1) (i + 1) ks p.1

fine_all : (grounds n i : ℕ) (ks : List ℕ) → fine grounds n ks ≡ true → gauges_from grounds n i ks ≡ Ok tt
fine_all grounds n i [] h = refl
fine_all grounds n i (k ∷ ks) h =
    elim (cases_Bool (leb n k && ltb k grounds)) [
      | inl e ↦ first_stands grounds n i k ks e ∙ fine_all grounds (k + 1) (i + 1) ks (sym (first_fine grounds n k ks e) ∙ h)
      | inr e ↦ absurd (both_ways (fine grounds n (k ∷ ks)) (apart (leb n k) (ltb k grounds) _ _ e) h)
    ]

-- a no names the first gauge with which they are no longer fine
no_at : (grounds n i : ℕ) (ks : List ℕ) (p : ℕ) → gauges_from grounds n i ks ≡ Err p → (j : ℕ) × (p ≡ i + j) × Next (fine grounds n) ks j
no_at grounds n i [] p h = absurd (never (sym h))
no_at grounds n i (k ∷ ks) p h =
    elim (stops_or_goes (leb n k && ltb k grounds) i (gauges_from grounds (k + 1) (i + 1) ks) p h) [
      | inl s ↦ (zero, omega (arith, s.1), record { inside = omega arith; before = refl; here = apart (leb n k) (ltb k grounds) true true s.0 })
      | inr s ↦
          let r = no_at grounds (k + 1) (i + 1) ks p s.1 in (
            suc r.0,
            omega (arith, r.1),
            record {
              inside = omega (arith, r.2.inside);
              before = first_fine grounds n k (take r.0 ks) s.0 ∙ r.2.before;
              here = first_fine grounds n k (take (suc r.0) ks) s.0 ∙ r.2.here;
            },
          )
    ]

at_no : (grounds n i : ℕ) (ks : List ℕ) (j : ℕ) → Next (fine grounds n) ks j → gauges_from grounds n i ks ≡ Err (i + j)
at_no grounds n i [] j f = absurd (omega (arith, f.inside))
at_no grounds n i (k ∷ ks) zero f =
    elim (cases_Bool (leb n k && ltb k grounds)) [
      | inl e ↦ absurd (both_ways (fine grounds n (k ∷ [])) f.here (first_fine grounds n k [] e))
      | inr e ↦ first_falls grounds n i k ks e ∙ ap Err (omega arith)
    ]
at_no grounds n i (k ∷ ks) (suc j) f =
    elim (cases_Bool (leb n k && ltb k grounds)) [
      | inl e ↦
          let more = at_no grounds (k + 1) (i + 1) ks j (record { inside = omega (arith, f.inside); before = sym (first_fine grounds n k (take j ks) e) ∙ f.before; here = sym (first_fine grounds n k (take (suc j) ks) e) ∙ f.here }) in
          first_stands grounds n i k ks e ∙ more ∙ ap Err (omega arith)
      | inr e ↦ absurd (both_ways (fine grounds n (k ∷ take j ks)) (apart (leb n k) (ltb k grounds) _ _ e) f.before)
    ]

-- with the question on the count
pub counted_in : (grounds : ℕ) (ks : List ℕ) → one_to_sixteen ks ≡ true → gauges_answer grounds ks ≡ gauges_from grounds 0 1 ks
counted_in grounds ks h = ap (λ b. elim b [ true ↦ gauges_from grounds 0 1 ks | false ↦ Err 0 ]) h

pub counted_out : (grounds : ℕ) (ks : List ℕ) → one_to_sixteen ks ≡ false → gauges_answer grounds ks ≡ Err 0
counted_out grounds ks h = ap (λ b. elim b [ true ↦ gauges_from grounds 0 1 ks | false ↦ Err 0 ]) h

pub gauges_yes : (grounds : ℕ) (ks : List ℕ) → gauges_answer grounds ks ≡ Ok tt → (one_to_sixteen ks ≡ true) × (rising_ground grounds ks ≡ true)
gauges_yes grounds ks h = let p = passes (one_to_sixteen ks) 0 (gauges_from grounds 0 1 ks) h in (p.0, all_fine grounds 0 1 ks p.1)

-- a section that passes its questions
pub passes_all : (n : ℕ) (m : Meaning) (ks : List ℕ) (limit : ℕ) → n < 8 → gauges_of m < 256 → gauges_answer m.grounds ks ≡ Ok tt → limit ≤ 100000
    → first_no (section_questions n m ks limit) ≡ None
passes_all n m ks limit few few_in_all gauges within =
    let last : List (Asked GridQuestion) = asked SectionLimit (answered (leb limit 100000)) ∷ [] in
    asks_on SectionCount _ (asked SectionGauges (gauges_answer m.grounds ks) ∷ last) (ap answered (and_from (ltb n 8) (ltb (gauges_of m) 256) (lt-ltb n 8 few) (lt-ltb (gauges_of m) 256 few_in_all)))
    ∙ asks_on SectionGauges _ last gauges
    ∙ asks_on SectionLimit _ [] (ap answered (le-leb limit 100000 within))

pub sections_stand_lem : SectionsStand
sections_stand_lem =
    record {
      yes = gauges_yes;
      yes_from = λ grounds ks some h. counted_in grounds ks some ∙ fine_all grounds 0 1 ks h;
      count = counted_out;
      no = λ grounds ks p some h.
          let r = no_at grounds 0 1 ks p (sym (counted_in grounds ks some) ∙ h) in
          fails_at (rising_ground grounds) ks r.0 p r.1 r.2;
      no_from = λ grounds ks p some f.
          counted_in grounds ks some ∙ at_no grounds 0 1 ks (p - 1) (next_of (rising_ground grounds) ks p f) ∙ ap Err (omega (arith, f.some));
    }

-- gauges that are all ground are all kept
kept_all : (f : ℕ → Bool) (ks : List ℕ) → all_of f ks ≡ true → filter f ks ≡ ks
kept_all f [] h = refl
kept_all f (k ∷ ks) h =
    let p = and_parts (f k) _ h in
    rw p.0 (ap (λ js. k ∷ js) (kept_all f ks p.1))

-- one section more
module _ {G : Type 0} (means : G → Meaning) (g : SectionGrid G) (law : Lawful (means g.below)) (ks : List ℕ) (limit : ℕ) (s : ArrayVec ℕ) (l : Limit) (add : Addable means g ks limit s l) where
  abbrev under : Meaning
  under = means g.below

  abbrev count : ℕ
  count = length g.sections.items

  abbrev more_sections : List (ArrayVec ℕ)
  more_sections = g.sections.items ++ (s ∷ [])

  abbrev more_rooms : List Watts
  more_rooms = g.rooms.items ++ (limit_room limit ∷ [])

  one_longer : length more_sections ≡ count + 1
  one_longer = length_push g.sections.items s

  all_count : here means g ≡ count
  all_count = omega (arith, add.few_in_all, in_all_of means g law, law.few)

  one_counts : counted (gauges_of under) (length more_sections) ≡ length more_sections
  one_counts = omega (arith, one_longer, add.few_in_all, in_all_of means g law, all_count)

  ground_only : ground_in under.grounds s ≡ ks
  ground_only = ap (filter (λ k. ltb k under.grounds)) add.gauges ∙ kept_all (λ k. ltb k under.grounds) ks (and_parts (rising_from 0 ks) _ add.grounded).1

  sections_are : overs under more_sections (length more_sections) ≡ overs under g.sections.items count ++ (ks ∷ [])
  sections_are =
      ap (map (ground_in under.grounds)) (take_all (length more_sections) more_sections (omega arith))
      ∙ map_push (ground_in under.grounds) g.sections.items s
      ∙ ap (λ os. os ++ (ground_in under.grounds s ∷ [])) (ap (map (ground_in under.grounds)) (sym (take_all count g.sections.items (omega arith))))
      ∙ ap (λ js. overs under g.sections.items count ++ (js ∷ [])) ground_only

  rooms_are : take (length more_sections) more_rooms ≡ take count g.rooms.items ++ (limit_room limit ∷ [])
  rooms_are =
      take_all (length more_sections) more_rooms (omega (arith, length_push g.rooms.items (limit_room limit), one_longer, g.as_many))
      ∙ ap (λ rs. rs ++ (limit_room limit ∷ [])) (sym (take_all count g.rooms.items (omega (arith, g.as_many))))

  pub one_section : stacked under more_sections more_rooms (counted (gauges_of under) (length more_sections)) ≡ extended (over means g) (ks ∷ []) (limit_room limit ∷ [])
  one_section =
      ap (stacked under more_sections more_rooms) one_counts
      ∙ ap (λ os. extended under os (take (length more_sections) more_rooms)) sections_are
      ∙ ap (extended under (overs under g.sections.items count ++ (ks ∷ []))) rooms_are
      ∙ one_more under (overs under g.sections.items count) (take count g.rooms.items) law ks (limit_room limit) (and_parts (rising_from 0 ks) _ add.grounded).1
      ∙ ap (λ n. extended (stacked under g.sections.items g.rooms.items n) (ks ∷ []) (limit_room limit ∷ [])) (sym all_count)

-- a grid without sections
pub no_sections : (m : Meaning) (ss : List (ArrayVec ℕ)) (rs : List Watts) → ss ≡ [] → stacked m ss rs (counted (gauges_of m) (length ss)) ≡ m
no_sections m ss rs sections =
    let none : counted (gauges_of m) (length ss) ≡ 0 = omega (arith, ap length sections) in
    ap (stacked m ss rs) none ∙ none_added m
