-- What is asked of a section that is to be added, and what adding answers and leaves.
use Rattle.std.specs.Prelude.{◌≡◌, ℕ, ◌+◌, ◌<◌, Bool, true, false, ◌&&◌, List, [], ◌∷◌, length, Ok, Err, Result, nat_le, nat_lt}
use Rattle.rules.specs.Grids.{Meaning, gauges_of, extended, rising_ground}
use Rattle.rules.specs.LegGrids.{limit_room}
use Rattle.rules.specs.Questions.{Answer, Asked, asked, answered, first_no, answer_to}
use Rattle.rules.specs.declared.fault.Fault.{Fault}
use Rattle.rules.specs.declared.limit.Limit.{Limit}
use Rattle.arrayvec.specs.ArrayVec.{ArrayVec}
use Rattle.grid.specs.Sections.{over}
use Rattle.grid.specs.declared.question.GridQuestion.{GridQuestion}
use Rattle.grid.specs.declared.question.GridQuestion.TheVariants.{SectionCount, SectionGauges, SectionLimit}
use Rattle.grid.specs.declared.sections.SectionGrid.{SectionGrid}

abbrev pub one_to_sixteen : List ℕ → Bool
one_to_sixteen ks = nat_le 1 (length ks) && nat_le (length ks) 16

-- ground gauges in strictly rising order; the place is that of the first that is not ground or not above the one before it. The gauges stand from
-- place i on, and the first may not be below n
abbrev pub gauges_from : ℕ → ℕ → ℕ → List ℕ → Answer
gauges_from grounds n i [] = Ok tt
gauges_from grounds n i (k ∷ ks) = elim (nat_le n k && nat_lt k grounds) [ true ↦ gauges_from grounds (k + 1) (i + 1) ks | false ↦ Err i ]

-- where the count offends there is no place
abbrev pub gauges_answer : ℕ → List ℕ → Answer
gauges_answer grounds ks = elim (one_to_sixteen ks) [ true ↦ gauges_from grounds 0 1 ks | false ↦ Err 0 ]

-- a section over the gauges ks with this limit, above a grid that means m and has so many sections of its own
abbrev pub section_questions : ℕ → Meaning → List ℕ → ℕ → List (Asked GridQuestion)
section_questions sections m ks limit =
    asked SectionCount (answered (nat_lt sections 8 && nat_lt (gauges_of m) 256))
    ∷ (asked SectionGauges (gauges_answer m.grounds ks)
    ∷ (asked SectionLimit (answered (nat_le limit 100000))
    ∷ []))

-- a section that may be added, with its limit
pub record Addable {G : Type 0} (means : G → Meaning) (g : SectionGrid G) (ks : List ℕ) (limit : ℕ) (s : ArrayVec ℕ) (l : Limit) : Type 0 where
  pub gauges : s.items ≡ ks
  pub grounded : rising_ground (over means g).grounds ks ≡ true
  pub few : length g.sections.items < 8
  pub few_in_all : gauges_of (over means g) < 256
  pub limit_is : l.mw ≡ limit

-- one gauge more over ks, with the limit as its room, and one section more
pub record OneSectionMore {G : Type 0} (means : G → Meaning) (g h : SectionGrid G) (ks : List ℕ) (limit : ℕ) : Type 0 where
  pub gauge : over means h ≡ extended (over means g) (ks ∷ []) (limit_room limit ∷ [])
  pub sections : length h.sections.items ≡ length g.sections.items + 1

abbrev pub AddingLeaves : {G : Type 0} → (G → Meaning) → SectionGrid G → SectionGrid G → List ℕ → ℕ → Result ℕ (Fault GridQuestion) → Type 0
AddingLeaves means g h ks limit (Ok number) = OneSectionMore means g h ks limit
AddingLeaves means g h ks limit (Err fault) = h ≡ g

-- a section added to g, which is then h: the answer is the number of its gauge
pub record Adds {G : Type 0} (means : G → Meaning) (g h : SectionGrid G) (ks : List ℕ) (limit : ℕ) (r : Result ℕ (Fault GridQuestion)) : Type 0 where
  pub answers : r ≡ answer_to (first_no (section_questions (length g.sections.items) (over means g) ks limit)) (gauges_of (over means g))
  pub leaves : AddingLeaves means g h ks limit r
