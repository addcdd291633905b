-- What a grid with sections means.
use Rattle.std.specs.Prelude.{◌≡◌, ℕ, ◌-◌, min, Bool, true, List, map, length, take, filter, nat_lt}
use Rattle.rules.specs.Grids.{Meaning, gauges_of, weights_of, enough, extended, weight_over}
use Rattle.rules.specs.declared.power.Mw.{Mw}
use Rattle.rules.specs.declared.power.Watts.{Watts}
use Rattle.arrayvec.specs.ArrayVec.{ArrayVec}
use Rattle.grid.specs.declared.sections.SectionGrid.{SectionGrid}

-- The type does not say that its sections fit the grid below it. So a gauge that is not ground there, and a section that would be the 257th gauge,
-- count for nothing; adding a section lets neither in, and no grid changes its counts.
abbrev pub ground_in : ℕ → ArrayVec ℕ → List ℕ
ground_in grounds s = filter (λ k. nat_lt k grounds) s.items

-- of so many sections, those up to 256 gauges in all
abbrev pub counted : ℕ → ℕ → ℕ
counted below count = min count (256 - below)

-- the first n sections above a grid that means m
abbrev pub overs : Meaning → List (ArrayVec ℕ) → ℕ → List (List ℕ)
overs m ss n = map (ground_in m.grounds) (take n ss)

-- they are gauges added above those of the grid
abbrev pub stacked : Meaning → List (ArrayVec ℕ) → List Watts → ℕ → Meaning
stacked m ss rs n = extended m (overs m ss n) (take n rs)

-- how many sections of a grid count
abbrev pub here : {G : Type 0} → (G → Meaning) → SectionGrid G → ℕ
here means g = counted (gauges_of (means g.below)) (length g.sections.items)

-- what a grid with sections means, where `means` tells what those below mean
abbrev pub over : {G : Type 0} → (G → Meaning) → SectionGrid G → Meaning
over means g = stacked (means g.below) g.sections.items g.rooms.items (here means g)

-- what a path weighs on each section
abbrev pub section_weights : Meaning → List (ArrayVec ℕ) → ℕ → List Watts
section_weights m ss p = map (λ s. weight_over (ground_in m.grounds s) (weights_of m p)) ss

-- whether each section that counts has room for q MW on a path
abbrev pub sections_fit : {G : Type 0} → (G → Meaning) → SectionGrid G → ℕ → Mw → Bool
sections_fit means g p q = enough q (take (here means g) g.rooms.items) (take (here means g) (section_weights (means g.below) g.sections.items p))

-- the weights of path p on each section, where every section that counts has room for q MW on it
pub record FittingWeights {G : Type 0} (means : G → Meaning) (g : SectionGrid G) (p : ℕ) (q : Mw) (ws : ArrayVec Watts) : Type 0 where
  pub weights : ws.items ≡ section_weights (means g.below) g.sections.items p
  pub fit : sections_fit means g p q ≡ true
