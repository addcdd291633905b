use Rattle.std.proofs.Common.{◌≡◌, ℕ, ◌-◌, ◌*◌, ◌<◌, ◌≤◌, get_or}
use Rattle.rules.specs.Grids.{as_watts}
use Rattle.grid.proofs.rooms.lower.Given as goal

-- the rooms behind are lowered, and those ahead are as they were
abbrev pub invariant-loop-gauge : goal.invariant-loop-gauge
invariant-loop-gauge l =
    ((k : ℕ) → k < l.gauge → get_or l.rooms k (as_watts 0) ≡ as_watts ((get_or l.initial.rooms k (as_watts 0)).0 - l.mw.0 * (get_or l.weights k (as_watts 0)).0))
    × ((k : ℕ) → l.gauge ≤ k → get_or l.rooms k (as_watts 0) ≡ get_or l.initial.rooms k (as_watts 0))
