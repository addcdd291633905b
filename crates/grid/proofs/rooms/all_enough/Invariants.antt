use Rattle.std.proofs.Common.{ℕ, ◌*◌, ◌<◌, ◌≤◌, length, get_or}
use Rattle.rules.specs.Grids.{as_watts}
use Rattle.grid.proofs.rooms.all_enough.Given as goal

abbrev pub invariant-loop-room : goal.invariant-loop-room
invariant-loop-room l = (k : ℕ) → k < length l.yielded → l.mw.0 * (get_or l.weights k (as_watts 0)).0 ≤ (get_or l.rooms k (as_watts 0)).0
