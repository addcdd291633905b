use Rattle.std.proofs.Common.{◌≡◌, ◌+◌, ◌*◌, ◌≤◌, true, length}
use Rattle.rules.specs.Convert.{charged, charge_of}
use Rattle.rules.specs.Network.{all_entered, stretches}
use Rattle.sheet.specs.Views.{legs_of}
use Rattle.sheet.proofs.chain.Chain.charge.Given as goal

abbrev pub invariant-loop-left : goal.invariant-loop-left
invariant-loop-left l =
    (all_entered (length l.self.all.now) l.left ≡ true)
    × (l.entering.0 ≤ 1000000)
    × (l.billionths + length l.left * 1000000000000 ≤ length l.self.numbers.now * 1000000000000)
    × (l.billionths + charged l.entering.0 (stretches (legs_of l.self.all.now) l.left) ≡ charge_of (stretches (legs_of l.self.all.now) l.self.numbers.now))

abbrev pub decreases-loop-left : goal.decreases-loop-left
decreases-loop-left l = length l.left
