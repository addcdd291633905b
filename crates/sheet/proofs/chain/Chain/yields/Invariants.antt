use Rattle.std.proofs.Common.{◌≡◌, true, length}
use Rattle.rules.specs.Convert.{landed, yield_of}
use Rattle.rules.specs.Network.{all_entered, stretches}
use Rattle.sheet.specs.Views.{legs_of}
use Rattle.sheet.proofs.chain.Chain.yields.Given as goal

abbrev pub invariant-loop-left : goal.invariant-loop-left
invariant-loop-left l =
    (all_entered (length l.self.all.now) l.left ≡ true)
    × (landed l.landed.0 (stretches (legs_of l.self.all.now) l.left) ≡ yield_of (stretches (legs_of l.self.all.now) l.self.numbers.now))

abbrev pub decreases-loop-left : goal.decreases-loop-left
decreases-loop-left l = length l.left
