use Rattle.std.proofs.Common.{◌≡◌, ◌+◌, ◌-◌, ◌≤◌, true, length}
use Rattle.rules.specs.Network.{all_entered}
use Rattle.sheet.specs.Asks.{chain_from, chain_answer}
use Rattle.sheet.specs.Views.{legs_of}
use Rattle.sheet.proofs.chain.Chain.linked.Given as goal

abbrev pub invariant-loop-left : goal.invariant-loop-left
invariant-loop-left l =
    (all_entered (length l.self.all.now) l.left ≡ true)
    × (length l.left ≤ length l.self.numbers.now)
    × (chain_from (legs_of l.self.all.now) l.node (length l.self.numbers.now - length l.left + 1) l.left ≡ chain_answer (legs_of l.self.all.now) l.self.numbers.now)

abbrev pub decreases-loop-left : goal.decreases-loop-left
decreases-loop-left l = length l.left
