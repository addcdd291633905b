use Rattle.std.proofs.Common.{◌≡◌, ◌+◌, ◌∷◌, length, drop}
use Rattle.sheet.specs.Asks.{nodes_from, nodes_answer}
use Rattle.sheet.specs.Views.{legs_of}
use Rattle.sheet.proofs.chain.Chain.nodes_once.Given as goal

abbrev pub invariant-loop-i : goal.invariant-loop-i
invariant-loop-i l =
    (length l.ends.items ≡ l.i)
    × (nodes_from (legs_of l.self.all.now) (l.origin ∷ l.ends.items) (l.i + 1) (drop l.i l.self.numbers.now) ≡ nodes_answer (legs_of l.self.all.now) l.self.numbers.now)
