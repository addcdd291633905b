use Rattle.std.proofs.Common.{◌≡◌, ◌++◌, map, take, drop}
use Rattle.rules.specs.Convert.{entering, leaving, one_mw}
use Rattle.rules.specs.Network.{stretches}
use Rattle.sheet.specs.Places.{laid}
use Rattle.sheet.specs.Views.{legs_of}
use Rattle.sheet.proofs.chain.Chain.passages.Given as goal

abbrev pub invariant-loop-number : goal.invariant-loop-number
invariant-loop-number l =
    (l.passages.count ≡ l.number-index)
    × (map (λ x. x.leg) (laid l.passages) ≡ take l.number-index l.self.numbers.now)
    × (map (λ x. x.enters.0) (laid l.passages) ++ entering l.enters.0 (stretches (legs_of l.self.all.now) (drop l.number-index l.self.numbers.now)) ≡ entering one_mw (stretches (legs_of l.self.all.now) l.self.numbers.now))
    × (map (λ x. x.leaves.0) (laid l.passages) ++ leaving l.enters.0 (stretches (legs_of l.self.all.now) (drop l.number-index l.self.numbers.now)) ≡ leaving one_mw (stretches (legs_of l.self.all.now) l.self.numbers.now))
