-- Bids as numbers.
use Rattle.std.specs.Prelude.{List, map, ℤ}
use Rattle.rules.specs.declared.price.Yuan.{Yuan}

abbrev pub whole_yuan : List Yuan → List ℤ
whole_yuan bs = map (λ b. b.whole) bs
