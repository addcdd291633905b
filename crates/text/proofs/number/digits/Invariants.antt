use Rattle.std.proofs.Common.{◌≡◌, ◌^◌, ◌<◌, drop}
use Rattle.text.proofs.Digits.{reading}
use Rattle.text.proofs.number.digits.Given as goal

-- the digits left, read on from the value so far, give what the whole gives
abbrev pub invariant-loop-b : goal.invariant-loop-b
invariant-loop-b l = (reading l.n (drop l.b-index l.word) ≡ reading 0 l.word) × (l.n < 10 ^ l.b-index)
