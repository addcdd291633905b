use Rattle.std.proofs.Common.{◌≡◌, ◌+◌, ltb, length, drop}
use Rattle.rules.specs.Questions.{each_from}
use Rattle.sheet.proofs.chain.Chain.new.Given as goal

abbrev pub invariant-loop-i : goal.invariant-loop-i
invariant-loop-i l = each_from (l.i + 1) (λ k. ltb k (length l.all)) (drop l.i l.numbers) ≡ each_from 1 (λ k. ltb k (length l.all)) l.numbers
