use Rattle.std.proofs.Common.{ℕ, ◌+◌, Bool, ltb, length, sym, ◌∙◌}
use Rattle.std.proofs.lemmas.List.{at_drop_all}
use Rattle.rules.specs.Questions.{each_from}
use Rattle.rules.proofs.Asking.{each_all}
use Rattle.sheet.proofs.chain.Chain.new.Goals as goal

pub invariant_of-result-clause-entered : goal.invariant_of-result-clause-entered
invariant_of-result-clause-entered c =
    let below : ℕ → Bool = λ k. ltb k (length c.args.all.now) in
    each_all below 1 c.args.numbers.now (sym c.loop-i.invariant ∙ at_drop_all (each_from (c.loop-i.i + 1) below) c.args.numbers.now c.loop-i.i c.loop-i-test.false)
