use Rattle.std.proofs.Common.{◌+◌, ◌∷◌, drop, ap, sym, ◌∙◌, arith}
use Rattle.sheet.specs.Asks.{nodes_from}
use Rattle.sheet.specs.Views.{leg_of, legs_of}
use Rattle.sheet.proofs.Chaining.{nodes_next, nodes_stop}
use Rattle.sheet.proofs.chain.Chain.nodes_once.Goals as goal

pub returns-then-was_met : goal.returns-then-was_met
returns-then-was_met c =
    sym (sym c.loop-i.invariant.1
    ∙ nodes_stop (legs_of c.args.self.now.all.now) (c.start-origin.result ∷ c.loop-i.ends.items) c.args.self.now.numbers.now c.loop-i.i c.loop-i-test.true (leg_of c.leg-node.result) c.leg-node.ensures
    (sym c.was_met.ensures ∙ c.if-was_met.true))

pub loop-i-preserved : goal.loop-i-preserved
loop-i-preserved c =
    let ls = legs_of c.args.self.now.all.now in
    let ks = c.args.self.now.numbers.now in
    let i = c.loop-i.i in (
      omega (arith, c.push.ensures.len, c.loop-i.invariant.0),
      ap (λ ms. nodes_from ls (c.start-origin.result ∷ ms) (i + 1 + 1) (drop (i + 1) ks)) c.push.ensures.items
          ∙ sym (nodes_next ls (c.start-origin.result ∷ c.loop-i.ends.items) ks i c.loop-i-test.true (leg_of c.leg-node.result) c.leg-node.ensures
          (sym c.was_met.ensures ∙ c.if-was_met.false))
          ∙ c.loop-i.invariant.1,
    )
