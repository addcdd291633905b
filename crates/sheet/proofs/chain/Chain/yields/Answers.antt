use Rattle.std.proofs.Common.{◌≡◌, ◌≤◌, [], length, sym, ap, ◌∙◌, arith, rules}
use Rattle.std.proofs.lemmas.List.{length-map, nil_from_length}
use Rattle.rules.specs.Convert.{landed, yield_of, one_mw}
use Rattle.rules.specs.Network.{stretches, stretch_at}
use Rattle.rules.proofs.Chains.{yield_low, landed_high}
use Rattle.sheet.specs.Views.{legs_of}
use Rattle.sheet.proofs.Tracing.{legal_all}
use Rattle.sheet.proofs.chain.Chain.yields.Goals as goal

pub invariant_of-result : goal.invariant_of-result
invariant_of-result c =
    let ls = legs_of c.args.self.now.all.now in
    let ks = c.args.self.now.numbers.now in
    let few : length (stretches ls ks) ≤ 8 = omega (arith, length-map ks (stretch_at ls), c.args.self.now.few) in
    let done : c.loop-left.left.now ≡ [] = nil_from_length c.loop-left.left.now (search rules) in
    let is : c.loop-left.landed.0 ≡ yield_of (stretches ls ks) = sym (ap (λ js. landed c.loop-left.landed.0 (stretches ls js)) done) ∙ c.loop-left.invariant.1 in
    record {
      some = omega (arith, is, yield_low (stretches ls ks) few (legal_all c.args.self.now.all.now ks c.args.self.now.entered));
      within = omega (arith, is, landed_high one_mw (stretches ls ks));
    }
