use Rattle.std.proofs.Common.{◌≡◌, true, ltb, length, Some, vec_len, sym, ap, ◌∙◌, arith}
use Rattle.std.proofs.lemmas.List.{length-map}
use Rattle.std.proofs.lemmas.Bool.Decides.{nat_tests}
use Rattle.rules.specs.Network.{routed}
use Rattle.rules.specs.Questions.{answered}
use Rattle.rules.proofs.Asking.{asks_on}
use Rattle.sheet.specs.Asks.{chain_questions, chain_answer, nodes_answer}
use Rattle.sheet.specs.Sheets.{drawing}
use Rattle.sheet.specs.declared.question.SheetQuestion.TheVariants.{PathCount}
use Rattle.sheet.proofs.Passing.{made_of, asked_along, ends_entered, ends_found, fails_ends, passes_all, path_passes}
use Rattle.sheet.proofs.sheet.Sheet.check_path.Goals as goal

pub index-requires-2 : goal.index-requires-2
index-requires-2 c =
    let s = c.args.self.now in
    let ks = c.args.legs.now in
    let made = made_of s.legs.items c.as_slice.result.now ks c.new.result c.in_ok-chain.chain c.as_slice.ensures.value c.in_ok-chain.ensures.cases c.new.ensures.answer c.new.ensures.all c.new.ensures.numbers in
    (ends_entered s.legs.items ks c.in_ok-chain.chain made s.nodes.items (vec_len s.nodes) s.nodes.ok.0 s.joined c.start.result c.end.result c.start.ensures c.end.ensures).1

pub returns-then-not-may_trade : goal.returns-then-not-may_trade
returns-then-not-may_trade c =
    let s = c.args.self.now in
    let d = drawing s in
    let ks = c.args.legs.now in
    let made = made_of s.legs.items c.as_slice.result.now ks c.new.result c.in_ok-chain.chain c.as_slice.ensures.value c.in_ok-chain.ensures.cases c.new.ensures.answer c.new.ensures.all c.new.ensures.numbers in
    let chain_fine = asked_along s.legs.items ks c.in_ok-chain.chain made chain_answer c.linked.result c.in_ok-map_err.field-0 c.linked.ensures c.in_ok-map_err.ensures.cases in
    let nodes_fine = asked_along s.legs.items ks c.in_ok-chain.chain made nodes_answer c.nodes_once.result c.in_ok-map_err-2.field-0 c.nodes_once.ensures c.in_ok-map_err-2.ensures.cases in
    let ends = sym (c.may_trade.ensures ∙ ends_found s.legs.items ks c.in_ok-chain.chain made s.nodes.items (vec_len s.nodes) s.nodes.ok.0 s.joined c.start.result c.end.result c.start.ensures c.end.ensures _ _ c.index.ensures c.index-2.ensures) in
    let few : ltb (length d.paths) 128 ≡ true = grind (arith, nat_tests, length-map) in
    asks_on PathCount (answered (ltb (length d.paths) 128)) (chain_questions d.nodes d.legs ks) (ap answered few)
    ∙ fails_ends d.nodes d.legs ks made.legs_fine chain_fine nodes_fine (ends ∙ c.if-not-may_trade.true)
    ∙ ap Some (sym c.into-then-not-may_trade.ensures)

pub returns : goal.returns
returns c =
    let s = c.args.self.now in
    let d = drawing s in
    let ks = c.args.legs.now in
    let made = made_of s.legs.items c.as_slice.result.now ks c.new.result c.in_ok-chain.chain c.as_slice.ensures.value c.in_ok-chain.ensures.cases c.new.ensures.answer c.new.ensures.all c.new.ensures.numbers in
    let chain_fine = asked_along s.legs.items ks c.in_ok-chain.chain made chain_answer c.linked.result c.in_ok-map_err.field-0 c.linked.ensures c.in_ok-map_err.ensures.cases in
    let nodes_fine = asked_along s.legs.items ks c.in_ok-chain.chain made nodes_answer c.nodes_once.result c.in_ok-map_err-2.field-0 c.nodes_once.ensures c.in_ok-map_err-2.ensures.cases in
    let ends = sym (c.may_trade.ensures ∙ ends_found s.legs.items ks c.in_ok-chain.chain made s.nodes.items (vec_len s.nodes) s.nodes.ok.0 s.joined c.start.result c.end.result c.start.ensures c.end.ensures _ _ c.index.ensures c.index-2.ensures) in
    let few : ltb (length d.paths) 128 ≡ true = grind (arith, nat_tests, length-map) in
    let trade = ends ∙ c.if-not-may_trade.false in (
      asks_on PathCount (answered (ltb (length d.paths) 128)) (chain_questions d.nodes d.legs ks) (ap answered few)
          ∙ passes_all d.nodes d.legs ks made.legs_fine chain_fine nodes_fine trade,
      (
        record {
          legs = c.path.ensures.legs ∙ made.numbers;
          a_path = path_passes d.nodes d.legs ks made.legs_fine chain_fine nodes_fine trade;
          route = c.path.ensures.route ∙ made.along routed;
        },
        omega (arith, c.len.ensures, c.if-len-ge128.false),
      ),
    )
