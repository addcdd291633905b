use Rattle.std.proofs.Common.{◌≡◌, length, rules, sym, ap, ◌∙◌, inl, inr, arith}
use Rattle.rules.proofs.Asking.{was_ok}
use Rattle.text.proofs.Lengths.{lines_no_longer, first_no_longer, rest_no_longer}
use Rattle.text.specs.Left.{lines_left}
use Rattle.text.specs.Pieces.{lines}
use Rattle.reader.specs.Case.{read_lines}
use Rattle.reader.proofs.Stepping.{leads_on}
use Rattle.reader.proofs.read.Reader.read_lines.Goals as goal

pub loop-number-init : goal.loop-number-init
loop-number-init c =
    let same : lines_left c.into_iter-number-iterator.result.b ≡ lines c.args.text.now = cc in
    (search rules, search rules, record { leads = search rules; few = search rules; short = rw same (lines_no_longer c.args.text.now) })

pub invariant_of-step : goal.invariant_of-step
invariant_of-step c =
    let at = c.loop-number.invariant.2 in
    record { short = omega (arith, c.requires, first_no_longer _ _ _ _ c.in-Some.ensures.steps.1 at.short) }

pub loop-number-preserved : goal.loop-number-preserved
loop-number-preserved c =
    let at = c.loop-number.invariant.2 in
    let first = c.in-Some.ensures.steps.1 in
    let next = c.in-Some.ensures.steps.0 in
    let was = was_ok _ c.step.result _ c.in_ok-map_err.ensures.cases in
    (search rules, search rules, record { leads = leads_on _ _ _ _ _ _ _ _ _ _ next first (rw (was, c.in-On.is) at c.step.ensures) ∙ at.leads; few = omega (arith, ap length first, next.0, next.1, at.few); short = rest_no_longer _ _ _ _ first at.short })

pub returns : goal.returns
returns c =
    let at = c.loop-number.invariant.2 in
    elim c.in-None.ensures.steps [
      | inl s ↦ absurd (omega (arith, s.1.0, at.few, c.requires))
      | inr s ↦ sym at.leads ∙ ap (read_lines _ _ _) s.1.0
    ]
