use Rattle.std.proofs.Common.{◌≡◌, ◌≢◌, ◌<◌, Ok, Err, length, sym, ap, ◌∙◌, arith}
use Rattle.std.specs.Bool.{⊤}
use Rattle.std.proofs.lemmas.Bool.{eqb-false}
use Rattle.std.proofs.lemmas.Option.{MatchOption-at_some}
use Rattle.std.proofs.lemmas.Result.{MatchResult-at_ok}
use Rattle.rules.specs.Grids.{gauges_of}
use Rattle.rules.specs.declared.limit.Limit.{Limit}
use Rattle.rules.proofs.Asking.{was_ok, was_some}
use Rattle.grid.specs.SectionAsks.{gauges_answer}
use Rattle.grid.specs.Sections.{over}
use Rattle.grid.proofs.Adding.{gauges_yes, passes_all}
use Rattle.grid.proofs.sections.SectionGrid.check_section.Goals as goal

pub returns : goal.returns
returns g c =
    let s = c.args.self.now in
    let ks = c.args.gauges.now in
    let made = was_ok _ c.section_over.result c.in_ok-section.section c.in_ok-section.ensures.cases in
    let yes' : gauges_answer (over g.G.Grid.meaning s).grounds ks ≡ Ok tt =
    ap (λ n. gauges_answer n ks) (sym c.ground_gauges.ensures)
    ∙ MatchResult-at_ok (λ _. gauges_answer c.ground_gauges.result ks ≡ Ok tt) (λ p. gauges_answer c.ground_gauges.result ks ≡ Err p) c.in_ok-section.section made c.section_over.ensures.answer in
    let not_full : length s.sections.items ≢ 8 = eqb-false (length s.sections.items) 8 (sym c.is_full.ensures.value ∙ c.if-is_full.false) in
    let few : length s.sections.items < 8 = omega (arith, not_full, c.is_full.ensures.fits) in
    let few_in_all : gauges_of (over g.G.Grid.meaning s) < 256 = omega (arith, c.if-gauges-ge256.false, c.gauges.ensures) in
    let limit : c.in_ok-limit.limit.mw ≡ c.args.limit =
    MatchOption-at_some (100000 < c.args.limit) (λ (x : Limit). x.mw ≡ c.args.limit) c.in_ok-limit.limit (was_some c.new.result _ c.in_ok-limit.limit c.in_ok-limit.ensures.value) c.new.ensures in (
      passes_all (length s.sections.items) (over g.G.Grid.meaning s) ks c.args.limit few few_in_all yes' (omega (arith, limit, c.in_ok-limit.limit.within)),
      record {
        gauges = MatchResult-at_ok (λ x. x.items ≡ ks) (λ _. ⊤) c.in_ok-section.section made c.section_over.ensures.gauges;
        grounded = (gauges_yes (over g.G.Grid.meaning s).grounds ks yes').1;
        few = few;
        few_in_all = few_in_all;
        limit_is = limit;
      },
    )
