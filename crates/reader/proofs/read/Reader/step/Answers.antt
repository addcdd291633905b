use Rattle.std.proofs.Common.{◌≡◌, ◌∙◌, sym, rules}
use Rattle.std.proofs.lemmas.Result.{err_from_is_err_and}
use Rattle.rules.proofs.Asking.{was_ok}
use Rattle.reader.specs.Case.{of_sheet, figures_of}
use Rattle.reader.proofs.Stepping.{some_from_err, was_err}
use Rattle.reader.proofs.read.Reader.step.Goals as goal

pub returns-in_err-map_err-2 : goal.returns-in_err-map_err-2
returns-in_err-map_err-2 c =
    let out = err_from_is_err_and c.from_residual-in_err-map_err-2.result c.from_residual-in_err-map_err-2.ensures.1 in
    let was = was_err c.enter.result c.in_err-map_err-2.field-0.0 _ c.in_err-map_err-2.ensures.cases in
    let same : c.in_err-map_err-2.field-0.0 ≡ of_sheet was.0 = search rules in
    let turned = rw c.in_ok-word.ensures.ok_part at c.turn.ensures in
    let read = rw (was_ok _ c.figures.result _ c.in_ok-map_err.ensures.cases) at c.figures.ensures.figures in
    let figures : c.as_slice-figures.result.now ≡ figures_of c.args.line.bytes.now = c.as_slice-figures.ensures.value ∙ read.1 in
    let no = rw figures at (some_from_err _ tt was.0 (sym was.1 ∙ c.enter.ensures.answers)) in
    rw (out.1, out.2, same) (search rules, search rules, rw was.1 at c.enter.ensures.leaves)
