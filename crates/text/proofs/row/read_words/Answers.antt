use Rattle.std.proofs.Common.{vec_items, vec_capacity, sym, ◌∙◌, arith}
use Rattle.std.proofs.lemmas.Result.{err_from_is_err_and}
use Rattle.text.specs.Pieces.{words}
use Rattle.text.proofs.Reading.{told_none, stops_at, wants_at}
use Rattle.text.proofs.row.read_words.Goals as goal

pub returns-in_err-figure-clause-reads : goal.returns-in_err-figure-clause-reads
returns-in_err-figure-clause-reads c =
    let at = c.loop-place.invariant.2 in
    let steps = c.in-Some.ensures.steps in
    let none = c.in_err-figure.ensures.ok_part in
    let told = told_none c.figure.result _ c.in_err-figure.field-0.0 c.in_err-figure.ensures.value none in
    let p = err_from_is_err_and c.from_residual.result c.from_residual.ensures.1 in
    rw (p.1, p.2, told)
    (stops_at (vec_items c.loop-place.into) c.in-Some.word.now _ _ (words c.args.rest.now) steps.1 at.values _ c.in-Some.place steps.0.0 at.counted at.answers (sym c.figure.ensures.value ∙ none))

pub returns-in_err-push-clause-reads : goal.returns-in_err-push-clause-reads
returns-in_err-push-clause-reads c =
    let at = c.loop-place.invariant.2 in
    let p = err_from_is_err_and c.from_residual-in_err-push.result c.from_residual-in_err-push.ensures.1 in
    rw (p.1, p.2, c.in_err-push.ensures.items)
    (wants_at (vec_items c.loop-place.into) c.in-Some.word.now _ _ (words c.args.rest.now) c.in-Some.ensures.steps.1 at.values (vec_capacity c.args.into.now) (omega (arith, c.in_err-push.ensures.full, at.room, c.loop-place.into.ok.0)))
