use Rattle.std.proofs.Common.{◌≡◌, ◌+◌, ◌*◌, ◌<◌, false, get_or, drop, sym, ap, ◌∙◌, arith}
use Rattle.std.proofs.lemmas.Bool.Decides.{nat_tests}
use Rattle.text.specs.Figures.{is_digit}
use Rattle.text.proofs.Digits.{reading, reading_more, reading_none, reading_all, below_power, power_more}
use Rattle.text.proofs.number.digits.Goals as goal
use Rattle.text.proofs.number.digits.Goals.{then-b-lt48-via-then-b-lt48, then-b-lt48-via-else-b-lt48+then-b-gt57}

pub returns-then-b-lt48 : goal.returns-then-b-lt48
returns-then-b-lt48 c =
    let xs = c.args.word.now in
    let i = c.loop-b.b-index in
    let no : is_digit (get_or xs i 0) ≡ false =
    elim c.then-b-lt48.branch [
      | then-b-lt48-via-then-b-lt48 w ↦ let h : get_or xs i 0 < 48 = w.if-b-lt48.true in grind (arith, nat_tests)
      | then-b-lt48-via-else-b-lt48+then-b-gt57 w ↦ let h : 57 < get_or xs i 0 = w.if-b-gt57.true in grind (arith, nat_tests)
    ] in
    record { value = sym (reading_none c.loop-b.n xs i c.loop-b-test.true no) ∙ c.loop-b.invariant.0; bound = tt }

pub overflow_mul-n : goal.overflow_mul-n
overflow_mul-n c = omega (arith, below_power c.loop-b.n c.loop-b.b-index 8 c.loop-b.invariant.1 (omega arith))

pub overflow_add-n : goal.overflow_add-n
overflow_add-n c = omega (arith, below_power c.loop-b.n c.loop-b.b-index 8 c.loop-b.invariant.1 (omega arith))

pub loop-b-preserved : goal.loop-b-preserved
loop-b-preserved c =
    let xs = c.args.word.now in
    let i = c.loop-b.b-index in
    let n = c.loop-b.n in
    let more = reading_more n xs i c.loop-b-test.true c.if-b-lt48.false c.if-b-gt57.false in (
      ap (λ d. reading (n * 10 + d) (drop (i + 1) xs)) c.from.ensures ∙ sym more ∙ c.loop-b.invariant.0,
      power_more n c.from.result i c.loop-b.invariant.1 (omega arith),
    )

pub returns : goal.returns
returns c =
    let xs = c.args.word.now in
    let i = c.loop-b.b-index in
    record {
      value = sym (reading_all c.loop-b.n xs i c.loop-b-test.false) ∙ c.loop-b.invariant.0;
      bound = below_power c.loop-b.n i 9 c.loop-b.invariant.1 (omega arith);
    }
