use Rattle.std.proofs.Common.{length, ap, arith}
use Rattle.text.proofs.Parting.{words_some, words_few}
use Rattle.reader.proofs.line.Line.figures.Goals as goal

pub overflow_sub-count_words : goal.overflow_sub-count_words
overflow_sub-count_words c = omega (arith, c.count_words.ensures, words_some 32 c.args.self.bytes.now)

-- a line has no more figures than there is room for
pub unreachable-requires : goal.unreachable-requires
unreachable-requires c =
    let e = rw c.in-Err-Memory.field-0-is at c.in-Err-Memory.ensures.reads in
    omega (arith, e.full, ap length c.first_word.ensures.front, words_few 32 c.args.self.bytes.now, c.args.self.short, c.requires)
