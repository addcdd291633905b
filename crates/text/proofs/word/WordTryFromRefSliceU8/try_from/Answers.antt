use Rattle.std.proofs.Common.{ap, arith, rules}
use Rattle.std.proofs.lemmas.Slice.Eq.{text_from_reads}
use Rattle.text.specs.declared.word.Word.TheVariants.{Section, Limits}
use Rattle.text.specs.Words.{spelled, word_of}
use Rattle.text.proofs.word.WordTryFromRefSliceU8.try_from.Goals as goal

pub returns-in-limits : goal.returns-in-limits
returns-in-limits c = ap word_of (text_from_reads c.args.first.now (spelled Limits) (omega arith) (search rules))

pub returns-in-section : goal.returns-in-section
returns-in-section c = ap word_of (text_from_reads c.args.first.now (spelled Section) (omega arith) (search rules))
