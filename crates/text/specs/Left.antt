-- The lines and words that an iterator has still to give.
use Rattle.std.specs.Prelude.{ℕ, List}
use Rattle.std.specs.Option.{option_map}
use Rattle.text.specs.declared.pieces.Lines.{Lines}
use Rattle.text.specs.declared.pieces.Words.{Words}
use Rattle.text.specs.Pieces.{lines, words_of}

abbrev pub lines_left : Lines → List (List ℕ)
lines_left it = lines it.text.now

abbrev pub words_left : Words → List (List ℕ)
words_left it = words_of (option_map (λ line. line.now) it.line)
