use Rattle.std.proofs.Common.{◌≡◌, ◌+◌, ◌≤◌, length}
use Rattle.sheet.specs.Sheets.{drawing}
use Rattle.text.proofs.Lengths.{NoLonger}
use Rattle.text.specs.Left.{lines_left}
use Rattle.text.specs.Pieces.{lines}
use Rattle.reader.specs.Case.{read_lines}
use Rattle.reader.proofs.read.Reader.read_lines.Given as goal

-- the lines left lead to what the whole text does
abbrev pub invariant-loop-number : goal.invariant-loop-number
invariant-loop-number l =
    (goal.iterator-loop-number).can_next l.number-iterator
    × (goal.iterator-loop-number).is_finite l.number-iterator
    × record {
      leads : read_lines l.number-iterator.a.start l.self.stage (drawing l.self.sheet) (lines_left l.number-iterator.b)
          ≡ read_lines 1 l.initial.self.stage (drawing l.initial.self.sheet) (lines l.text);
      few : l.number-iterator.a.start + length (lines_left l.number-iterator.b) ≤ 1 + length l.text;
      short : NoLonger (length l.text) (lines_left l.number-iterator.b);
    }
