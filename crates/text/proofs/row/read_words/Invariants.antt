use Rattle.std.proofs.Common.{◌≡◌, ◌+◌, ◌≤◌, ◌++◌, map, length, vec_items, vec_capacity}
use Rattle.rules.specs.Questions.{each_from}
use Rattle.text.specs.Left.{words_left}
use Rattle.text.specs.Pieces.{words}
use Rattle.text.specs.Figures.{is_figure, value}
use Rattle.text.proofs.row.read_words.Given as goal

-- the words left answer as the whole does, and their values come after those that are read; room is not lost
abbrev pub invariant-loop-place : goal.invariant-loop-place
invariant-loop-place l =
    (goal.iterator-loop-place).can_next l.place-iterator
    × (goal.iterator-loop-place).is_finite l.place-iterator
    × record {
      counted : l.place-iterator.a.start ≡ length (vec_items l.into) + 2;
      answers : each_from l.place-iterator.a.start is_figure (words_left l.place-iterator.b) ≡ each_from 2 is_figure (words l.rest);
      values : vec_items l.into ++ map value (words_left l.place-iterator.b) ≡ map value (words l.rest);
      room : vec_capacity l.initial.into ≤ vec_capacity l.into;
    }
