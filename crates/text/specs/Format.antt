-- How a case text is written, and that reading gives back what was written.
use Rattle.std.specs.Prelude.{◌≡◌, ℕ, ◌^◌, ◌<◌, Bool, true, not, ◌&&◌, ◌⊎◌, List, [], ◌∷◌, ◌++◌, ℤ, pos, negsuc, ◌≤ℤ◌, Some, decimal}
use Rattle.std.specs.Fmt.{signed_decimal}
use Rattle.rules.specs.Lists.{all_of, has}
use Rattle.text.specs.declared.word.Word.{Word}
use Rattle.text.specs.Pieces.{lines, words}
use Rattle.text.specs.Figures.{figure_of, signed_figure_of}
use Rattle.text.specs.Words.{spelled, word_of}

-- words joined by one space
abbrev pub join_words : List (List ℕ) → List ℕ
join_words [] = []
join_words (w ∷ []) = w
join_words (w ∷ (v ∷ ws)) = w ++ (32 ∷ join_words (v ∷ ws))

-- each line followed by a newline
abbrev pub join_lines : List (List ℕ) → List ℕ
join_lines [] = []
join_lines (l ∷ ls) = l ++ (10 ∷ join_lines ls)

abbrev pub lacks : ℕ → List ℕ → Bool
lacks b bs = not (has b bs)

-- bytes that end neither a word nor a line
abbrev pub unbroken : List ℕ → Bool
unbroken bs = lacks 10 bs && lacks 32 bs

pub record TextStands : Type 0 where
  -- what is joined is read back
  pub lines_back : (ls : List (List ℕ)) → all_of (lacks 10) ls ≡ true → lines (join_lines ls) ≡ ls
  pub words_back : (w : List ℕ) (ws : List (List ℕ)) → all_of (lacks 32) (w ∷ ws) ≡ true → words (join_words (w ∷ ws)) ≡ w ∷ ws
  -- what is read joins to what it was, but for a newline that a last line lacks
  pub lines_join : (t : List ℕ) → (join_lines (lines t) ≡ t) ⊎ (join_lines (lines t) ≡ t ++ (10 ∷ []))
  pub words_join : (l : List ℕ) → join_words (words l) ≡ l
  pub lines_lack : (t : List ℕ) → all_of (lacks 10) (lines t) ≡ true
  pub words_lack : (l : List ℕ) → all_of (lacks 32) (words l) ≡ true
  -- a number that is written is read back
  pub figure_back : (n : ℕ) → n < 1000000000 → figure_of (decimal n) ≡ Some n
  pub signed_back : (z : ℤ) → negsuc 999999998 ≤ℤ z → z ≤ℤ pos 999999999 → signed_figure_of (signed_decimal z) ≡ Some z
  -- a word is read from its spelling and from nothing else
  pub word_back : (w : Word) → word_of (spelled w) ≡ Some w
  pub word_only : (bs : List ℕ) (w : Word) → word_of bs ≡ Some w → bs ≡ spelled w
  -- what is written as one word stays one
  pub spelled_whole : (w : Word) → unbroken (spelled w) ≡ true
  pub decimal_whole : (n : ℕ) → n < 2 ^ 64 → unbroken (decimal n) ≡ true
  pub signed_whole : (z : ℤ) → negsuc 999999998 ≤ℤ z → z ≤ℤ pos 999999999 → unbroken (signed_decimal z) ≡ true
