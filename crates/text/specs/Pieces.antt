-- The lines of a text and the words of a line.
use Rattle.std.specs.Prelude.{◌≡◌, ℕ, ◌<◌, ◌≤◌, cond, List, [], ◌∷◌, length, Some, None, Option, ◌==◌}
use Rattle.std.specs.Option.{unwrap_or}

-- a byte in front of the first piece
abbrev pub longer : ℕ → List (List ℕ) → List (List ℕ)
longer b [] = (b ∷ []) ∷ []
longer b (p ∷ ps) = (b ∷ p) ∷ ps

-- bytes parted at each mark; `last` are the pieces after the last byte
abbrev pub parted : List (List ℕ) → ℕ → List ℕ → List (List ℕ)
parted last mark [] = last
parted last mark (b ∷ bs) = cond (b == mark) ([] ∷ parted last mark bs) (longer b (parted last mark bs))

-- what follows the first mark, where there is one
abbrev pub after : ℕ → List ℕ → Option (List ℕ)
after mark [] = None
after mark (b ∷ bs) = cond (b == mark) (Some bs) (after mark bs)

-- only a newline ends a line, and a last newline starts no further line
abbrev pub lines : List ℕ → List (List ℕ)
lines bs = parted [] 10 bs

-- line is the first line of text, and rest is what follows its newline
pub record FirstLine (text line rest : List ℕ) : Type 0 where
  pub front : lines text ≡ line ∷ lines rest
  pub follows : rest ≡ unwrap_or (after 10 text) []
  pub shorter : length rest < length text
  pub within : length line ≤ length text

-- words are what single spaces part: an empty word is a word, and an empty line has one empty word
abbrev pub words : List ℕ → List (List ℕ)
words bs = parted ([] ∷ []) 32 bs

-- the pieces of what follows a mark: none where no mark stands
abbrev pub parts_of : List (List ℕ) → ℕ → Option (List ℕ) → List (List ℕ)
parts_of last mark None = []
parts_of last mark (Some bs) = parted last mark bs

-- the words of what follows a word and its space
abbrev pub words_of : Option (List ℕ) → List (List ℕ)
words_of rest = parts_of ([] ∷ []) 32 rest
