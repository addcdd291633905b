-- The words that lines begin with.
use Rattle.std.specs.Prelude.{◌≡◌, ℕ, cond, List, Some, None, codes, Option, Result, MatchResult}
use Rattle.std.specs.Str.{bytes_eq}
use Rattle.text.specs.declared.word.Word.{Word}
use Rattle.text.specs.declared.word.UnknownWord.{UnknownWord}
use Rattle.text.specs.declared.word.Word.TheVariants.{Node, Leg, Path, Section, Limits, Sell, Buy, Go}

abbrev pub spelled : Word → List ℕ
spelled Node = codes "node"
spelled Leg = codes "leg"
spelled Path = codes "path"
spelled Section = codes "section"
spelled Limits = codes "limits"
spelled Sell = codes "sell"
spelled Buy = codes "buy"
spelled Go = codes "go"

-- the word that bytes spell, or else what a further look finds
abbrev pub reads_as : Word → List ℕ → Option Word → Option Word
reads_as w bs more = cond (bytes_eq bs (spelled w)) (Some w) more

-- the word that a first word spells, none where it is unknown
abbrev pub word_of : List ℕ → Option Word
word_of bs = reads_as Node bs (reads_as Leg bs (reads_as Path bs (reads_as Section bs (reads_as Limits bs (reads_as Sell bs (reads_as Buy bs (reads_as Go bs None)))))))

-- a first word is read as the word that it spells, and refused where it spells none
abbrev pub ReadsWord : List ℕ → Result Word UnknownWord → Type 0
ReadsWord first read = MatchResult read (λ word. word_of first ≡ Some word) (λ _. word_of first ≡ None)
