-- The laws of a case text, in one.
use Rattle.std.proofs.Common.{[], ◌∷◌, refl}
use Rattle.text.specs.Format.{TextStands}
use Rattle.text.proofs.Joins.{lines_back, words_back, lines_join, words_join, parted_lack}
use Rattle.text.proofs.Written.{figure_back, signed_back, word_back, word_only, spelled_whole, decimal_whole, signed_whole}

pub text_stands_lem : TextStands
text_stands_lem =
    record {
      lines_back = lines_back;
      words_back = words_back;
      lines_join = lines_join;
      words_join = words_join;
      lines_lack = λ t. parted_lack [] 10 t refl;
      words_lack = λ l. parted_lack ([] ∷ []) 32 l refl;
      figure_back = figure_back;
      signed_back = signed_back;
      word_back = word_back;
      word_only = word_only;
      spelled_whole = spelled_whole;
      decimal_whole = decimal_whole;
      signed_whole = signed_whole;
    }
