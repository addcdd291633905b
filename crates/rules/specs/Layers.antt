-- The words for the layers.
use Rattle.std.specs.Prelude.{ℕ, List, codes}
use Rattle.rules.specs.declared.fault.Layer.{Layer}
use Rattle.rules.specs.declared.fault.Layer.TheVariants.{Text, Sheet, Grid, Book}

abbrev pub layer_word : Layer → List ℕ
layer_word Text = codes "text"
layer_word Sheet = codes "sheet"
layer_word Grid = codes "grid"
layer_word Book = codes "book"
