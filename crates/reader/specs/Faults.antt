-- Layer and number of each question.
use Rattle.std.specs.Prelude.{ℕ}
use Rattle.rules.specs.declared.fault.Layer.{Layer}
use Rattle.rules.specs.declared.fault.Layer.TheVariants as layers
use Rattle.text.specs.Numbers as text
use Rattle.sheet.specs.Numbers as sheet
use Rattle.reader.specs.declared.fault.Question.{Question}
use Rattle.reader.specs.declared.fault.Question.TheVariants.{Text, Sheet}

abbrev pub layer_of : Question → Layer
layer_of (Text q) = layers.Text
layer_of (Sheet q) = layers.Sheet

abbrev pub number_of : Question → ℕ
number_of (Text q) = text.number q
number_of (Sheet q) = sheet.number q
