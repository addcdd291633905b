-- The line that a fault prints: layer, number, line, place.
use Rattle.std.specs.Prelude.{ℕ, List, ◌++◌, codes, decimal}
use Rattle.rules.specs.Layers.{layer_word}
use Rattle.reader.specs.Faults.{layer_of, number_of}
use Rattle.reader.specs.declared.fault.CaseFault.{CaseFault}

abbrev pub fault_text : CaseFault → List ℕ
fault_text f =
    codes "fault " ++ (layer_word (layer_of f.question) ++ (codes " " ++ (decimal (number_of f.question)
    ++ (codes " " ++ (decimal f.line ++ (codes " " ++ decimal f.place))))))

abbrev pub fault_line : CaseFault → List ℕ
fault_line f = fault_text f ++ codes "\n"
