-- The passages of a path: those in the first places of its array.
use Rattle.std.specs.Prelude.{List, take}
use Rattle.sheet.specs.declared.path.Passage.{Passage}
use Rattle.sheet.specs.declared.passages.Passages.{Passages}

abbrev pub laid : Passages → List Passage
laid p = take p.count p.places
