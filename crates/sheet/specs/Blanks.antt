-- The places of a path's array that hold no passage.
use Rattle.std.specs.Prelude.{Bool, ◌&&◌, nat_eq}
use Rattle.sheet.specs.declared.path.Passage.{Passage}

abbrev pub blank_place : Passage → Bool
blank_place x = nat_eq x.leg 0 && (nat_eq x.enters.0 0 && nat_eq x.leaves.0 0)
