-- A path is all that is read of it.
use Rattle.std.specs.Prelude.{◌≡◌}
use Rattle.sheet.specs.Views.{passages_of}
use Rattle.sheet.specs.declared.path.Path.{Path}

-- two paths with the same ends, figures and passages are one
abbrev pub PathsStand : Type 0
PathsStand =
    (p q : Path) → p.from ≡ q.from → p.to ≡ q.to → p.yields.watts ≡ q.yields.watts → p.charge.billionths ≡ q.charge.billionths
    → passages_of p ≡ passages_of q → p ≡ q
