-- Lines step by step, and outcomes whose error was told otherwise.
use Rattle.std.proofs.Common.{◌≡◌, ℕ, ◌+◌, List, ◌∷◌, Some, None, Ok, Err, Option, Result, MatchResult, sym, refl, ap, ◌∙◌, arith}
use Rattle.rules.specs.Network.{Drawing}
use Rattle.rules.specs.Questions.{answer_to}
use Rattle.rules.specs.declared.fault.Fault.{Fault}
use Rattle.reader.specs.Case.{Step, ends, fails, leads, line_step, at_line, read_lines}
use Rattle.reader.specs.declared.fault.CaseFault.{CaseFault}
use Rattle.reader.specs.declared.stage.Stage.{Stage}

-- what lines do in turn, by the step of the first, and those after it
abbrev pub follow : ℕ → Drawing → List (List ℕ) → Step → Result Drawing CaseFault
follow n d ls s = elim s [ ends ↦ Ok d | fails f ↦ Err (at_line n f) | leads t e ↦ read_lines (n + 1) t e ls ]

-- a line that is carried out leads on to the lines after it
pub leads_on : (n m k : ℕ) (st st' : Stage) (d d' : Drawing) (l : List ℕ) (ls left : List (List ℕ)) → (m ≡ n) × (k ≡ m + 1) → left ≡ l ∷ ls → line_step st d l ≡ leads st' d' → read_lines k st' d' ls ≡ read_lines n st d left
leads_on n m k st st' d d' l ls left next first is =
    let number : k ≡ n + 1 = omega (arith, next.0, next.1) in
    ap (λ i. read_lines i st' d' ls) number ∙ sym (ap (read_lines n st d) first ∙ ap (follow n d ls) is)

pub some_from_err : {Q A : Type 0} (o : Option (Fault Q)) (a : A) (f : Fault Q) → Err f ≡ answer_to o a → o ≡ Some f
some_from_err None a f e = absurd (let z : ◌≡◌ {A = ℕ} 0 1 = cc in omega arith)
some_from_err (Some g) a f e = cc

-- an outcome whose error was told otherwise, and that is no Ok, was an error before
pub was_err : {T E D : Type 0} (made : Result T E) (d : D) (told : E → Type 0) → MatchResult made (λ y. ◌≡◌ {A = Result T D} (Err d) (Ok y)) told → (e : E) × (made ≡ Err e) × told e
was_err (Ok y) d told h = absurd (let z : ◌≡◌ {A = ℕ} 0 1 = cc in omega arith)
was_err (Err e) d told h = (e, refl, h)
