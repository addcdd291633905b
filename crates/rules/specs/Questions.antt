-- Questions with their answers, and the first whose answer is no.
use Rattle.std.specs.Prelude.{◌≡◌, ℕ, ◌+◌, Bool, true, false, List, [], ◌∷◌, Some, None, Ok, Err, Option, Result}
use Rattle.rules.specs.declared.fault.Fault.{Fault}

-- yes, or a no with its place, 0 where it has none
abbrev pub Answer : Type 0
Answer = Result (Unit {0}) ℕ

pub record Asked (Q : Type 0) : Type 0 where
  pub question : Q
  pub answer : Answer

abbrev pub asked : {Q : Type 0} → Q → Answer → Asked Q
asked q a = record { question = q; answer = a }

-- the answer of a question that has no place
abbrev pub answered : Bool → Answer
answered true = Ok tt
answered false = Err 0

-- the answer of a question that is put to each item in turn: the first item that fails the test, counted from k
abbrev pub each_from : {A : Type 0} → ℕ → (A → Bool) → List A → Answer
each_from k f [] = Ok tt
each_from k f (x ∷ xs) = elim (f x) [ true ↦ each_from (k + 1) f xs | false ↦ Err k ]

-- the first question whose answer is no
abbrev pub first_no : {Q : Type 0} → List (Asked Q) → Option (Fault Q)
first_no [] = None
first_no (a ∷ more) = elim a.answer [ Ok done ↦ first_no more | Err p ↦ Some (record { question = a.question; place = p }) ]

-- a call gives its value where every answer is yes, and otherwise the first that is not
abbrev pub answer_to : {Q A : Type 0} → Option (Fault Q) → A → Result A (Fault Q)
answer_to None a = Ok a
answer_to (Some f) a = Err f

-- an item that passes its questions, of which P then holds, or the first question that it fails
abbrev pub Checked : {Q A : Type 0} → List (Asked Q) → (A → Type 0) → Result A (Fault Q) → Type 0
Checked qs P (Ok a) = (first_no qs ≡ None) × P a
Checked qs P (Err f) = first_no qs ≡ Some f
