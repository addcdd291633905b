-- A list of a fixed length that is filled from its start.
use Rattle.std.proofs.Common.{◌≡◌, ℕ, ◌+◌, Bool, true, List, drop, set, sym, ap, ◌∙◌, arith}
use Rattle.std.proofs.lemmas.List.{drop-drop, drop-set-lt}
use Rattle.rules.specs.Lists.{all_of}
use Rattle.rules.proofs.Alls.{all_of-drop}

-- what passes a test behind the first i places passes it behind one place more, when that one is filled
pub still_blank : {A : Type 0} (f : A → Bool) (xs : List A) (i : ℕ) (x : A) → all_of f (drop i xs) ≡ true → all_of f (drop (i + 1) (set xs i x)) ≡ true
still_blank f xs i x h =
    ap (all_of f) (drop-set-lt (i + 1) xs i x (omega arith) ∙ sym (drop-drop 1 i xs)) ∙ all_of-drop f (drop i xs) 1 h
