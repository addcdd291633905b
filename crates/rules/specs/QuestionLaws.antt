-- What the first no among questions, and the first item that fails a test, mean.
use Rattle.std.specs.Prelude.{◌≡◌, ℕ, ◌+◌, ◌-◌, ◌<◌, ◌≤◌, Bool, true, false, List, ◌∷◌, ◌++◌, length, take, Some, None, Ok, Err, slice_index_or}
use Rattle.rules.specs.Lists.{all_of}
use Rattle.rules.specs.Questions.{Answer, Asked, each_from, first_no}
use Rattle.rules.specs.declared.fault.Fault.{Fault}

-- an answer that is yes, and questions that are all answered so
abbrev pub is_yes : Answer → Bool
is_yes (Ok done) = true
is_yes (Err p) = false

abbrev pub all_yes : {Q : Type 0} → List (Asked Q) → Bool
all_yes qs = all_of (λ a. is_yes a.answer) qs

-- f is the first no among the questions qs: each question before it is answered yes
pub record FirstNo {Q : Type 0} (qs : List (Asked Q)) (f : Fault Q) : Type 0 where
  pub before : List (Asked Q)
  pub here : Asked Q
  pub after : List (Asked Q)
  pub splits : qs ≡ before ++ (here ∷ after)
  pub fine_before : all_yes before ≡ true
  pub the_question : here.question ≡ f.question
  pub the_place : here.answer ≡ Err f.place

-- item i, counted from 0, is the first that fails the test f
pub record FailsFirst {A : Type 0} (f : A → Bool) (xs : List A) (i : ℕ) : Type 0 where
  pub inside : i < length xs
  pub fine_before : all_of f (take i xs) ≡ true
  pub fails : (d : A) → f (slice_index_or xs i d) ≡ false

-- p, counted from 1, is the place at which items first fail a test together: those before it pass, and with it they fail
pub record FailsAt {A : Type 0} (test : List A → Bool) (xs : List A) (p : ℕ) : Type 0 where
  pub some : 1 ≤ p
  pub inside : p ≤ length xs
  pub before : test (take (p - 1) xs) ≡ true
  pub here : test (take p xs) ≡ false

-- For questions of any kind Q there is no first no exactly where all are answered yes, and a first no is as told above.
-- For items of any kind A, counted from k, the answer is yes exactly where each passes, and a no says the place of the first that fails.
pub record QuestionsStand (Q A : Type 0) : Type 0 where
  pub none : (qs : List (Asked Q)) → first_no qs ≡ None → all_yes qs ≡ true
  pub none_from : (qs : List (Asked Q)) → all_yes qs ≡ true → first_no qs ≡ None
  pub some : (qs : List (Asked Q)) (f : Fault Q) → first_no qs ≡ Some f → FirstNo qs f
  pub some_from : (qs : List (Asked Q)) (f : Fault Q) → FirstNo qs f → first_no qs ≡ Some f
  pub yes : (k : ℕ) (f : A → Bool) (xs : List A) → each_from k f xs ≡ Ok tt → all_of f xs ≡ true
  pub yes_from : (k : ℕ) (f : A → Bool) (xs : List A) → all_of f xs ≡ true → each_from k f xs ≡ Ok tt
  pub no : (k : ℕ) (f : A → Bool) (xs : List A) (p : ℕ) → each_from k f xs ≡ Err p → (k ≤ p) × FailsFirst f xs (p - k)
  pub no_from : (k : ℕ) (f : A → Bool) (xs : List A) (i : ℕ) → FailsFirst f xs i → each_from k f xs ≡ Err (k + i)
