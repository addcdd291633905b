-- The first question whose answer is no, and the first item that fails a test, step by step.
use Rattle.std.proofs.Common.{◌≡◌, ℕ, zero, suc, ◌+◌, ◌-◌, ◌<◌, ◌≤◌, Bool, true, false, ◌&&◌, ◌⊎◌, List, [], ◌∷◌, ◌++◌, length, take, Some, None, Ok, Err, Option, Result, MatchResult, sym, refl, ap, ◌∙◌, subst, inl, inr, arith}
use Rattle.std.specs.Option.{ok_or}
use Rattle.std.proofs.lemmas.Bool.{and_parts, and_from, false≢true}
use Rattle.rules.specs.Lists.{all_of}
use Rattle.rules.specs.Questions.{Answer, Asked, asked, each_from, first_no, answer_to}
use Rattle.rules.specs.QuestionLaws.{is_yes, all_yes, FirstNo, FailsFirst, FailsAt, QuestionsStand}
use Rattle.rules.specs.declared.fault.Fault.{Fault}

pub never : {i : ℕ} → ◌≡◌ {A = Answer} (Err i) (Ok tt) → ⊥
never e = let z : ◌≡◌ {A = ℕ} 0 1 = cc in omega arith

-- a test whose no ends the question
pub passes : (b : Bool) (i : ℕ) (a : Answer) → ◌≡◌ {A = Answer} (elim b [ true ↦ a | false ↦ Err i ]) (Ok tt) → (b ≡ true) × (a ≡ Ok tt)
passes true i a h = (refl, h)
passes false i a h = absurd (never h)

pub stops_or_goes : (b : Bool) (i : ℕ) (a : Answer) (p : ℕ) → ◌≡◌ {A = Answer} (elim b [ true ↦ a | false ↦ Err i ]) (Err p) → ((b ≡ false) × (i ≡ p)) ⊎ ((b ≡ true) × (a ≡ Err p))
stops_or_goes true i a p h = inr (refl, h)
stops_or_goes false i a p h = inl (refl, cc)

pub asks_on : {Q : Type 0} (q : Q) (a : Answer) (more : List (Asked Q)) → a ≡ Ok tt → first_no (asked q a ∷ more) ≡ first_no more
asks_on q a more e = ap (λ x. first_no (asked q x ∷ more)) e

pub asks_stop : {Q : Type 0} (q : Q) (a : Answer) (more : List (Asked Q)) (p : ℕ) → a ≡ Err p → first_no (asked q a ∷ more) ≡ Some (record { question = q; place = p })
asks_stop q a more p e = ap (λ x. first_no (asked q x ∷ more)) e

is_yes_is : (a : Answer) → is_yes a ≡ true → a ≡ Ok tt
is_yes_is (Ok done) h = refl
is_yes_is (Err p) h = absurd (false≢true h)

-- no question is answered no
module _ {Q : Type 0} where
  none : (qs : List (Asked Q)) → first_no qs ≡ None → all_yes qs ≡ true
  none [] h = refl
  none (a ∷ more) h =
      (elim a.answer as (λ v. first_no (asked a.question v ∷ more) ≡ None → (is_yes v && all_yes more) ≡ true) [
        | Ok done ↦ λ e. none more e
        | Err p ↦ λ e. let z : ◌≡◌ {A = ℕ} 0 1 = cc in absurd (omega arith)
      ]) h

  none_from : (qs : List (Asked Q)) → all_yes qs ≡ true → first_no qs ≡ None
  none_from [] h = refl
  none_from (a ∷ more) h =
      let p = and_parts (is_yes a.answer) _ h in
      asks_on a.question a.answer more (is_yes_is a.answer p.0) ∙ none_from more p.1

  -- a question is answered no, and those before it yes
  some : (qs : List (Asked Q)) (f : Fault Q) → first_no qs ≡ Some f → FirstNo qs f
  some [] f h = let z : ◌≡◌ {A = ℕ} 0 1 = cc in absurd (omega arith)
  some (a ∷ more) f h =
      (elim a.answer as (λ v. a.answer ≡ v → first_no (asked a.question v ∷ more) ≡ Some f → FirstNo (a ∷ more) f) [
        | Ok done ↦ λ is e.
            let s = some more f e in
            record {
              before = a ∷ s.before;
              here = s.here;
              after = s.after;
              splits = ap (λ xs. a ∷ xs) s.splits;
              fine_before = and_from _ _ (ap is_yes is) s.fine_before;
              the_question = s.the_question;
              the_place = s.the_place;
            }
        | Err p ↦ λ is e. record { before = []; here = a; after = more; splits = refl; fine_before = refl; the_question = cc; the_place = cc }
      ]) refl h

  stops : (before : List (Asked Q)) (a : Asked Q) (after : List (Asked Q)) (f : Fault Q) → all_yes before ≡ true → a.question ≡ f.question → a.answer ≡ Err f.place → first_no (before ++ (a ∷ after)) ≡ Some f
  stops [] a after f h q e = asks_stop a.question a.answer after f.place e ∙ ap (λ x. Some (record { question = x; place = f.place })) q
  stops (b ∷ before) a after f h q e =
      let p = and_parts (is_yes b.answer) _ h in
      asks_on b.question b.answer (before ++ (a ∷ after)) (is_yes_is b.answer p.0) ∙ stops before a after f p.1 q e

  some_from : (qs : List (Asked Q)) (f : Fault Q) → FirstNo qs f → first_no qs ≡ Some f
  some_from qs f s = ap first_no s.splits ∙ stops s.before s.here s.after f s.fine_before s.the_question s.the_place

-- a question that is put to each item
module _ {A : Type 0} (f : A → Bool) where
  pub each_on : (k : ℕ) (x : A) (xs : List A) → f x ≡ true → each_from k f (x ∷ xs) ≡ each_from (k + 1) f xs
  each_on k x xs e = ap (λ t. elim t [ true ↦ each_from (k + 1) f xs | false ↦ Err k ]) e

  pub each_stops : (k : ℕ) (x : A) (xs : List A) → f x ≡ false → each_from k f (x ∷ xs) ≡ Err k
  each_stops k x xs e = ap (λ t. elim t [ true ↦ each_from (k + 1) f xs | false ↦ Err k ]) e

  pub each_all : (k : ℕ) (xs : List A) → each_from k f xs ≡ Ok tt → all_of f xs ≡ true
  each_all k [] h = refl
  each_all k (x ∷ xs) h =
      let p = passes (f x) k (each_from (k + 1) f xs) h in
      and_from (f x) _ p.0 (each_all (k + 1) xs p.1)

  pub all_each : (k : ℕ) (xs : List A) → all_of f xs ≡ true → each_from k f xs ≡ Ok tt
  all_each k [] h = refl
  all_each k (x ∷ xs) h =
      let p = and_parts (f x) _ h in
      each_on k x xs p.0 ∙ all_each (k + 1) xs p.1

  -- the first that fails
  each_finds : (k : ℕ) (xs : List A) (p : ℕ) → each_from k f xs ≡ Err p → (i : ℕ) × ((p ≡ k + i) × FailsFirst f xs i)
  each_finds k [] p h = absurd (never (sym h))
  each_finds k (x ∷ xs) p h =
      elim (stops_or_goes (f x) k (each_from (k + 1) f xs) p h) [
        | inl s ↦ (0, (omega (arith, s.1), record { inside = omega arith; fine_before = refl; fails = λ d. s.0 }))
        | inr g ↦
            let r = each_finds (k + 1) xs p g.1 in
            (suc r.0, (omega (arith, r.1.0), record { inside = omega (arith, r.1.1.inside); fine_before = and_from (f x) _ g.0 r.1.1.fine_before; fails = r.1.1.fails }))
      ]

  pub each_no : (k : ℕ) (xs : List A) (p : ℕ) → each_from k f xs ≡ Err p → (k ≤ p) × FailsFirst f xs (p - k)
  each_no k xs p h =
      let r = each_finds k xs p h in
      let e : r.0 ≡ p - k = omega (arith, r.1.0) in
      (omega (arith, r.1.0), subst (FailsFirst f xs) e r.1.1)

  no_from : (k : ℕ) (xs : List A) (i : ℕ) → FailsFirst f xs i → each_from k f xs ≡ Err (k + i)
  no_from k [] i h = absurd (omega (arith, h.inside))
  no_from k (x ∷ xs) zero h = let e : k ≡ k + 0 = omega arith in each_stops k x xs (h.fails x) ∙ ap Err e
  no_from k (x ∷ xs) (suc i) h =
      let p = and_parts (f x) _ h.fine_before in
      let e : k + 1 + i ≡ k + suc i = omega arith in
      each_on k x xs p.0 ∙ no_from (k + 1) xs i (record { inside = omega (arith, h.inside); fine_before = p.1; fails = h.fails }) ∙ ap Err e

pub questions_stand_lem : (Q A : Type 0) → QuestionsStand Q A
questions_stand_lem Q A = record {
  none = none;
  none_from = none_from;
  some = some;
  some_from = some_from;
  yes = λ k f. each_all f k;
  yes_from = λ k f. all_each f k;
  no = λ k f. each_no f k;
  no_from = λ k f. no_from f k;
}

-- the first j items pass the test, and with the next they fail
pub record Next {A : Type 0} (test : List A → Bool) (xs : List A) (j : ℕ) : Type 0 where
  pub inside : j < length xs
  pub before : test (take j xs) ≡ true
  pub here : test (take (suc j) xs) ≡ false

-- the same, told by the place
module _ {A : Type 0} (test : List A → Bool) (xs : List A) where
  pub fails_at : (j p : ℕ) → p ≡ 1 + j → Next test xs j → FailsAt test xs p
  fails_at j p e n =
      let less : p - 1 ≡ j = omega arith in
      let same : p ≡ suc j = omega arith in
      record {
        some = omega arith;
        inside = omega (arith, n.inside);
        before = ap (λ m. test (take m xs)) less ∙ n.before;
        here = ap (λ m. test (take m xs)) same ∙ n.here;
      }

  pub next_of : (p : ℕ) → FailsAt test xs p → Next test xs (p - 1)
  next_of p f =
      let same : suc (p - 1) ≡ p = omega (arith, f.some) in
      record { inside = omega (arith, f.some, f.inside); before = f.before; here = ap (λ m. test (take m xs)) same ∙ f.here }

-- an outcome whose error was told otherwise, and that is still Ok, was so before
pub was_ok : {T E : Type 0} (D : Type 0) (made : Result T E) (x : T) → MatchResult made (λ y. ◌≡◌ {A = Result T D} (Ok x) (Ok y)) (λ _. ⊥) → made ≡ Ok x
was_ok D (Ok y) x h = cc
was_ok D (Err e) x h = absurd h

-- and so was a value that an error stands beside
pub was_some : {A E : Type 0} (o : Option A) (e : E) (x : A) → Ok x ≡ ok_or o e → o ≡ Some x
was_some None e x h = let z : ◌≡◌ {A = ℕ} 0 1 = cc in absurd (omega arith)
was_some (Some y) e x h = cc

-- what a call answers where no question fails
pub taken : {Q A : Type 0} (qs : List (Asked Q)) (r a : A) → first_no qs ≡ None → r ≡ a → Ok r ≡ answer_to (first_no qs) a
taken qs r a none e = ap Ok e ∙ ap (λ o. answer_to o a) (sym none)
