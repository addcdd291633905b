-- What holds of each item of a list.
use Rattle.std.proofs.Common.{◌≡◌, ℕ, zero, suc, ◌<◌, Bool, true, List, [], ◌∷◌, ◌++◌, map, length, get_or, take, drop, set, refl, ap, ◌∙◌, arith}
use Rattle.std.proofs.lemmas.Bool.{and_parts, and_from}
use Rattle.rules.specs.Lists.{all_of}

module _ {A : Type 0} (f : A → Bool) where
  pub all_of_at : (xs : List A) (i : ℕ) (d : A) → all_of f xs ≡ true → i < length xs → f (get_or xs i d) ≡ true
  all_of_at [] i d h l = absurd (omega arith)
  all_of_at (x ∷ xs) zero d h l = (and_parts (f x) _ h).0
  all_of_at (x ∷ xs) (suc i) d h l = all_of_at xs i d (and_parts (f x) _ h).1 (omega arith)

  pub all_of-take : (xs : List A) (i : ℕ) → all_of f xs ≡ true → all_of f (take i xs) ≡ true
  all_of-take xs zero h = refl
  all_of-take [] (suc i) h = refl
  all_of-take (x ∷ xs) (suc i) h = and_from (f x) _ (and_parts (f x) _ h).0 (all_of-take xs i (and_parts (f x) _ h).1)

  pub all_of-drop : (xs : List A) (i : ℕ) → all_of f xs ≡ true → all_of f (drop i xs) ≡ true
  all_of-drop xs zero h = h
  all_of-drop [] (suc i) h = refl
  all_of-drop (x ∷ xs) (suc i) h = all_of-drop xs i (and_parts (f x) _ h).1

  pub all_of-append : (xs ys : List A) → all_of f xs ≡ true → all_of f ys ≡ true → all_of f (xs ++ ys) ≡ true
  all_of-append [] ys h k = k
  all_of-append (x ∷ xs) ys h k = and_from (f x) _ (and_parts (f x) _ h).0 (all_of-append xs ys (and_parts (f x) _ h).1 k)

  pub all_of-set : (xs : List A) (i : ℕ) (x : A) → all_of f xs ≡ true → f x ≡ true → all_of f (set xs i x) ≡ true
  all_of-set [] i x h k = refl
  all_of-set (y ∷ xs) zero x h k = and_from (f x) _ k (and_parts (f y) _ h).1
  all_of-set (y ∷ xs) (suc i) x h k = and_from (f y) _ (and_parts (f y) _ h).0 (all_of-set xs i x (and_parts (f y) _ h).1 k)

  pub all_of_push : (xs : List A) (x : A) → all_of f xs ≡ true → f x ≡ true → all_of f (xs ++ (x ∷ [])) ≡ true
  all_of_push xs x h k = all_of-append xs (x ∷ []) h (and_from (f x) true k refl)

  pub all_of_mono : (g : A → Bool) (xs : List A) → ((x : A) → f x ≡ true → g x ≡ true) → all_of f xs ≡ true → all_of g xs ≡ true
  all_of_mono g [] m h = refl
  all_of_mono g (x ∷ xs) m h = and_from (g x) _ (m x (and_parts (f x) _ h).0) (all_of_mono g xs m (and_parts (f x) _ h).1)

-- two functions that agree where a test holds
pub map_agrees : {A B : Type 0} (f : A → Bool) (g h : A → B) (xs : List A) → ((x : A) → f x ≡ true → g x ≡ h x) → all_of f xs ≡ true → map g xs ≡ map h xs
map_agrees f g h [] m t = refl
map_agrees f g h (x ∷ xs) m t =
    ap (λ y. y ∷ map g xs) (m x (and_parts (f x) _ t).0) ∙ ap (λ ys. h x ∷ ys) (map_agrees f g h xs m (and_parts (f x) _ t).1)
