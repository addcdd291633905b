-- How long the lines of a text are, and how many.
use Rattle.std.proofs.Common.{◌≡◌, ℕ, suc, ◌+◌, ◌≤◌, eqb, All, List, [], ◌∷◌, length, refl, arith}
use Rattle.std.proofs.lemmas.Bool.{cond_both}
use Rattle.std.proofs.lemmas.List.Elements.{All-head, All-cons, All-rest}
use Rattle.text.specs.Pieces.{longer, parted, lines}

-- no piece has more than n bytes
pub record NoLonger (n : ℕ) (pieces : List (List ℕ)) : Type 0 where
  pub each : All (λ piece. length piece ≤ n) pieces

module _ (n : ℕ) (first : List ℕ) (more pieces : List (List ℕ)) (is : pieces ≡ first ∷ more) (each : NoLonger n pieces) where
  pub first_no_longer : length first ≤ n
  first_no_longer = All-head (λ piece. length piece ≤ n) first more (rw is at each.each)

  pub rest_no_longer : NoLonger n more
  rest_no_longer = record { each = All-rest (λ piece. length piece ≤ n) first more pieces is each.each }

in_front : (n : ℕ) (p : List ℕ) (ps : List (List ℕ)) → length p ≤ n → NoLonger n ps → NoLonger n (p ∷ ps)
in_front n p ps l h = record { each = All-cons (λ piece. length piece ≤ n) p ps l h.each }

one_more : (n : ℕ) (ps : List (List ℕ)) → NoLonger n ps → NoLonger (suc n) ps
one_more n ps h = record { each = λ k d l. omega (arith, h.each k d l) }

longer_by_one : (b n : ℕ) (ps : List (List ℕ)) → NoLonger n ps → NoLonger (suc n) (longer b ps)
longer_by_one b n [] h = in_front (suc n) (b ∷ []) [] (omega arith) (one_more n [] h)
longer_by_one b n (p ∷ ps) h = in_front (suc n) (b ∷ p) ps (omega (arith, first_no_longer n p ps _ refl h)) (one_more n ps (rest_no_longer n p ps _ refl h))

parted_no_longer : (m : ℕ) (bs : List ℕ) → NoLonger (length bs) (parted [] m bs)
parted_no_longer m [] = record { each = λ k d l. absurd (omega arith) }
parted_no_longer m (b ∷ bs) =
    let rest = parted_no_longer m bs in
    cond_both (eqb b m) _ _ (NoLonger (suc (length bs))) (λ _. in_front (suc (length bs)) [] _ (omega arith) (one_more _ _ rest)) (λ _. longer_by_one b _ _ rest)

-- no line is longer than its text
pub lines_no_longer : (text : List ℕ) → NoLonger (length text) (lines text)
lines_no_longer text = parted_no_longer 10 text

one_more_at_most : (b : ℕ) (ps : List (List ℕ)) → length (longer b ps) ≤ 1 + length ps
one_more_at_most b [] = omega arith
one_more_at_most b (p ∷ ps) = omega arith

-- each line takes a byte or more
pub lines_few : (text : List ℕ) → length (lines text) ≤ length text
lines_few [] = omega arith
lines_few (b ∷ bs) =
    cond_both (eqb b 10) _ _ (λ ps. length ps ≤ suc (length bs)) (λ _. omega (arith, lines_few bs)) (λ _. omega (arith, lines_few bs, one_more_at_most b (lines bs)))
