-- Bytes parted at a mark: at its first place, where there is none, and one byte on.
use Rattle.std.proofs.Common.{◌≡◌, ℕ, zero, suc, ◌+◌, ◌<◌, ◌≤◌, cond, eqb, ◌==◌, count_by, List, [], ◌∷◌, length, get_or, take, drop, Some, None, refl, ap, ◌∙◌, arith}
use Rattle.std.proofs.lemmas.Bool.{eq-eqb, ne_eqb, cond-true, cond-false, cond_both}
use Rattle.std.proofs.lemmas.List.Sums.{sum_by-cons, count_by-le-length}
use Rattle.text.specs.Pieces.{longer, parted, after}

-- the first n bytes are not the mark
abbrev pub Free : ℕ → List ℕ → ℕ → Type 0
Free m xs n = (k : ℕ) → k < n → get_or xs k 0 ≡ m → ⊥

free_tail : (m x : ℕ) (xs : List ℕ) (n : ℕ) → Free m (x ∷ xs) (suc n) → Free m xs n
free_tail m x xs n f k h = f (suc k) (omega arith)

pub parted_at : (last : List (List ℕ)) (m : ℕ) (xs : List ℕ) (i : ℕ) → i < length xs → Free m xs i → get_or xs i 0 ≡ m → parted last m xs ≡ take i xs ∷ parted last m (drop (suc i) xs)
parted_at last m [] i l f e = absurd (omega arith)
parted_at last m (x ∷ xs) zero l f e = cond-true (eqb x m) _ _ (eq-eqb x m e)
parted_at last m (x ∷ xs) (suc i) l f e =
    cond-false (eqb x m) _ _ (ne_eqb x m (f 0 (omega arith))) ∙ ap (longer x) (parted_at last m xs i (omega arith) (free_tail m x xs i f) e)

pub after_at : (m : ℕ) (xs : List ℕ) (i : ℕ) → i < length xs → Free m xs i → get_or xs i 0 ≡ m → after m xs ≡ Some (drop (suc i) xs)
after_at m [] i l f e = absurd (omega arith)
after_at m (x ∷ xs) zero l f e = cond-true (eqb x m) _ _ (eq-eqb x m e)
after_at m (x ∷ xs) (suc i) l f e =
    cond-false (eqb x m) _ _ (ne_eqb x m (f 0 (omega arith))) ∙ after_at m xs i (omega arith) (free_tail m x xs i f) e

pub words_whole : (m : ℕ) (xs : List ℕ) → Free m xs (length xs) → parted ([] ∷ []) m xs ≡ xs ∷ []
words_whole m [] f = refl
words_whole m (x ∷ xs) f =
    cond-false (eqb x m) _ _ (ne_eqb x m (f 0 (omega arith))) ∙ ap (longer x) (words_whole m xs (free_tail m x xs _ f))

pub lines_whole : (m : ℕ) (xs : List ℕ) → 0 < length xs → Free m xs (length xs) → parted [] m xs ≡ xs ∷ []
lines_whole m [] l f = absurd (omega arith)
lines_whole m (x ∷ []) l f = cond-false (eqb x m) _ _ (ne_eqb x m (f 0 (omega arith)))
lines_whole m (x ∷ (y ∷ ys)) l f =
    cond-false (eqb x m) _ _ (ne_eqb x m (f 0 (omega arith))) ∙ ap (longer x) (lines_whole m (y ∷ ys) (omega arith) (free_tail m x (y ∷ ys) _ f))

pub after_none : (m : ℕ) (xs : List ℕ) → Free m xs (length xs) → after m xs ≡ None
after_none m [] f = refl
after_none m (x ∷ xs) f = cond-false (eqb x m) _ _ (ne_eqb x m (f 0 (omega arith))) ∙ after_none m xs (free_tail m x xs _ f)

-- there is a piece wherever a last one is
grown : (x : ℕ) (ps : List (List ℕ)) → 0 < length ps → length (longer x ps) ≡ length ps
grown x [] h = absurd (omega arith)
grown x (p ∷ ps) h = refl

pub words_some : (m : ℕ) (xs : List ℕ) → 0 < length (parted ([] ∷ []) m xs)
words_some m [] = omega arith
words_some m (x ∷ xs) =
    cond_both (eqb x m) _ _ (λ ps. 0 < length ps) (λ _. omega arith)
    (λ _. omega (arith, words_some m xs, grown x (parted ([] ∷ []) m xs) (words_some m xs)))

-- there is one piece more than there are marks
pub words_count : (m : ℕ) (xs : List ℕ) → length (parted ([] ∷ []) m xs) ≡ count_by (λ b. b == m) xs + 1
words_count m [] = refl
words_count m (x ∷ xs) =
    let more = sum_by-cons (λ b. cond (eqb b m) 1 0) x xs in
    cond_both (eqb x m) _ _ (λ ps. length ps ≡ count_by (λ b. b == m) (x ∷ xs) + 1)
    (λ e. omega (arith, more, cond-true {A = ℕ} (eqb x m) 1 0 e, words_count m xs))
    (λ e. omega (arith, more, cond-false {A = ℕ} (eqb x m) 1 0 e, grown x _ (words_some m xs), words_count m xs))

pub words_few : (m : ℕ) (xs : List ℕ) → length (parted ([] ∷ []) m xs) ≤ length xs + 1
words_few m xs = omega (arith, words_count m xs, count_by-le-length (λ b. b == m) xs)
