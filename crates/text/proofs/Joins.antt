-- Lines and words that are joined and read back, and the other way.
use Rattle.std.proofs.Common.{◌≡◌, ℕ, zero, suc, ◌<◌, true, false, ◌||◌, eqb, ◌⊎◌, List, [], ◌∷◌, ◌++◌, length, sym, refl, ap, ◌∙◌, inl, inr, arith}
use Rattle.std.proofs.lemmas.Bool.{eq-eqb, eqb-true, cond-true, cond-false, cond_both, and_parts, and_from, not-true, or_parts, or_from, not_from_false, false≢true}
use Rattle.rules.specs.Lists.{all_of, has}
use Rattle.text.specs.Pieces.{longer, parted, lines, words}
use Rattle.text.specs.Format.{join_words, join_lines, lacks}
use Rattle.text.proofs.Parting.{Free, words_whole, words_some}

pub lacks_parts : (m x : ℕ) (xs : List ℕ) → lacks m (x ∷ xs) ≡ true → (eqb x m ≡ false) × (lacks m xs ≡ true)
lacks_parts m x xs h =
    let p = or_parts (eqb x m) (has m xs) (not-true (eqb x m || has m xs) h) in
    (p.0, not_from_false (has m xs) p.1)

pub lacks_more : (m x : ℕ) (xs : List ℕ) → eqb x m ≡ false → lacks m xs ≡ true → lacks m (x ∷ xs) ≡ true
lacks_more m x xs e h = not_from_false (eqb x m || has m xs) (or_from (eqb x m) (has m xs) e (not-true (has m xs) h))

-- a front with no mark, and then a mark
pub parted_front : (last : List (List ℕ)) (m : ℕ) (a bs : List ℕ) → lacks m a ≡ true → parted last m (a ++ (m ∷ bs)) ≡ a ∷ parted last m bs
parted_front last m [] bs h = cond-true (eqb m m) _ _ (eq-eqb m m refl)
parted_front last m (x ∷ a) bs h =
    let p = lacks_parts m x a h in
    cond-false (eqb x m) _ _ p.0 ∙ ap (longer x) (parted_front last m a bs p.1)

lacks_free : (m : ℕ) (a : List ℕ) → lacks m a ≡ true → Free m a (length a)
lacks_free m [] h k l e = absurd (omega arith)
lacks_free m (x ∷ a) h zero l e = absurd (false≢true (sym (lacks_parts m x a h).0 ∙ eq-eqb x m e))
lacks_free m (x ∷ a) h (suc k) l e = lacks_free m a (lacks_parts m x a h).1 k (omega arith) e

pub lines_back : (ls : List (List ℕ)) → all_of (lacks 10) ls ≡ true → lines (join_lines ls) ≡ ls
lines_back [] h = refl
lines_back (l ∷ ls) h =
    let p = and_parts (lacks 10 l) (all_of (lacks 10) ls) h in
    parted_front [] 10 l (join_lines ls) p.0 ∙ ap (λ qs. l ∷ qs) (lines_back ls p.1)

pub words_back : (w : List ℕ) (ws : List (List ℕ)) → all_of (lacks 32) (w ∷ ws) ≡ true → words (join_words (w ∷ ws)) ≡ w ∷ ws
words_back w [] h = words_whole 32 w (lacks_free 32 w (and_parts (lacks 32 w) true h).0)
words_back w (v ∷ ws) h =
    let p = and_parts (lacks 32 w) (all_of (lacks 32) (v ∷ ws)) h in
    parted_front ([] ∷ []) 32 w (join_words (v ∷ ws)) p.0 ∙ ap (λ qs. w ∷ qs) (words_back v ws p.1)

join_words_mark : (ps : List (List ℕ)) → 0 < length ps → join_words ([] ∷ ps) ≡ 32 ∷ join_words ps
join_words_mark [] h = absurd (omega arith)
join_words_mark (p ∷ ps) h = refl

join_words_longer : (b : ℕ) (ps : List (List ℕ)) → 0 < length ps → join_words (longer b ps) ≡ b ∷ join_words ps
join_words_longer b [] h = absurd (omega arith)
join_words_longer b (p ∷ []) h = refl
join_words_longer b (p ∷ (q ∷ qs)) h = refl

pub words_join : (l : List ℕ) → join_words (words l) ≡ l
words_join [] = refl
words_join (b ∷ bs) =
    cond_both (eqb b 32) _ _ (λ ps. join_words ps ≡ b ∷ bs)
    (λ e. join_words_mark (words bs) (words_some 32 bs) ∙ ap (λ x. x ∷ join_words (words bs)) (sym (eqb-true b 32 e)) ∙ ap (λ l. b ∷ l) (words_join bs))
    (λ e. join_words_longer b (words bs) (words_some 32 bs) ∙ ap (λ l. b ∷ l) (words_join bs))

longer_some : (b : ℕ) (ps : List (List ℕ)) → 0 < length (longer b ps)
longer_some b [] = omega arith
longer_some b (p ∷ ps) = omega arith

pub lines_some : (b : ℕ) (bs : List ℕ) → 0 < length (lines (b ∷ bs))
lines_some b bs = cond_both (eqb b 10) _ _ (λ ps. 0 < length ps) (λ _. omega arith) (λ _. longer_some b (lines bs))

join_lines_longer : (b : ℕ) (ps : List (List ℕ)) → 0 < length ps → join_lines (longer b ps) ≡ b ∷ join_lines ps
join_lines_longer b [] h = absurd (omega arith)
join_lines_longer b (p ∷ ps) h = refl

-- j is t, or t with a newline more
abbrev Ended : List ℕ → List ℕ → Type 0
Ended t j = (j ≡ t) ⊎ (j ≡ t ++ (10 ∷ []))

ended_more : (b : ℕ) (t j i : List ℕ) → i ≡ b ∷ j → Ended t j → Ended (b ∷ t) i
ended_more b t j i e (inl h) = inl (e ∙ ap (λ l. b ∷ l) h)
ended_more b t j i e (inr h) = inr (e ∙ ap (λ l. b ∷ l) h)

pub lines_join : (t : List ℕ) → (join_lines (lines t) ≡ t) ⊎ (join_lines (lines t) ≡ t ++ (10 ∷ []))
lines_join [] = inl refl
lines_join (b ∷ []) =
    cond_both (eqb b 10) ([] ∷ []) ((b ∷ []) ∷ []) (λ ps. Ended (b ∷ []) (join_lines ps))
    (λ e. inl (ap (λ x. x ∷ []) (sym (eqb-true b 10 e)))) (λ e. inr refl)
lines_join (b ∷ (d ∷ bs)) =
    cond_both (eqb b 10) ([] ∷ lines (d ∷ bs)) (longer b (lines (d ∷ bs))) (λ ps. Ended (b ∷ (d ∷ bs)) (join_lines ps))
    (λ e. ended_more b (d ∷ bs) _ _ (ap (λ x. x ∷ join_lines (lines (d ∷ bs))) (sym (eqb-true b 10 e))) (lines_join (d ∷ bs)))
    (λ e. ended_more b (d ∷ bs) _ _ (join_lines_longer b (lines (d ∷ bs)) (lines_some d bs)) (lines_join (d ∷ bs)))

longer_lack : (m b : ℕ) (ps : List (List ℕ)) → eqb b m ≡ false → all_of (lacks m) ps ≡ true → all_of (lacks m) (longer b ps) ≡ true
longer_lack m b [] e h = and_from (lacks m (b ∷ [])) true (lacks_more m b [] e refl) refl
longer_lack m b (p ∷ ps) e h =
    let q = and_parts (lacks m p) (all_of (lacks m) ps) h in
    and_from (lacks m (b ∷ p)) (all_of (lacks m) ps) (lacks_more m b p e q.0) q.1

-- no piece has the mark
pub parted_lack : (last : List (List ℕ)) (m : ℕ) (bs : List ℕ) → all_of (lacks m) last ≡ true → all_of (lacks m) (parted last m bs) ≡ true
parted_lack last m [] h = h
parted_lack last m (b ∷ bs) h =
    cond_both (eqb b m) _ _ (λ ps. all_of (lacks m) ps ≡ true) (λ _. parted_lack last m bs h)
    (λ e. longer_lack m b (parted last m bs) e (parted_lack last m bs h))
