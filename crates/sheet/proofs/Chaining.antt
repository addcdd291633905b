-- The steps of the questions on a path's legs.
use Rattle.std.proofs.Common.{◌≡◌, ℕ, suc, ◌+◌, ◌-◌, ◌<◌, Bool, true, false, ◌||◌, eqb, ltb, List, [], ◌∷◌, ◌++◌, length, get_or, drop, Err, sym, refl, ap, ◌∙◌, arith}
use Rattle.std.specs.List.{list_any}
use Rattle.std.proofs.lemmas.List.{at_drop_more}
use Rattle.rules.specs.Network.{DrawnLeg, leg_at, end_after, one_to_eight}
use Rattle.rules.specs.Lists.{has}
use Rattle.rules.specs.Questions.{each_from}
use Rattle.sheet.specs.Asks.{chain_from, legs_answer, nodes_from}

pub legs_counted : (n : ℕ) (ks : List ℕ) → one_to_eight ks ≡ true → legs_answer n ks ≡ each_from 1 (λ k. ltb k n) ks
legs_counted n ks t = rw (t, legs_answer)

pub chain_more : (ls : List DrawnLeg) (n i k : ℕ) (ks : List ℕ) → eqb (leg_at ls k).from n ≡ true → chain_from ls n i (k ∷ ks) ≡ chain_from ls (leg_at ls k).to (i + 1) ks
chain_more ls n i k ks h = rw (h, chain_from)

pub chain_ends : (ls : List DrawnLeg) (n i k : ℕ) (ks : List ℕ) → eqb (leg_at ls k).from n ≡ false → chain_from ls n i (k ∷ ks) ≡ Err i
chain_ends ls n i k ks h = rw (h, chain_from)

pub nodes_more : (ls : List DrawnLeg) (met : List ℕ) (i k : ℕ) (ks : List ℕ) → has (leg_at ls k).to met ≡ false → nodes_from ls met i (k ∷ ks) ≡ nodes_from ls (met ++ ((leg_at ls k).to ∷ [])) (i + 1) ks
nodes_more ls met i k ks h = rw (h, nodes_from)

pub nodes_end : (ls : List DrawnLeg) (met : List ℕ) (i k : ℕ) (ks : List ℕ) → has (leg_at ls k).to met ≡ true → nodes_from ls met i (k ∷ ks) ≡ Err i
nodes_end ls met i k ks h = rw (h, nodes_from)

pub end_last : (ls : List DrawnLeg) (n : ℕ) (ks : List ℕ) → 0 < length ks → (leg_at ls (get_or ks (length ks - 1) 0)).to ≡ end_after ls n ks
end_last ls n [] h = absurd (omega arith)
end_last ls n (k ∷ []) h = refl
end_last ls n (k ∷ (j ∷ ks)) h =
    let e : length (k ∷ (j ∷ ks)) - 1 ≡ suc (length (j ∷ ks) - 1) = omega arith in
    ap (λ i. (leg_at ls (get_or (k ∷ (j ∷ ks)) i 0)).to) e ∙ end_last ls (leg_at ls k).to (j ∷ ks) (omega arith)

-- one node more is met, or one that was met before
module _ (ls : List DrawnLeg) (met ks : List ℕ) (i : ℕ) (below : i < length ks) (x : DrawnLeg) (is : x ≡ leg_at ls (get_or ks i 0)) where
  abbrev to : DrawnLeg → ℕ
  to y = y.to

  pub nodes_next : has x.to met ≡ false → nodes_from ls met (i + 1) (drop i ks) ≡ nodes_from ls (met ++ (x.to ∷ [])) (i + 1 + 1) (drop (i + 1) ks)
  nodes_next h =
      at_drop_more (nodes_from ls met (i + 1)) ks i 0 below
      ∙ nodes_more ls met (i + 1) (get_or ks i 0) (drop (i + 1) ks) (ap (λ y. has (to y) met) (sym is) ∙ h)
      ∙ ap (λ y. nodes_from ls (met ++ (to y ∷ [])) (i + 1 + 1) (drop (i + 1) ks)) (sym is)

  pub nodes_stop : has x.to met ≡ true → nodes_from ls met (i + 1) (drop i ks) ≡ Err (i + 1)
  nodes_stop h =
      at_drop_more (nodes_from ls met (i + 1)) ks i 0 below
      ∙ nodes_end ls met (i + 1) (get_or ks i 0) (drop (i + 1) ks) (ap (λ y. has (to y) met) (sym is) ∙ h)

-- what a search of the nodes met answers
any_is_has : (n : ℕ) (ms : List ℕ) → list_any (λ m. eqb m n) ms ≡ has n ms
any_is_has n [] = refl
any_is_has n (m ∷ ms) = ap (λ b. eqb m n || b) (any_is_has n ms)

pub met_before : (n : ℕ) (met slice : List ℕ) (found : Bool) → slice ≡ met → found ≡ list_any (λ m. eqb m n) slice → has n met ≡ found
met_before n met slice found e is = sym (is ∙ any_is_has n slice ∙ ap (has n) e)
