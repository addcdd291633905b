-- A node or a leg more leaves what was drawn as it was.
use Rattle.std.proofs.Common.{◌≡◌, ℕ, ◌+◌, ◌<◌, true, ◌&&◌, eqb, ltb, List, [], ◌∷◌, ◌++◌, length, refl, ap, ◌∙◌, arith}
use Rattle.std.proofs.lemmas.List.{get_or_append_left, length_push}
use Rattle.std.proofs.lemmas.Bool.{and_parts, and_from, ltb-true, lt-ltb, false≢true}
use Rattle.std.proofs.lemmas.Bool.Decides.{nat_tests}
use Rattle.rules.specs.Network.{DrawnNode, DrawnLeg, node_at, leg_at, stretch_at, stretches, start_of, end_after, end_of, chained_from, chained, ends_of, nodes_met, no_twice, may_trade, joins, joins_all, one_to_eight, all_entered, path_holds, routed}
use Rattle.rules.proofs.Alls.{all_of_at, all_of_mono, map_agrees}

pub leg_kept : (ls : List DrawnLeg) (l : DrawnLeg) (k : ℕ) → ltb k (length ls) ≡ true → leg_at (ls ++ (l ∷ [])) k ≡ leg_at ls k
leg_kept ls l k h = get_or_append_left ls (l ∷ []) _ k (ltb-true _ _ h)

pub entered_more : (n : ℕ) (ks : List ℕ) → all_entered n ks ≡ true → all_entered (n + 1) ks ≡ true
entered_more n ks h = all_of_mono (λ k. ltb k n) (λ k. ltb k (n + 1)) ks (λ k e. lt-ltb k (n + 1) (omega (arith, ltb-true k n e))) h

module _ (ls : List DrawnLeg) (l : DrawnLeg) where
  abbrev more : List DrawnLeg
  more = ls ++ (l ∷ [])

  pub stretches_kept : (ks : List ℕ) → all_entered (length ls) ks ≡ true → stretches more ks ≡ stretches ls ks
  stretches_kept ks h =
      map_agrees (λ k. ltb k (length ls)) (stretch_at more) (stretch_at ls) ks
      (λ k e. ap (λ (x : DrawnLeg). record { rate = x.rate; tariff = x.tariff }) (leg_kept ls l k e)) h

  pub ends_kept : (ks : List ℕ) → all_entered (length ls) ks ≡ true → ends_of more ks ≡ ends_of ls ks
  ends_kept ks h =
      map_agrees (λ k. ltb k (length ls)) (λ k. (leg_at more k).to) (λ k. (leg_at ls k).to) ks
      (λ k e. ap (λ (x : DrawnLeg). x.to) (leg_kept ls l k e)) h

  pub start_kept : (ks : List ℕ) → all_entered (length ls) ks ≡ true → start_of more ks ≡ start_of ls ks
  start_kept [] h = refl
  start_kept (k ∷ ks) h = ap (λ (x : DrawnLeg). x.from) (leg_kept ls l k (and_parts (ltb k (length ls)) _ h).0)

  pub end_kept : (ks : List ℕ) (n : ℕ) → all_entered (length ls) ks ≡ true → end_after more n ks ≡ end_after ls n ks
  end_kept [] n h = refl
  end_kept (k ∷ ks) n h =
      end_kept ks (leg_at more k).to (and_parts (ltb k (length ls)) _ h).1
      ∙ ap (λ (x : DrawnLeg). end_after ls x.to ks) (leg_kept ls l k (and_parts (ltb k (length ls)) _ h).0)

  pub chain_kept : (ks : List ℕ) (n : ℕ) → all_entered (length ls) ks ≡ true → chained_from more n ks ≡ chained_from ls n ks
  chain_kept [] n h = refl
  chain_kept (k ∷ ks) n h =
      ap (λ b. eqb (leg_at more k).from n && b) (chain_kept ks (leg_at more k).to (and_parts (ltb k (length ls)) _ h).1)
      ∙ ap (λ (x : DrawnLeg). eqb x.from n && chained_from ls x.to ks) (leg_kept ls l k (and_parts (ltb k (length ls)) _ h).0)

-- where a path starts and ends is one of the nodes
module _ (n : ℕ) (ls : List DrawnLeg) (joined : joins_all n ls ≡ true) where
  joined_at : (k : ℕ) → ltb k (length ls) ≡ true → ((leg_at ls k).from < n) × ((leg_at ls k).to < n)
  joined_at k h =
      let t = and_parts (ltb (leg_at ls k).from n) (ltb (leg_at ls k).to n) (all_of_at (joins n) ls k _ joined (ltb-true _ _ h)) in
      (ltb-true _ _ t.0, ltb-true _ _ t.1)

  pub end_inside : (ks : List ℕ) (m : ℕ) → m < n → all_entered (length ls) ks ≡ true → end_after ls m ks < n
  end_inside [] m h e = h
  end_inside (k ∷ ks) m h e = end_inside ks (leg_at ls k).to (joined_at k (and_parts (ltb k (length ls)) _ e).0).1 (and_parts (ltb k (length ls)) _ e).1

  pub ends_inside : (ks : List ℕ) → one_to_eight ks ≡ true → all_entered (length ls) ks ≡ true → (start_of ls ks < n) × (end_of ls ks < n)
  ends_inside [] o e = absurd (false≢true o)
  ends_inside (k ∷ ks) o e =
      let j = joined_at k (and_parts (ltb k (length ls)) _ e).0 in
      (j.0, end_inside ks (leg_at ls k).to j.1 (and_parts (ltb k (length ls)) _ e).1)

-- what a path is, taken apart and put together
pub record Held (ns : List DrawnNode) (ls : List DrawnLeg) (ks : List ℕ) : Type 0 where
  pub some : one_to_eight ks ≡ true
  pub entered : all_entered (length ls) ks ≡ true
  pub links : chained ls ks ≡ true
  pub once : no_twice (nodes_met ls ks) ≡ true
  pub ends : may_trade (node_at ns (start_of ls ks)) (node_at ns (end_of ls ks)) ≡ true

pub held : (ns : List DrawnNode) (ls : List DrawnLeg) (ks : List ℕ) → path_holds ns ls ks ≡ true → Held ns ls ks
held ns ls ks h =
    let a = and_parts (one_to_eight ks && all_entered (length ls) ks) _ h in
    let b = and_parts (one_to_eight ks) _ a.0 in
    let c = and_parts (chained ls ks) _ a.1 in
    let d = and_parts (no_twice (nodes_met ls ks)) _ c.1 in
    record { some = b.0; entered = b.1; links = c.0; once = d.0; ends = d.1 }

pub holds : (ns : List DrawnNode) (ls : List DrawnLeg) (ks : List ℕ) → Held ns ls ks → path_holds ns ls ks ≡ true
holds ns ls ks h =
    and_from _ _ (and_from _ _ h.some h.entered) (and_from _ _ h.links (and_from _ _ h.once h.ends))

pub holds_with_node : (ns : List DrawnNode) (n : DrawnNode) (ls : List DrawnLeg) (ks : List ℕ) → joins_all (length ns) ls ≡ true → path_holds ns ls ks ≡ true → path_holds (ns ++ (n ∷ [])) ls ks ≡ true
holds_with_node ns n ls ks j h =
    let p = held ns ls ks h in
    let i = ends_inside (length ns) ls j ks p.some p.entered in
    let a = get_or_append_left ns (n ∷ []) _ (start_of ls ks) i.0 in
    let b = get_or_append_left ns (n ∷ []) _ (end_of ls ks) i.1 in
    holds (ns ++ (n ∷ [])) ls ks (record {
      some = p.some;
      entered = p.entered;
      links = p.links;
      once = p.once;
      ends = ap (λ x. may_trade x (node_at (ns ++ (n ∷ [])) (end_of ls ks))) a ∙ ap (λ x. may_trade (node_at ns (start_of ls ks)) x) b ∙ p.ends;
    })

pub holds_with_leg : (ns : List DrawnNode) (ls : List DrawnLeg) (l : DrawnLeg) (ks : List ℕ) → path_holds ns ls ks ≡ true → path_holds ns (ls ++ (l ∷ [])) ks ≡ true
holds_with_leg ns ls l ks h =
    let p = held ns ls ks h in
    let s = start_kept ls l ks p.entered in
    let e = end_kept ls l ks 0 p.entered in
    holds ns (ls ++ (l ∷ [])) ks (record {
      some = p.some;
      entered = ap (λ m. all_entered m ks) (length_push ls l) ∙ entered_more (length ls) ks p.entered;
      links = chain_kept ls l ks _ p.entered ∙ ap (λ m. chained_from ls m ks) s ∙ p.links;
      once = ap (λ m. no_twice (m ∷ ends_of (ls ++ (l ∷ [])) ks)) s ∙ ap (λ ms. no_twice (start_of ls ks ∷ ms)) (ends_kept ls l ks p.entered) ∙ p.once;
      ends = ap (λ m. may_trade (node_at ns m) (node_at ns (end_of (ls ++ (l ∷ [])) ks))) s ∙ ap (λ m. may_trade (node_at ns (start_of ls ks)) (node_at ns m)) e ∙ p.ends;
    })

pub routed_kept : (ls : List DrawnLeg) (l : DrawnLeg) (ks : List ℕ) → all_entered (length ls) ks ≡ true → routed (ls ++ (l ∷ [])) ks ≡ routed ls ks
routed_kept ls l ks h =
    let s = start_kept ls l ks h in
    let e = end_kept ls l ks 0 h in
    let t = stretches_kept ls l ks h in
    cc

pub joins_more : (n : ℕ) (ls : List DrawnLeg) → joins_all n ls ≡ true → joins_all (n + 1) ls ≡ true
joins_more n ls h =
    all_of_mono (joins n) (joins (n + 1)) ls (λ l e. grind (arith, nat_tests)) h
