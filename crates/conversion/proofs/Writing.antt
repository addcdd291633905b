-- A listing is written line by line.
use Rattle.std.proofs.Common.{◌≡◌, ℕ, ◌+◌, ◌<◌, ◌≤◌, List, [], ◌++◌, length, get_or, drop, ℤ, sym, ap, ◌∙◌, append_assoc, append-nil}
use Rattle.std.proofs.lemmas.List.{at_drop_more, at_drop_all}
use Rattle.rules.specs.Network.{DrawnLeg, Route, routed}
use Rattle.rules.specs.declared.price.Yuan.{Yuan}
use Rattle.conversion.specs.Listing.{path_line, claim_line, claim_lines, path_lines}
use Rattle.conversion.specs.Offers.{whole_yuan}

-- what was written, with one part more, and what comes after it
goes_on : (out part coming : List ℕ) (new : List ℕ) → new ≡ out ++ part → new ++ coming ≡ out ++ (part ++ coming)
goes_on out part coming new e = ap (λ t. t ++ coming) e ∙ append_assoc out part coming

pub all_written : (out coming whole : List ℕ) → coming ≡ [] → out ++ coming ≡ whole → out ≡ whole
all_written out coming whole e h = sym (append-nil out) ∙ ap (λ t. out ++ t) (sym e) ∙ h

module _ (k : ℕ) (r : Route) (bs : List Yuan) (i : ℕ) where
  pub claims_on : (b : Yuan) (out new : List ℕ) → i < length bs → b ≡ get_or bs i b → new ≡ out ++ claim_line k r b.whole
      → new ++ claim_lines k r (whole_yuan (drop (i + 1) bs)) ≡ out ++ claim_lines k r (whole_yuan (drop i bs))
  claims_on b out new l is e =
      let coming = claim_lines k r (whole_yuan (drop (i + 1) bs)) in
      goes_on out (claim_line k r b.whole) coming new e
      ∙ ap (λ (x : Yuan). out ++ (claim_line k r x.whole ++ coming)) is
      ∙ ap (λ t. out ++ t) (sym (at_drop_more (λ xs. claim_lines k r (whole_yuan xs)) bs i b l))

  pub claims_done : length bs ≤ i → claim_lines k r (whole_yuan (drop i bs)) ≡ []
  claims_done l = at_drop_all (λ xs. claim_lines k r (whole_yuan xs)) bs i l

module _ (ls : List DrawnLeg) (ps : List (List ℕ)) (bs : List ℤ) (k : ℕ) where
  pub paths_on : (r : Route) (out new : List ℕ) → k < length ps → r ≡ routed ls (get_or ps k []) → new ≡ out ++ (path_line k r ++ claim_lines k r bs)
      → new ++ path_lines (k + 1) ls (drop (k + 1) ps) bs ≡ out ++ path_lines k ls (drop k ps) bs
  paths_on r out new l is e =
      let coming = path_lines (k + 1) ls (drop (k + 1) ps) bs in
      goes_on out (path_line k r ++ claim_lines k r bs) coming new e
      ∙ ap (λ t. out ++ t) (append_assoc (path_line k r) (claim_lines k r bs) coming)
      ∙ ap (λ (x : Route). out ++ (path_line k x ++ (claim_lines k x bs ++ coming))) is
      ∙ ap (λ t. out ++ t) (sym (at_drop_more (λ xs. path_lines k ls xs bs) ps k [] l))

  pub paths_done : length ps ≤ k → path_lines k ls (drop k ps) bs ≡ []
  paths_done l = at_drop_all (λ xs. path_lines k ls xs bs) ps k l
