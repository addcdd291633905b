-- What is printed of a case and some bids.
use Rattle.std.specs.Prelude.{ℕ, ◌+◌, List, [], ◌∷◌, ◌++◌, ℤ, Ok, Err, codes, decimal, Result}
use Rattle.std.specs.Fmt.{signed_decimal}
use Rattle.rules.specs.Convert.{claim_of}
use Rattle.rules.specs.Network.{Drawing, DrawnLeg, Route, routed}
use Rattle.reader.specs.Case.{read_text}
use Rattle.reader.specs.Report.{fault_line}
use Rattle.reader.specs.declared.fault.CaseFault.{CaseFault}

-- number, first and last node, yield in W and charge in billionths of a yuan for each MWh sent
abbrev pub path_line : ℕ → Route → List ℕ
path_line k r =
    codes "path " ++ (decimal k ++ (codes " " ++ (decimal r.from ++ (codes " " ++ (decimal r.to
    ++ (codes " " ++ (decimal r.yield ++ (codes " " ++ (decimal r.charge ++ codes "\n")))))))))

-- the path's number, the bid in yuan, and its claim in billionths of a yuan for each MWh sent
abbrev pub claim_line : ℕ → Route → ℤ → List ℕ
claim_line k r b =
    codes "claim " ++ (decimal k ++ (codes " " ++ (signed_decimal b ++ (codes " " ++ (signed_decimal (claim_of b r.yield r.charge) ++ codes "\n")))))

abbrev pub claim_lines : ℕ → Route → List ℤ → List ℕ
claim_lines k r [] = []
claim_lines k r (b ∷ bs) = claim_line k r b ++ claim_lines k r bs

-- each path with the claims of all bids, from path k on
abbrev pub path_lines : ℕ → List DrawnLeg → List (List ℕ) → List ℤ → List ℕ
path_lines k ls [] bs = []
path_lines k ls (p ∷ ps) bs = path_line k (routed ls p) ++ (claim_lines k (routed ls p) bs ++ path_lines (k + 1) ls ps bs)

abbrev pub listed : Drawing → List ℤ → List ℕ
listed d bs = path_lines 0 d.legs d.paths bs

-- the paths of the sheet that the text draws, or the one line of its fault
abbrev pub outcome_text : Result Drawing CaseFault → List ℤ → List ℕ
outcome_text (Ok d) bs = listed d bs
outcome_text (Err f) bs = fault_line f

abbrev pub converted : List ℕ → List ℤ → List ℕ
converted t bs = outcome_text (read_text t) bs
