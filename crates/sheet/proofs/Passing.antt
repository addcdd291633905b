-- What a path is of which every question is answered yes.
use Rattle.std.proofs.Common.{◌≡◌, ℕ, ◌+◌, ◌<◌, ◌≤◌, Bool, true, false, not, eqb, ltb, leb, List, [], ◌∷◌, ◌++◌, length, get_or, Some, None, Ok, Err, Result, IfOk, MatchResult, sym, refl, ap, ◌∙◌, append_assoc, append-nil, arith}
use Rattle.std.specs.Bool.{⊤}
use Rattle.std.proofs.lemmas.Result.{MatchResult-at_ok}
use Rattle.std.proofs.lemmas.Bool.{and_parts, and_from, or_parts, or_from, not-true, not_from_false, eqb-false, ne_eqb, leb-true}
use Rattle.std.proofs.lemmas.List.{length-map, get_or-map}
use Rattle.rules.specs.Lists.{has}
use Rattle.rules.specs.Network.{DrawnNode, DrawnLeg, leg_at, start_of, ends_of, chained_from, chained, nodes_met, no_twice, one_to_eight, all_entered, path_holds, joins_all, end_of, node_at, may_trade}
use Rattle.rules.specs.Questions.{Answer, Asked, asked, answered, each_from, first_no}
use Rattle.rules.specs.declared.fault.Fault.{Fault}
use Rattle.rules.proofs.Asking.{never, passes, asks_on, asks_stop, each_all, was_ok}
use Rattle.rules.proofs.Networks.{holds, ends_inside}
use Rattle.sheet.specs.Asks.{legs_answer, chain_from, chain_answer, nodes_from, nodes_answer, ends_trade, chain_questions}
use Rattle.sheet.specs.Views.{node_of, leg_of, legs_of, nodes_of}
use Rattle.sheet.specs.declared.chain.Chain.{Chain}
use Rattle.sheet.specs.declared.leg.Leg.{Leg}
use Rattle.sheet.specs.declared.node.Node.{Node}
use Rattle.sheet.specs.declared.question.SheetQuestion.{SheetQuestion}
use Rattle.sheet.specs.declared.question.SheetQuestion.TheVariants.{PathLegs, PathChain, PathNodes, PathEnds}

-- a test whose yes ends the question
clears : (b : Bool) (i : ℕ) (a : Answer) → ◌≡◌ {A = Answer} (elim b [ true ↦ Err i | false ↦ a ]) (Ok tt) → (b ≡ false) × (a ≡ Ok tt)
clears true i a h = absurd (never h)
clears false i a h = (refl, h)

pub legs_pass : (n : ℕ) (ks : List ℕ) → legs_answer n ks ≡ Ok tt → (one_to_eight ks ≡ true) × (all_entered n ks ≡ true)
legs_pass n ks h =
    let p = passes (one_to_eight ks) 0 (each_from 1 (λ k. ltb k n) ks) h in
    (p.0, each_all (λ k. ltb k n) 1 ks p.1)

chain_all : (ls : List DrawnLeg) (n i : ℕ) (ks : List ℕ) → chain_from ls n i ks ≡ Ok tt → chained_from ls n ks ≡ true
chain_all ls n i [] h = refl
chain_all ls n i (k ∷ ks) h =
    let p = passes (eqb (leg_at ls k).from n) i (chain_from ls (leg_at ls k).to (i + 1) ks) h in
    and_from (eqb (leg_at ls k).from n) _ p.0 (chain_all ls (leg_at ls k).to (i + 1) ks p.1)

pub chain_pass : (ls : List DrawnLeg) (ks : List ℕ) → chain_answer ls ks ≡ Ok tt → chained ls ks ≡ true
chain_pass ls ks h = chain_all ls (start_of ls ks) 1 ks h

has_push : (n x : ℕ) (ms : List ℕ) → has n ms ≡ false → (x ≡ n → ⊥) → has n (ms ++ (x ∷ [])) ≡ false
has_push n x [] h ne = or_from (eqb x n) false (ne_eqb x n ne) refl
has_push n x (m ∷ ms) h ne =
    let p = or_parts (eqb m n) (has n ms) h in
    or_from (eqb m n) _ p.0 (has_push n x ms p.1 ne)

pub no_twice_push : (ms : List ℕ) (x : ℕ) → no_twice ms ≡ true → has x ms ≡ false → no_twice (ms ++ (x ∷ [])) ≡ true
no_twice_push [] x h k = refl
no_twice_push (m ∷ ms) x h k =
    let p = and_parts (not (has m ms)) _ h in
    let q = or_parts (eqb m x) (has x ms) k in
    and_from (not (has m (ms ++ (x ∷ [])))) _
    (not_from_false _ (has_push m x ms (not-true _ p.0) (λ e. eqb-false m x q.0 (sym e))))
    (no_twice_push ms x p.1 q.1)

nodes_all : (ls : List DrawnLeg) (met : List ℕ) (i : ℕ) (ks : List ℕ) → nodes_from ls met i ks ≡ Ok tt → no_twice met ≡ true → no_twice (met ++ ends_of ls ks) ≡ true
nodes_all ls met i [] h t = ap no_twice (append-nil met) ∙ t
nodes_all ls met i (k ∷ ks) h t =
    let to = (leg_at ls k).to in
    let p = clears (has to met) i (nodes_from ls (met ++ (to ∷ [])) (i + 1) ks) h in
    ap no_twice (sym (append_assoc met (to ∷ []) (ends_of ls ks)))
    ∙ nodes_all ls (met ++ (to ∷ [])) (i + 1) ks p.1 (no_twice_push met to t p.0)

pub nodes_pass : (ls : List DrawnLeg) (ks : List ℕ) → nodes_answer ls ks ≡ Ok tt → no_twice (nodes_met ls ks) ≡ true
nodes_pass ls ks h = nodes_all ls (start_of ls ks ∷ []) 1 ks h refl

pub path_passes : (ns : List DrawnNode) (ls : List DrawnLeg) (ks : List ℕ) → legs_answer (length ls) ks ≡ Ok tt → chain_answer ls ks ≡ Ok tt → nodes_answer ls ks ≡ Ok tt → ends_trade ns ls ks ≡ true → path_holds ns ls ks ≡ true
path_passes ns ls ks a b c e =
    let p = legs_pass (length ls) ks a in
    holds ns ls ks (record { some = p.0; entered = p.1; links = chain_pass ls ks b; once = nodes_pass ls ks c; ends = e })

-- the questions on a chain, of which those on the legs are answered yes
module _ (ns : List DrawnNode) (ls : List DrawnLeg) (ks : List ℕ)
    (legs_fine : legs_answer (length ls) ks ≡ Ok tt) (chain_fine : chain_answer ls ks ≡ Ok tt) (nodes_fine : nodes_answer ls ks ≡ Ok tt) where
  abbrev last_question : List (Asked SheetQuestion)
  last_question = asked PathEnds (answered (ends_trade ns ls ks)) ∷ []

  abbrev after_chain : List (Asked SheetQuestion)
  after_chain = asked PathNodes (nodes_answer ls ks) ∷ last_question

  to_ends : first_no (chain_questions ns ls ks) ≡ first_no last_question
  to_ends =
      asks_on PathLegs (legs_answer (length ls) ks) (asked PathChain (chain_answer ls ks) ∷ after_chain) legs_fine
      ∙ asks_on PathChain (chain_answer ls ks) after_chain chain_fine
      ∙ asks_on PathNodes (nodes_answer ls ks) last_question nodes_fine

  pub fails_ends : ends_trade ns ls ks ≡ false → first_no (chain_questions ns ls ks) ≡ Some (record { question = PathEnds; place = 0 })
  fails_ends e = to_ends ∙ asks_stop PathEnds (answered (ends_trade ns ls ks)) [] 0 (ap answered e)

  pub passes_all : ends_trade ns ls ks ≡ true → first_no (chain_questions ns ls ks) ≡ None
  passes_all e = to_ends ∙ asks_on PathEnds (answered (ends_trade ns ls ks)) [] (ap answered e)

pub few_legs_lem : (ks : List ℕ) → one_to_eight ks ≡ true → (1 ≤ length ks) × (length ks ≤ 8)
few_legs_lem ks h = let p = and_parts (leb 1 (length ks)) _ h in (leb-true _ _ p.0, leb-true _ _ p.1)

-- what is known of the chain that was made of the legs ks
pub record MadeOf (legs : List Leg) (ks : List ℕ) (chain : Chain) : Type 1 where
  pub legs_fine : legs_answer (length (legs_of legs)) ks ≡ Ok tt
  pub numbers : chain.numbers.now ≡ ks
  -- what is worked out along the chain is worked out along those legs
  pub along : {Y : Type 0} (f : List DrawnLeg → List ℕ → Y) → f (legs_of chain.all.now) chain.numbers.now ≡ f (legs_of legs) ks

pub made_of : (legs all : List Leg) (ks : List ℕ) (made : Result Chain ℕ) (chain : Chain) → all ≡ legs
    → MatchResult made (λ c. ◌≡◌ {A = Result Chain (Fault SheetQuestion)} (Ok chain) (Ok c)) (λ _. ⊥)
    → MatchResult made (λ _. legs_answer (length all) ks ≡ Ok tt) (λ p. legs_answer (length all) ks ≡ Err p)
    → IfOk made (λ c. c.all.now ≡ all) → IfOk made (λ c. c.numbers.now ≡ ks) → MadeOf legs ks chain
made_of legs all ks made chain lent was answer same_all same_numbers =
    let is : made ≡ Ok chain = was_ok (Fault SheetQuestion) made chain was in
    let of_all : chain.all.now ≡ legs = MatchResult-at_ok (λ (c : Chain). c.all.now ≡ all) (λ _. ⊤) chain is same_all ∙ lent in
    let of_numbers : chain.numbers.now ≡ ks = MatchResult-at_ok (λ (c : Chain). c.numbers.now ≡ ks) (λ _. ⊤) chain is same_numbers in
    record {
      legs_fine = ap (λ n. legs_answer n ks) (length-map legs leg_of ∙ sym (ap length lent)) ∙ MatchResult-at_ok (λ _. legs_answer (length all) ks ≡ Ok tt) (λ p. legs_answer (length all) ks ≡ Err p) chain is answer;
      numbers = of_numbers;
      along = λ f. ap (λ xs. f (legs_of xs) chain.numbers.now) of_all ∙ ap (f (legs_of legs)) of_numbers;
    }

module _ (legs : List Leg) (ks : List ℕ) (chain : Chain) (made : MadeOf legs ks chain) where
  -- a question that is put along the chain, and answered yes
  pub asked_along : (f : List DrawnLeg → List ℕ → Answer) (r : Answer) (done : Unit {0}) → r ≡ f (legs_of chain.all.now) chain.numbers.now
      → MatchResult r (λ x. ◌≡◌ {A = Result (Unit {0}) (Fault SheetQuestion)} (Ok done) (Ok x)) (λ _. ⊥) → f (legs_of legs) ks ≡ Ok tt
  asked_along f r done is was = sym (made.along f) ∙ sym is ∙ was_ok (Fault SheetQuestion) r done was

  -- the nodes where the chain starts and ends
  module _ (ns : List Node) (n : ℕ) (many : n ≡ length ns) (joined : joins_all n (legs_of legs) ≡ true) (s t : ℕ)
      (starts : s ≡ start_of (legs_of chain.all.now) chain.numbers.now) (ends : t ≡ end_of (legs_of chain.all.now) chain.numbers.now) where
    pub ends_entered : (s < n) × (t < n)
    ends_entered =
        let p = legs_pass (length (legs_of legs)) ks made.legs_fine in
        let inside = ends_inside n (legs_of legs) joined ks p.0 p.1 in
        (omega (arith, inside.0, made.along start_of, starts), omega (arith, inside.1, made.along end_of, ends))

    pub ends_found : (a b : Node) → a ≡ get_or ns s a → b ≡ get_or ns t b → may_trade (node_of a) (node_of b) ≡ ends_trade (nodes_of ns) (legs_of legs) ks
    ends_found a b e f =
        let inside = ends_entered in
        let first : node_of a ≡ node_at (nodes_of ns) (start_of (legs_of legs) ks) = ap node_of e ∙ sym (get_or-map node_of ns s a _ (omega (arith, inside.0, many))) ∙ ap (node_at (nodes_of ns)) (starts ∙ made.along start_of) in
        let last : node_of b ≡ node_at (nodes_of ns) (end_of (legs_of legs) ks) = ap node_of f ∙ sym (get_or-map node_of ns t b _ (omega (arith, inside.1, many))) ∙ ap (node_at (nodes_of ns)) (ends ∙ made.along end_of) in
        ap (λ x. may_trade x (node_of b)) first ∙ ap (may_trade (node_at (nodes_of ns) (start_of (legs_of legs) ks))) last
