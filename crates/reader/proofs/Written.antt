-- Lines that are written are read back, and the first fault decides.
use Rattle.std.proofs.Common.{◌≡◌, ℕ, ◌+◌, ◌^◌, ◌<◌, true, ltb, List, [], ◌∷◌, ◌++◌, map, length, get_or, drop, Some, Ok, Err, decimal, Result, sym, refl, ap, ◌∙◌, add-zero, arith}
use Rattle.std.proofs.lemmas.List.{length-map}
use Rattle.std.proofs.lemmas.Bool.{and_parts, and_from, ltb-true}
use Rattle.rules.specs.Lists.{all_of}
use Rattle.rules.specs.Network.{Drawing}
use Rattle.rules.specs.Questions.{each_from}
use Rattle.rules.specs.declared.fault.Fault.{Fault}
use Rattle.rules.proofs.Asking.{each_on}
use Rattle.text.specs.Figures.{is_figure, value}
use Rattle.text.specs.Format.{join_words, lacks, unbroken}
use Rattle.text.specs.Pieces.{words}
use Rattle.text.specs.Words.{spelled, word_of}
use Rattle.text.proofs.Joins.{lines_back, words_back, lacks_parts, lacks_more}
use Rattle.text.proofs.Reading.{figure_some}
use Rattle.text.proofs.Written.{decimal_is_figure, figure_back, decimal_whole, word_back, spelled_whole}
use Rattle.reader.specs.Case.{first_word, figure_words, figures_of, said_step, read_lines, line_step, at_line, Step, ends, fails, leads}
use Rattle.reader.specs.Format.{CaseLine, takes, take_lines, FirstFault, short_figures, written_line, said_by, line_said, ReadingStands}
use Rattle.reader.proofs.Stepping.{follow}
use Rattle.reader.specs.declared.fault.CaseFault.{CaseFault}
use Rattle.reader.specs.declared.fault.Question.{Question}
use Rattle.reader.specs.declared.stage.Stage.{Stage}

-- the figures of a line of short figures
small : (n : ℕ) → ltb n 1000000000 ≡ true → n < 2 ^ 64
small n h = omega (arith, ltb-true n 1000000000 h)

each_lacks : (ns : List ℕ) → all_of (λ n. ltb n 1000000000) ns ≡ true → all_of unbroken (map decimal ns) ≡ true
each_lacks [] h = refl
each_lacks (n ∷ ns) h =
    let p = and_parts (ltb n 1000000000) _ h in
    and_from (unbroken (decimal n)) _ (decimal_whole n (small n p.0)) (each_lacks ns p.1)

values_back : (ns : List ℕ) → all_of (λ n. ltb n 1000000000) ns ≡ true → map value (map decimal ns) ≡ ns
values_back [] h = refl
values_back (n ∷ ns) h =
    let p = and_parts (ltb n 1000000000) _ h in
    let e : value (decimal n) ≡ n = sym (figure_some (decimal n) n (figure_back n (ltb-true n 1000000000 p.0))).1 in
    ap (λ m. m ∷ map value (map decimal ns)) e ∙ ap (λ ms. n ∷ ms) (values_back ns p.1)

figures_fine : (k : ℕ) (ns : List ℕ) → all_of (λ n. ltb n 1000000000) ns ≡ true → each_from k is_figure (map decimal ns) ≡ Ok tt
figures_fine k [] h = refl
figures_fine k (n ∷ ns) h =
    let p = and_parts (ltb n 1000000000) _ h in
    each_on is_figure k (decimal n) (map decimal ns) (decimal_is_figure n (ltb-true n 1000000000 p.0)) ∙ figures_fine (k + 1) ns p.1

unbroken_lacks_space : (ws : List (List ℕ)) → all_of unbroken ws ≡ true → all_of (lacks 32) ws ≡ true
unbroken_lacks_space [] h = refl
unbroken_lacks_space (w ∷ ws) h =
    let p = and_parts (unbroken w) _ h in
    and_from (lacks 32 w) _ (and_parts (lacks 10 w) _ p.0).1 (unbroken_lacks_space ws p.1)

parts_of_line : (c : CaseLine) → short_figures c ≡ true → words (written_line c) ≡ spelled c.word ∷ map decimal c.figures
parts_of_line c h =
    words_back (spelled c.word) (map decimal c.figures)
    (and_from (lacks 32 (spelled c.word)) _ (and_parts (lacks 10 (spelled c.word)) _ (spelled_whole c.word)).1 (unbroken_lacks_space (map decimal c.figures) (each_lacks c.figures h)))

-- what a written line says: its word, its figures, and that each of them is one
module _ (c : CaseLine) (h : short_figures c ≡ true) where
  word_said : word_of (first_word (written_line c)) ≡ Some c.word
  word_said = ap (λ xs. word_of (get_or xs 0 [])) (parts_of_line c h) ∙ word_back c.word

  figures_said : figure_words (written_line c) ≡ map decimal c.figures
  figures_said = ap (drop 1) (parts_of_line c h)

  each_said : each_from 2 is_figure (figure_words (written_line c)) ≡ Ok tt
  each_said = ap (each_from 2 is_figure) figures_said ∙ figures_fine 2 c.figures h

  values_said : figures_of (written_line c) ≡ c.figures
  values_said = ap (map value) figures_said ∙ values_back c.figures h

  count_said : length (figure_words (written_line c)) ≡ length c.figures
  count_said = ap length figures_said ∙ length-map c.figures decimal

  line_back : line_said (written_line c) ≡ Some c
  line_back =
      ap (λ o. said_by o (each_from 2 is_figure (figure_words (written_line c))) (figures_of (written_line c))) word_said
      ∙ ap (λ a. said_by (Some c.word) a (figures_of (written_line c))) each_said
      ∙ ap (λ ns. said_by (Some c.word) (Ok tt) ns) values_said

  step_back : (st : Stage) (d : Drawing) → line_step st d (written_line c) ≡ takes st d c
  step_back st d =
      ap (λ o. said_step st d o (length (figure_words (written_line c))) (each_from 2 is_figure (figure_words (written_line c))) (figures_of (written_line c))) word_said
      ∙ ap (λ k. said_step st d (Some c.word) k (each_from 2 is_figure (figure_words (written_line c))) (figures_of (written_line c))) count_said
      ∙ ap (λ a. said_step st d (Some c.word) (length c.figures) a (figures_of (written_line c))) each_said
      ∙ ap (λ ns. said_step st d (Some c.word) (length c.figures) (Ok tt) ns) values_said

lacks-append : (m : ℕ) (a b : List ℕ) → lacks m a ≡ true → lacks m b ≡ true → lacks m (a ++ b) ≡ true
lacks-append m [] b h k = k
lacks-append m (x ∷ a) b h k =
    let p = lacks_parts m x a h in
    lacks_more m x (a ++ b) p.0 (lacks-append m a b p.1 k)

lacks_joined : (ws : List (List ℕ)) → all_of unbroken ws ≡ true → lacks 10 (join_words ws) ≡ true
lacks_joined [] h = refl
lacks_joined (w ∷ []) h = (and_parts (lacks 10 w) _ (and_parts (unbroken w) _ h).0).0
lacks_joined (w ∷ (v ∷ ws)) h =
    let p = and_parts (unbroken w) _ h in
    lacks-append 10 w (32 ∷ join_words (v ∷ ws)) (and_parts (lacks 10 w) _ p.0).0 (lacks_more 10 32 (join_words (v ∷ ws)) refl (lacks_joined (v ∷ ws) p.1))

each_line_lacks : (cs : List CaseLine) → all_of short_figures cs ≡ true → all_of (lacks 10) (map written_line cs) ≡ true
each_line_lacks [] h = refl
each_line_lacks (c ∷ cs) h =
    let p = and_parts (short_figures c) _ h in
    and_from (lacks 10 (written_line c)) _
    (lacks_joined (spelled c.word ∷ map decimal c.figures) (and_from (unbroken (spelled c.word)) _ (spelled_whole c.word) (each_lacks c.figures p.0)))
    (each_line_lacks cs p.1)

each_back : (cs : List CaseLine) → all_of short_figures cs ≡ true → map line_said (map written_line cs) ≡ map Some cs
each_back [] h = refl
each_back (c ∷ cs) h =
    let p = and_parts (short_figures c) _ h in
    ap (λ o. o ∷ map line_said (map written_line cs)) (line_back c p.0) ∙ ap (λ os. Some c ∷ os) (each_back cs p.1)

not_err : {A B : Type 0} (a : A) (b : B) → Ok a ≡ Err b → ⊥
not_err a b e = let z : ◌≡◌ {A = ℕ} 0 1 = cc in omega arith

-- what lines as data do in turn, by the step of the first
abbrev taken : ℕ → Drawing → List CaseLine → Step → Result Drawing CaseFault
taken n d cs s = elim s [ ends ↦ Ok d | fails g ↦ Err (at_line n g) | leads t e ↦ take_lines (n + 1) t e cs ]

acts_alike : (n : ℕ) (st : Stage) (d : Drawing) (cs : List CaseLine) → all_of short_figures cs ≡ true → read_lines n st d (map written_line cs) ≡ take_lines n st d cs
acts_alike n st d [] h = refl
acts_alike n st d (c ∷ cs) h =
    let p = and_parts (short_figures c) _ h in
    ap (follow n d (map written_line cs)) (step_back c p.0 st d)
    ∙ elim (takes st d c) as (λ s. follow n d (map written_line cs) s ≡ taken n d cs s) [
      | ends ↦ refl
      | fails g ↦ refl
      | leads t e ↦ acts_alike (n + 1) t e cs p.1
    ]

same_fault : {A : Type 0} (n : ℕ) (g : Fault Question) (f : CaseFault) → ◌≡◌ {A = Result A CaseFault} (Err (at_line n g)) (Err f) → at_line n g ≡ f
same_fault n g f e = cc

module _ (f : CaseFault) where
  decides : (n : ℕ) (st : Stage) (d : Drawing) (ls more : List (List ℕ)) → read_lines n st d ls ≡ Err f → read_lines n st d (ls ++ more) ≡ Err f
  decides n st d [] more h = absurd (not_err d f h)
  decides n st d (l ∷ ls) more h =
      elim (line_step st d l) as (λ s. follow n d ls s ≡ Err f → follow n d (ls ++ more) s ≡ Err f) [
        | ends ↦ λ k. absurd (not_err d f k)
        | fails g ↦ λ k. k
        | leads t e ↦ λ k. decides (n + 1) t e ls more k
      ] h

  one_before : (n : ℕ) (st t : Stage) (d e : Drawing) (l : List ℕ) (ls : List (List ℕ)) → line_step st d l ≡ leads t e → FirstFault (n + 1) t e ls f → FirstFault n st d (l ∷ ls) f
  one_before n st t d e l ls is p = record {
    front = l ∷ p.front;
    line = p.line;
    back = p.back;
    stage = p.stage;
    drawn = p.drawn;
    splits = ap (λ xs. l ∷ xs) p.splits;
    number = omega (arith, p.number);
    before = (t, e, is, p.before);
    here = p.here;
  }

  first_fault : (n : ℕ) (st : Stage) (d : Drawing) (ls : List (List ℕ)) → read_lines n st d ls ≡ Err f → FirstFault n st d ls f
  first_fault n st d [] h = absurd (not_err d f h)
  first_fault n st d (l ∷ ls) h =
      elim (line_step st d l) as (λ s. line_step st d l ≡ s → follow n d ls s ≡ Err f → FirstFault n st d (l ∷ ls) f) [
        | ends ↦ λ is k. absurd (not_err d f k)
        | fails g ↦ λ is k.
            let same = same_fault n g f k in
            record {
              front = [];
              line = l;
              back = ls;
              stage = st;
              drawn = d;
              splits = refl;
              number = sym (ap (λ (x : CaseFault). x.line) same) ∙ sym (add-zero n);
              before = (refl, refl);
              here = is ∙ ap (λ (x : CaseFault). fails (record { question = x.question; place = x.place })) same;
            }
        | leads t e ↦ λ is k. one_before n st t d e l ls is (first_fault (n + 1) t e ls k)
      ] refl h

pub reading_stands_lem : ReadingStands
reading_stands_lem = record {
  reads_back = λ cs h. ap (map line_said) (lines_back (map written_line cs) (each_line_lacks cs h)) ∙ each_back cs h;
  acts_alike = λ n st d cs h. ap (read_lines n st d) (lines_back (map written_line cs) (each_line_lacks cs h)) ∙ acts_alike n st d cs h;
  first_fault = λ n st d ls f h. first_fault f n st d ls h;
  decides = λ n st d ls more f h. decides f n st d ls more h;
}
