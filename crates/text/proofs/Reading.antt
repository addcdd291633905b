-- Words read as figures, one by one.
use Rattle.std.proofs.Common.{◌≡◌, ℕ, ◌+◌, ◌-◌, ◌<◌, Bool, true, false, cond, List, ◌∷◌, ◌++◌, map, length, take, Some, None, Option, Result, Err, sym, refl, ap, ◌∙◌, arith}
use Rattle.std.specs.Option.{ok_or}
use Rattle.std.proofs.lemmas.List.{length-append, length-map, take_at, take-map}
use Rattle.rules.specs.Questions.{each_from}
use Rattle.rules.proofs.Asking.{never, each_stops}
use Rattle.text.specs.declared.row.RowError.{RowError}
use Rattle.text.specs.Figures.{is_figure, value, figure_of}
use Rattle.text.specs.Rows.{Reads, Wants}

-- a test that chose a value chose it by being true, and one that chose none by being false
some_from : (b : Bool) (v n : ℕ) → cond b (Some v) None ≡ Some n → (b ≡ true) × (n ≡ v)
some_from true v n e = (refl, cc)
some_from false v n e = let z : ◌≡◌ {A = ℕ} 0 1 = cc in absurd (omega arith)

none_from : (b : Bool) (v : ℕ) → cond b (Some v) None ≡ None → b ≡ false
none_from true v e = let z : ◌≡◌ {A = ℕ} 0 1 = cc in absurd (omega arith)
none_from false v e = refl

pub figure_some : (w : List ℕ) (n : ℕ) → figure_of w ≡ Some n → (is_figure w ≡ true) × (n ≡ value w)
figure_some w n e = some_from (is_figure w) (value w) n e

-- the error that stands for no figure
pub told_none : (figure : Option ℕ) (given told : RowError) → ◌≡◌ {A = Result ℕ RowError} (Err told) (ok_or figure given) → figure ≡ None → told ≡ given
told_none None given told is e = cc
told_none (Some n) given told is e = let z : ◌≡◌ {A = ℕ} 0 1 = cc in absurd (omega arith)

-- `was` are the values of the words before `left`, of which `word` is the first
module _ (was word : List ℕ) (left more ws : List (List ℕ)) (first : left ≡ word ∷ more) (e : was ++ map value left ≡ map value ws) where
  -- while a word is left to read, fewer values are read than there are words
  fewer : length was < length ws
  fewer = omega (arith, simp (length-append, length-map) at (ap length e), ap length first)

  so_far : was ≡ map value (take (length was) ws)
  so_far = sym (take_at was (map value left) (length was) refl) ∙ ap (take (length was)) e ∙ take-map value (length was) ws

  -- a reading stops at a word that is no figure
  pub stops_at : (start place : ℕ) → place ≡ start → start ≡ length was + 2 → each_from start is_figure left ≡ each_from 2 is_figure ws → figure_of word ≡ None → Reads ws (Err place) was
  stops_at start place at is asks none =
      record {
        each = ap Err at ∙ sym (ap (each_from start is_figure) first ∙ each_stops is_figure start word more (none_from (is_figure word) (value word) none)) ∙ asks;
        values = λ yes. absurd (never yes);
        before = λ p same.
            let place_is : place ≡ p = cc in
            let front : length was ≡ p - 2 = omega arith in
            so_far ∙ ap (λ n. map value (take n ws)) front;
      }

  -- a reading stops where there is no room
  pub wants_at : (room : ℕ) → room < length was + 1 → Wants room ws was
  wants_at room full = record { full = omega (arith, fewer); front = (length was, so_far) }
