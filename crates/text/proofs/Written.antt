-- Numbers and words that are written and read back.
use Rattle.std.proofs.Common.{◌≡◌, ℕ, suc, ◌^◌, ◌<◌, ◌≤◌, true, eqb, List, [], ◌∷◌, length, get_or, ℤ, pos, negsuc, neg_ℤ, ◌≤ℤ◌, Some, None, decimal, Option, refl, ap, ◌∙◌, arith, rules}
use Rattle.std.proofs.lemmas.Fmt.{digits_decimal, digits_value-decimal, length-decimal-le, decimal_nonempty}
use Rattle.std.proofs.lemmas.Slice.Eq.{bytes_eq-Decides}
use Rattle.std.proofs.lemmas.Str.Parse.{IsNumeralModel, numerals_by_fold}
use Rattle.std.proofs.lemmas.Int.{ints}
use Rattle.std.proofs.lemmas.Bool.{ne_eqb, le-leb, cond-true, cond-false, cond_both, and_parts, and_from}
use Rattle.std.proofs.lemmas.Bool.Decides.{nat_tests}
use Rattle.std.specs.Option.{option_map}
use Rattle.std.specs.Fmt.{signed_decimal}
use Rattle.std.specs.Str.{bytes_eq}
use Rattle.rules.specs.Lists.{all_of}
use Rattle.text.specs.declared.word.Word.{Word}
use Rattle.text.specs.declared.word.Word.TheVariants.{Node, Leg, Path, Section, Limits, Sell, Buy, Go}
use Rattle.text.specs.Figures.{is_digit, value_on, value, is_figure, figure_of, signed_figure_of}
use Rattle.text.specs.Format.{lacks, unbroken}
use Rattle.text.specs.Words.{spelled, reads_as, word_of}
use Rattle.text.proofs.Joins.{lacks_more}

-- `is_digit` and `value` say what the library says of decimal digits
own : IsNumeralModel (λ ds. all_of is_digit ds ≡ true) value
own = numerals_by_fold _ (search rules) value_on (search rules)

pub decimal_is_figure : (n : ℕ) → n < 1000000000 → is_figure (decimal n) ≡ true
decimal_is_figure n h =
    let wide : n < 2 ^ 64 = omega arith in
    let some = decimal_nonempty n wide in
    let few = length-decimal-le 9 n (omega arith) h wide in
    and_from _ (all_of is_digit (decimal n)) (and_from _ _ (le-leb 1 (length (decimal n)) (omega arith)) (le-leb (length (decimal n)) 9 few)) (digits_decimal own n wide)

pub figure_back : (n : ℕ) → n < 1000000000 → figure_of (decimal n) ≡ Some n
figure_back n h = cond-true (is_figure (decimal n)) _ _ (decimal_is_figure n h) ∙ ap Some (digits_value-decimal own n (omega arith))

digit_low : (b : ℕ) → is_digit b ≡ true → 48 ≤ b
digit_low b h = grind (arith, nat_tests)

first_digit : (ds : List ℕ) → 0 < length ds → all_of is_digit ds ≡ true → 48 ≤ get_or ds 0 0
first_digit [] l h = absurd (omega arith)
first_digit (b ∷ bs) l h = digit_low b (and_parts (is_digit b) (all_of is_digit bs) h).0

-- a number within these limits has at most nine digits
low_size : (n : ℕ) → negsuc 999999998 ≤ℤ negsuc n → suc n < 1000000000
low_size n l = omega (arith, ints)

high_size : (n : ℕ) → pos n ≤ℤ pos 999999999 → n < 1000000000
high_size n h = omega (arith, ints)

pub signed_back : (z : ℤ) → negsuc 999999998 ≤ℤ z → z ≤ℤ pos 999999999 → signed_figure_of (signed_decimal z) ≡ Some z
signed_back (pos n) l h =
    let small = high_size n h in
    let wide : n < 2 ^ 64 = omega arith in
    let low = first_digit (decimal n) (decimal_nonempty n wide) (digits_decimal own n wide) in
    cond-false (eqb (get_or (decimal n) 0 0) 45) _ _ (ne_eqb (get_or (decimal n) 0 0) 45 (λ e. omega arith)) ∙ ap (option_map pos) (figure_back n small)
signed_back (negsuc n) l h = ap (option_map (λ k. neg_ℤ (pos k))) (figure_back (suc n) (low_size n l))

digits_lack : (m : ℕ) (ds : List ℕ) → m < 48 → all_of is_digit ds ≡ true → lacks m ds ≡ true
digits_lack m [] l h = refl
digits_lack m (b ∷ bs) l h =
    let p = and_parts (is_digit b) (all_of is_digit bs) h in
    let low = digit_low b p.0 in
    lacks_more m b bs (ne_eqb b m (λ e. omega arith)) (digits_lack m bs l p.1)

pub decimal_whole : (n : ℕ) → n < 2 ^ 64 → unbroken (decimal n) ≡ true
decimal_whole n h =
    let digits = digits_decimal own n h in
    and_from (lacks 10 (decimal n)) (lacks 32 (decimal n)) (digits_lack 10 (decimal n) (omega arith) digits) (digits_lack 32 (decimal n) (omega arith) digits)

pub signed_whole : (z : ℤ) → negsuc 999999998 ≤ℤ z → z ≤ℤ pos 999999999 → unbroken (signed_decimal z) ≡ true
signed_whole (pos n) l h = decimal_whole n (omega (arith, high_size n h))
signed_whole (negsuc n) l h = decimal_whole (suc n) (omega (arith, low_size n l))

pub word_back : (w : Word) → word_of (spelled w) ≡ Some w
word_back Node = refl
word_back Leg = refl
word_back Path = refl
word_back Section = refl
word_back Limits = refl
word_back Sell = refl
word_back Buy = refl
word_back Go = refl

reads_only : (w : Word) (bs : List ℕ) (more : Option Word) (v : Word) → (more ≡ Some v → bs ≡ spelled v) → reads_as w bs more ≡ Some v → bs ≡ spelled v
reads_only w bs more v rest =
    cond_both (bytes_eq bs (spelled w)) (Some w) more (λ o. o ≡ Some v → bs ≡ spelled v)
    (λ e is. let same : w ≡ v = cc in (bytes_eq-Decides bs (spelled w)).0 e ∙ ap spelled same) (λ _. rest)

pub word_only : (bs : List ℕ) (w : Word) → word_of bs ≡ Some w → bs ≡ spelled w
word_only bs w =
    reads_only Node bs _ w (reads_only Leg bs _ w (reads_only Path bs _ w (reads_only Section bs _ w (reads_only Limits bs _ w (reads_only Sell bs _ w (reads_only Buy bs _ w (reads_only Go bs None w (λ is. let z : ◌≡◌ {A = ℕ} 0 1 = cc in absurd (omega arith)))))))))

pub spelled_whole : (w : Word) → unbroken (spelled w) ≡ true
spelled_whole Node = refl
spelled_whole Leg = refl
spelled_whole Path = refl
spelled_whole Section = refl
spelled_whole Limits = refl
spelled_whole Sell = refl
spelled_whole Buy = refl
spelled_whole Go = refl
