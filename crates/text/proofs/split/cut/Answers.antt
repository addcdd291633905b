use Rattle.std.proofs.Common.{◌≡◌, suc, ◌+◌, ◌-◌, [], ◌∷◌, length, take, drop, sym, refl, ap, ◌∙◌, add-one, rules}
use Rattle.std.proofs.lemmas.List.{take_rest}
use Rattle.text.proofs.Parting.{Free, parted_at, after_at, words_whole, lines_whole, after_none}
use Rattle.text.proofs.split.cut.Goals as goal

pub returns-in-Some : goal.returns-in-Some
returns-in-Some c =
    let xs = c.args.bytes.now in
    let i = c.in-Some.end in
    let told = c.in-Some.ensures in
    let back : take (length xs - (i + 1)) (drop (i + 1) xs) ≡ drop (suc i) xs = take_rest xs (i + 1) ∙ ap (λ n. drop n xs) (add-one i) in
    record {
      follows = cc (back, after_at c.args.mark xs i told.found.0 told.before told.found.1);
      len = search rules;
      as_lines = λ _. cc (back, parted_at [] c.args.mark xs i told.found.0 told.before told.found.1);
      as_words = cc (back, parted_at ([] ∷ []) c.args.mark xs i told.found.0 told.before told.found.1);
    }

pub returns-in-None : goal.returns-in-None
returns-in-None c =
    let xs = c.args.bytes.now in
    let free : Free c.args.mark xs (length xs) = c.in-None.ensures.before in
    record {
      follows = sym (after_none c.args.mark xs free);
      len = refl;
      as_lines = λ h. lines_whole c.args.mark xs h free;
      as_words = words_whole c.args.mark xs free;
    }
