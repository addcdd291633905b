use Rattle.std.proofs.lemmas.Result.{err_from_is_err_and}
use Rattle.grid.proofs.StackBookings.{refuses, carries_out, part_taken, still_as_many, still_roomy}
use Rattle.grid.proofs.sections.SectionGrid.book_through.Goals as goal

pub returns-in_err-book-clause-books : goal.returns-in_err-book-clause-books
returns-in_err-book-clause-books g c =
    let s = c.args.self.now in
    let means = g.G.Grid.meaning in
    let told = err_from_is_err_and c.from_residual.result c.from_residual.ensures.1 in
    rw (told.1, told.2) (refuses means s (g.met.G.Grid.lawful s.below) c.args.path c.requires.path c.args.mw c.in_err-book.field-0.0 (means c.book.new.self) c.requires.enough c.in_err-book.ensures)

pub invariant_of-self-2 : goal.invariant_of-self-2
invariant_of-self-2 g c =
    let s = c.args.self.now in
    let means = g.G.Grid.meaning in
    let law = g.met.G.Grid.lawful s.below in
    record {
      few = s.few;
      as_many = still_as_many means s law c.args.path c.requires.path c.args.mw c.layers-above.result.1 c.as_mut_slice.result.now c.args.weights.now c.lower_first.new.rooms c.layers-above.ensures.above c.as_mut_slice.ensures.value c.requires.weights c.lower_first.ensures;
      rising = s.rising;
      roomy = still_roomy means s law c.args.path c.requires.path c.args.mw c.layers-above.result.1 c.as_mut_slice.result.now c.args.weights.now c.lower_first.new.rooms c.layers-above.ensures.above c.as_mut_slice.ensures.value c.requires.weights c.lower_first.ensures;
    }

pub returns-clause-books : goal.returns-clause-books
returns-clause-books g c =
    let s = c.args.self.now in
    let means = g.G.Grid.meaning in
    let law = g.met.G.Grid.lawful s.below in
    carries_out means s law c.args.path c.requires.path c.args.mw tt (means c.book.new.self) _ c.requires.enough
    (part_taken means s law c.args.path c.requires.path c.args.mw c.layers-above.result.1 c.as_mut_slice.result.now c.args.weights.now c.lower_first.new.rooms c.layers-above.ensures.above c.as_mut_slice.ensures.value c.requires.weights c.lower_first.ensures)
    c.in_ok-book.ensures
