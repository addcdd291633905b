use Rattle.std.proofs.Common.{leb, vec_items, sym, ap, ◌∙◌, arith}
use Rattle.rules.specs.Grids.{weights_of}
use Rattle.rules.specs.Lists.{all_of}
use Rattle.rules.specs.declared.power.Watts.{Watts}
use Rattle.rules.proofs.Gauges.{lowered_within}
use Rattle.grid.specs.Legs.{on_legs}
use Rattle.grid.specs.LegLaws.{as_many_paths, row_read}
use Rattle.grid.proofs.LegBookings.{lowered_rooms, legs_booked}
use Rattle.grid.proofs.legs.LegGrid.lower_legs.Goals as goal

pub invariant_of-self : goal.invariant_of-self
invariant_of-self c =
    let g = c.args.self.now in
    let weights = c.as_slice.ensures.value ∙ sym (row_read g c.args.path c.index.result.now (omega (arith, c.requires.path, as_many_paths g)) c.index.ensures) in
    let items = lowered_rooms g c.args.path c.args.mw _ _ c.lower.new.rooms c.as_mut_slice.ensures.value weights c.lower.ensures in
    record {
      few = omega (arith, g.few);
      roomy = ap (all_of (λ (w : Watts). leb w.0 100000000000)) items ∙ lowered_within 100000000000 c.args.mw (vec_items g.rooms) (weights_of (on_legs g) c.args.path) g.roomy;
      even = g.even;
    }

pub returns : goal.returns
returns c =
    let g = c.args.self.now in
    let weights = c.as_slice.ensures.value ∙ sym (row_read g c.args.path c.index.result.now (omega (arith, c.requires.path, as_many_paths g)) c.index.ensures) in
    legs_booked g c.args.path c.args.mw _ (lowered_rooms g c.args.path c.args.mw _ _ c.lower.new.rooms c.as_mut_slice.ensures.value weights c.lower.ensures)
