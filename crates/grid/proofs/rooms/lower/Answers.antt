use Rattle.std.proofs.Common.{◌-◌, ◌*◌, get_or, ap, arith}
use Rattle.std.proofs.lemmas.List.FromFn.{fill_by_all}
use Rattle.rules.specs.Grids.{as_watts}
use Rattle.rules.specs.declared.power.Watts.{Watts}
use Rattle.rules.proofs.Gauges.{enough_at}
use Rattle.grid.proofs.rooms.lower.Goals as goal

-- the room at hand is as it was, and enough
pub less-requires : goal.less-requires
less-requires c =
    omega (
      arith,
      enough_at c.args.mw c.args.rooms.now c.args.weights.now c.loop-gauge.gauge c.requires.fits c.loop-gauge-test.true,
      ap (λ (w : Watts). w.0) (c.loop-gauge.invariant.1 c.loop-gauge.gauge (omega arith)),
    )

pub returns : goal.returns
returns c =
    fill_by_all (λ k. as_watts ((get_or c.args.rooms.now k (as_watts 0)).0 - c.args.mw.0 * (get_or c.args.weights.now k (as_watts 0)).0))
    c.loop-gauge.rooms _ (as_watts 0) c.loop-gauge.auto.rooms (λ k real. c.loop-gauge.invariant.0 k (omega arith))
