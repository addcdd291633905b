use Rattle.std.proofs.Common.{◌*◌, length, sym, ap, arith, rules}
use Rattle.std.proofs.lemmas.Slice.Zip.{zip_turn, zip_end}
use Rattle.rules.specs.Grids.{as_watts}
use Rattle.rules.specs.declared.power.Watts.{Watts}
use Rattle.rules.proofs.Gauges.{enough_from, not_enough}
use Rattle.grid.proofs.rooms.all_enough.Goals as goal

pub returns-then-from : goal.returns-then-from
returns-then-from c =
    let at =
    zip_turn c.args.rooms.now c.args.weights.now c.loop-room.yielded c.into_iter-room-iterator.result c.loop-room.room-iterator c.next.new.self c.next.result (search rules) (search rules)
    c.loop-room.yielded_by (c.in-Some.room, c.in-Some.weight) c.in-Some.is c.next.ensures.steps in
    sym (not_enough c.args.mw c.args.rooms.now c.args.weights.now (length c.loop-room.yielded) at.0
    (omega (arith, c.if-from.true, ap (λ n. n * c.from-in-loop-room.result) c.from.ensures, ap (λ n. c.args.mw.0 * n) c.from-in-loop-room.ensures, c.from-in-loop-room-2.ensures, ap (λ (w : Watts). w.0) (at.2 (as_watts 0)), ap (λ (w : Watts). c.args.mw.0 * w.0) (at.3 (as_watts 0)))))

pub returns : goal.returns
returns c =
    let end =
    zip_end c.args.rooms.now c.args.weights.now c.loop-room.yielded c.into_iter-room-iterator.result c.loop-room.room-iterator c.next.new.self c.next.result (search rules) (search rules)
    c.loop-room.yielded_by c.in-None.is c.next.ensures.steps in
    sym (enough_from c.args.mw c.args.rooms.now c.args.weights.now (λ k real. c.loop-room.invariant k (omega (arith, end, c.requires))))
