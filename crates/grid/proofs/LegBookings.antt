-- Booking on the grid of legs.
use Rattle.std.proofs.Common.{◌≡◌, ℕ, List, length, vec_items, sym, ap, ◌∙◌}
use Rattle.std.specs.Vec.{with_items}
use Rattle.std.proofs.lemmas.List.{with_items_is}
use Rattle.rules.specs.Grids.{Meaning, weights_of, lowered, booked}
use Rattle.rules.specs.declared.power.Mw.{Mw}
use Rattle.rules.specs.declared.power.Watts.{Watts}
use Rattle.rules.proofs.Gauges.{length-lowered}
use Rattle.grid.specs.Legs.{row_weights, on_legs}
use Rattle.grid.specs.declared.legs.LegGrid.{LegGrid}

-- rooms that are lowered where they lie
pub lowered_rooms : (g : LegGrid) (p : ℕ) (q : Mw) (slice part new : List Watts) → slice ≡ vec_items g.rooms → part ≡ weights_of (on_legs g) p → new ≡ lowered q slice part
    → vec_items (with_items g.rooms new) ≡ lowered q (vec_items g.rooms) (weights_of (on_legs g) p)
lowered_rooms g p q slice part new rooms weights is =
    let e : new ≡ lowered q (vec_items g.rooms) (weights_of (on_legs g) p) = is ∙ ap (λ rs. lowered q rs part) rooms ∙ ap (lowered q (vec_items g.rooms)) weights in
    let many : length new ≡ g.rooms.len = ap length e ∙ length-lowered q (vec_items g.rooms) (weights_of (on_legs g) p) ∙ sym g.rooms.ok.0 in
    with_items_is g.rooms new many ∙ e

-- the same rows with lowered rooms
pub legs_booked : (g : LegGrid) (p : ℕ) (q : Mw) (rs : List Watts) → rs ≡ lowered q (vec_items g.rooms) (weights_of (on_legs g) p)
    → ◌≡◌ {A = Meaning} (record { grounds = length rs; rooms = rs; weights = row_weights (vec_items g.rows) }) (booked (on_legs g) p q)
legs_booked g p q rs rooms =
    let many : length rs ≡ length (vec_items g.rooms) = ap length rooms ∙ length-lowered q (vec_items g.rooms) (weights_of (on_legs g) p) in
    ap (λ n. record { grounds = n; rooms = rs; weights = row_weights (vec_items g.rows) }) many
    ∙ ap (λ xs. record { grounds = length (vec_items g.rooms); rooms = xs; weights = (on_legs g).weights }) rooms
