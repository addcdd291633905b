-- What the grid of legs tells, and that it is lawful.
use Rattle.std.specs.Prelude.{◌≡◌, ℕ, zero, suc, ◌<◌, ◌≤◌, true, ◌==◌, List, [], ◌∷◌, map, length, get_or, vec_items, vec_len, nat_le}
use Rattle.std.proofs.Common.{sym, ap, ◌∙◌, inl, inr, arith, lit≤}
use Rattle.std.proofs.lemmas.List.{get_or-map, get_or_past, length-map}
use Rattle.std.proofs.lemmas.Bool.{cases_lt, and_parts, leb-true, eqb-true}
use Rattle.rules.specs.Grids.{Lawful, paths_of, room_of, weight_of, weights_of, as_watts, sum_of}
use Rattle.rules.specs.Lists.{all_of}
use Rattle.rules.specs.declared.power.Watts.{Watts}
use Rattle.rules.proofs.Alls.{all_of_at}
use Rattle.rules.proofs.Gauges.{one_of_sum, first_of_sum}
use Rattle.rules.proofs.Meanings.{beyond}
use Rattle.grid.specs.Legs.{on_legs}
use Rattle.grid.specs.declared.legs.LegGrid.{LegGrid}
use Rattle.grid.specs.declared.legs.Row.{Row}

module _ (g : LegGrid) where
  abbrev legs : ℕ
  legs = length (vec_items g.rooms)

  abbrev rows : List Row
  rows = vec_items g.rows

  pub legs_fit : legs ≤ 64
  legs_fit = omega (arith, g.few, g.rooms.ok.0)

  pub as_many_paths : paths_of (on_legs g) ≡ length rows
  as_many_paths = length-map rows (λ (r : Row). vec_items r.on)

  roomy : (k : ℕ) → (room_of (on_legs g) k).0 ≤ 100000000000
  roomy k =
      elim (cases_lt k legs) [
        | inl real ↦ leb-true (room_of (on_legs g) k).0 100000000000 (all_of_at (λ (w : Watts). nat_le w.0 100000000000) (vec_items g.rooms) k (as_watts 0) g.roomy real)
        | inr past ↦ omega (arith, ap (λ (w : Watts). w.0) (get_or_past (vec_items g.rooms) k (as_watts 0) past))
      ]

  -- the weights of a path are those of its row
  pub row_read : (p : ℕ) (r : Row) → p < length rows → r ≡ get_or rows p r → weights_of (on_legs g) p ≡ vec_items r.on
  row_read p r real is = get_or-map (λ (x : Row). vec_items x.on) rows p r [] real ∙ ap (λ (x : Row). vec_items x.on) (sym is)

  each_light : (p : ℕ) → sum_of (weights_of (on_legs g) p) ≤ 8000000
  each_light p = light_in rows p
    where
      light_in : (rs : List Row) (k : ℕ) → sum_of (get_or (map (λ (x : Row). vec_items x.on) rs) k []) ≤ 8000000
      light_in [] k = lit≤ tt
      light_in (r ∷ rs) zero = r.light
      light_in (r ∷ rs) (suc k) = light_in rs k

  each_even : (p : ℕ) → p < paths_of (on_legs g) → length (weights_of (on_legs g) p) ≡ legs
  each_even p real = even_in rows p g.even (omega (arith, as_many_paths))
    where
      even_in : (rs : List Row) (k : ℕ) → all_of (λ (r : Row). vec_len r.on == vec_len g.rooms) rs ≡ true → k < length rs → length (get_or (map (λ (x : Row). vec_items x.on) rs) k []) ≡ legs
      even_in [] k h l = absurd (omega arith)
      even_in (r ∷ rs) zero h l = sym r.on.ok.0 ∙ eqb-true (vec_len r.on) (vec_len g.rooms) (and_parts (vec_len r.on == vec_len g.rooms) _ h).0 ∙ g.rooms.ok.0
      even_in (r ∷ rs) (suc k) h l = even_in rs k (and_parts (vec_len r.on == vec_len g.rooms) _ h).1 (omega arith)

  pub lawful : Lawful (on_legs g)
  lawful =
      record {
        few = omega (arith, legs_fit);
        ground_first = omega arith;
        roomy = roomy;
        narrow = λ p k. omega (arith, one_of_sum (weights_of (on_legs g) p) k, each_light p);
        light = λ p. omega (arith, first_of_sum (weights_of (on_legs g) p) legs, each_light p);
        even = each_even;
      }

  -- nothing is told of an unknown path or leg
  pub unknown_path : (p k : ℕ) → paths_of (on_legs g) ≤ p → weight_of (on_legs g) p k ≡ as_watts 0
  unknown_path = (beyond (on_legs g) lawful).paths

  pub unknown_leg : (p k : ℕ) → legs ≤ k → weight_of (on_legs g) p k ≡ as_watts 0
  unknown_leg = (beyond (on_legs g) lawful).weights
