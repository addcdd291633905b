-- What the grid of a sheet's legs is made of.
use Rattle.std.proofs.Common.{◌≡◌, ℕ, ◌+◌, ◌<◌, ◌≤◌, true, eqb, leb, List, [], ◌∷◌, ◌++◌, map, length, get_or, take, vec_items, vec_len, sym, refl, ap, ◌∙◌, arith}
use Rattle.std.proofs.lemmas.List.{length-map, map_push, map_more}
use Rattle.std.proofs.lemmas.List.FromFn.{length-map-range_with_len}
use Rattle.std.proofs.lemmas.Bool.{and_parts, and_from, leb-true, le-leb, eq-eqb}
use Rattle.rules.specs.Convert.{entering, one_mw}
use Rattle.rules.specs.Grids.{as_watts}
use Rattle.rules.specs.LegGrids.{limit_room, enters_leg, leg_weights, leg_grid}
use Rattle.rules.specs.Lists.{all_of, sum_by, below}
use Rattle.rules.specs.Network.{DrawnLeg, Drawing, Route, stretches}
use Rattle.rules.specs.declared.power.Watts.{Watts}
use Rattle.rules.proofs.Alls.{all_of_push}
use Rattle.rules.proofs.LegRows.{sum_mapped, entering_sum}
use Rattle.rules.proofs.Networks.{held}
use Rattle.sheet.specs.Sheets.{drawing, PathRead, LegsRead}
use Rattle.sheet.specs.Views.{leg_of, legs_of, passages_of}
use Rattle.sheet.specs.declared.leg.Leg.{Leg}
use Rattle.sheet.specs.declared.path.Passage.{Passage}
use Rattle.sheet.specs.declared.path.Path.{Path}
use Rattle.sheet.specs.declared.sheet.Sheet.{Sheet}
use Rattle.grid.specs.Legs.{row_weights, on_legs, RoomsOf, RowsOf, passage_weight}
use Rattle.grid.specs.declared.legs.LegGrid.{LegGrid}
use Rattle.grid.specs.declared.legs.Row.{Row}

-- what enters the legs of a path that is read
module _ (d : Drawing) (k : ℕ) (p : Path) (ps : List Passage) (read : PathRead d k p) (its : ps ≡ passages_of p) where
  abbrev ks : List ℕ
  ks = get_or d.paths k []

  enters_are : map (λ (x : Passage). x.enters.0) ps ≡ entering one_mw (stretches d.legs ks)
  enters_are = ap (map (λ (x : Passage). x.enters.0)) its ∙ ap (λ (r : Route). r.enters) read.route

  pub weights_are : (n : ℕ) → n ≡ length d.legs → map (passage_weight ps) (below n) ≡ leg_weights d.legs ks
  weights_are n many =
      ap (λ is. map (λ j. as_watts (enters_leg is (map (λ (x : Passage). x.enters.0) ps) j)) (below n)) (ap (map (λ (x : Passage). x.leg)) its ∙ read.legs)
      ∙ ap (λ es. map (λ j. as_watts (enters_leg ks es j)) (below n)) enters_are
      ∙ ap (λ m. map (λ j. as_watts (enters_leg ks (entering one_mw (stretches d.legs ks)) j)) (below m)) many

  pub light : sum_by (λ (x : Passage). x.enters.0) ps ≤ 8000000
  light =
      let h = held d.nodes d.legs ks read.a_path in
      let few : length ks ≤ 8 = leb-true (length ks) 8 (and_parts (leb 1 (length ks)) _ h.some).1 in
      let long : length (stretches d.legs ks) ≡ length ks = length-map ks _ in
      let all : sum_by (λ (n : ℕ). n) (map (λ (x : Passage). x.enters.0) ps) ≡ sum_by (λ (x : Passage). x.enters.0) ps = sum_mapped (λ (n : ℕ). n) (λ (x : Passage). x.enters.0) ps in
      let same : sum_by (λ (n : ℕ). n) (map (λ (x : Passage). x.enters.0) ps) ≡ sum_by (λ (n : ℕ). n) (entering one_mw (stretches d.legs ks)) = ap (sum_by (λ (n : ℕ). n)) enters_are in
      omega (arith, few, long, all, same, entering_sum (stretches d.legs ks) one_mw)

-- one path's row more
module _ (d : Drawing) (rows more : List Row) (k n : ℕ) (r : Row) (ps : List Passage) (pushed : more ≡ rows ++ (r ∷ [])) (on : vec_items r.on ≡ map (passage_weight ps) (below n)) where
  pub row_more : k < length d.paths → row_weights rows ≡ map (leg_weights d.legs) (take k d.paths) → map (passage_weight ps) (below n) ≡ leg_weights d.legs (get_or d.paths k [])
      → row_weights more ≡ map (leg_weights d.legs) (take (k + 1) d.paths)
  row_more real so_far is =
      ap row_weights pushed ∙ map_push (λ (x : Row). vec_items x.on) rows r
      ∙ ap (λ x. x ++ (vec_items r.on ∷ [])) so_far
      ∙ ap (λ x. map (leg_weights d.legs) (take k d.paths) ++ (x ∷ [])) (on ∙ is)
      ∙ sym (map_more (leg_weights d.legs) d.paths k [] real)

  pub even_more : n ≡ length d.legs → all_of (λ (x : Row). eqb (vec_len x.on) (length d.legs)) rows ≡ true → all_of (λ (x : Row). eqb (vec_len x.on) (length d.legs)) more ≡ true
  even_more many so_far =
      ap (all_of (λ (x : Row). eqb (vec_len x.on) (length d.legs))) pushed
      ∙ all_of_push (λ (x : Row). eqb (vec_len x.on) (length d.legs)) rows r so_far
      (eq-eqb (vec_len r.on) (length d.legs) (r.on.ok.0 ∙ ap length on ∙ length-map-range_with_len (passage_weight ps) 0 n ∙ many))

-- the legs' limits as rooms
rooms_are : (ls : List Leg) → map (λ (l : Leg). limit_room l.limit.mw) ls ≡ map (λ (l : DrawnLeg). limit_room l.limit) (legs_of ls)
rooms_are [] = refl
rooms_are (l ∷ ls) = ap (λ ws. limit_room l.limit.mw ∷ ws) (rooms_are ls)

rooms_roomy : (ls : List Leg) → all_of (λ (w : Watts). leb w.0 100000000000) (map (λ (l : Leg). limit_room l.limit.mw) ls) ≡ true
rooms_roomy [] = refl
rooms_roomy (l ∷ ls) = and_from _ _ (le-leb _ _ (omega (arith, l.limit.within))) (rooms_roomy ls)

pub sheet_rooms : (s : Sheet) (ls : List Leg) (rs : List Watts) → LegsRead (drawing s) ls → rs ≡ map (λ (l : Leg). limit_room l.limit.mw) ls → RoomsOf (drawing s) rs
sheet_rooms s ls rs read is =
    let limits : rs ≡ (leg_grid (drawing s)).rooms = is ∙ rooms_are ls ∙ ap (map (λ (l : DrawnLeg). limit_room l.limit)) read.figures in
    let many : length rs ≡ length (drawing s).legs = ap length limits ∙ length-map (drawing s).legs (λ (l : DrawnLeg). limit_room l.limit) in
    record {
      limits = limits;
      as_many = many;
      few = omega (arith, many, length-map (vec_items s.legs) leg_of, s.legs.ok.0, s.few_legs);
      roomy = ap (all_of (λ (w : Watts). leb w.0 100000000000)) is ∙ rooms_roomy ls;
    }

-- a grid of these rooms and rows
pub even_rows : (d : Drawing) (rooms : List Watts) (rows : List Row) (n : ℕ) → n ≡ length rooms → RoomsOf d rooms → RowsOf d rows → all_of (λ (r : Row). eqb (vec_len r.on) n) rows ≡ true
even_rows d rooms rows n long of_rooms of_rows = ap (λ m. all_of (λ (r : Row). eqb (vec_len r.on) m) rows) (long ∙ of_rooms.as_many) ∙ of_rows.even

pub made_of : (d : Drawing) (g : LegGrid) → RoomsOf d (vec_items g.rooms) → RowsOf d (vec_items g.rows) → on_legs g ≡ leg_grid d
made_of d g of_rooms of_rows =
    ap (λ n. record { grounds = n; rooms = vec_items g.rooms; weights = row_weights (vec_items g.rows) }) of_rooms.as_many
    ∙ ap (λ rs. record { grounds = length d.legs; rooms = rs; weights = row_weights (vec_items g.rows) }) of_rooms.limits
    ∙ ap (λ ws. record { grounds = length d.legs; rooms = (leg_grid d).rooms; weights = ws }) of_rows.weights
