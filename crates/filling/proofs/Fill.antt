-- Laws of a triangle's fill: no row of the triangle lies above its first or below its last, a row that was walked has its columns, and the numbers of the
-- loop over the rows fit. Assumes nothing.
use mathlib.Core.Path.{◌≡◌, sym, subst}
use mathlib.Core.Bool.{Bool, false, not, ◌&&◌, not-not}
use mathlib.Core.Logic.{⊎_elim}
use Prim.Native.Nat.{ℕ, ◌+◌, ◌≤◌, ◌<◌}
use native.Mathlib.Omega.{arith}
use lib.IntN.{ℤ, pos, negsuc, ◌+ℤ◌}
use lib.Signed.{le_z, lt_z, ◌≤ℤ◌, ◌<ℤ◌, ≤ℤ_refl}
use mir.Syntax.{w32}
use mir.Val.{SFits}
use Rattle.whole.proofs.Decides.{decides_one, decides_map, decides_between, decides_yes, decides_no}
use Rattle.whole.proofs.Difference.{up, dn, as_mk, mks, le_nat, lt_nat, eq_nat}
use Rattle.whole.proofs.Machine.{fits_dn, mk_fits}
use Rattle.whole.proofs.Order.{le_trans, le_lt_more, more_lt_le}
use Rattle.geometry.specs.declared.Point.{Point}
use Rattle.geometry.specs.Bound.{Coord, Bounded}
use Rattle.triangle.specs.EdgePoint.{EdgePoint}
use Rattle.triangle.specs.Order.{sorted}
use Rattle.triangle.proofs.Agree.{edge_point_rows}
use Rattle.triangle.proofs.Enclosed.{InRow}
use Rattle.triangle.proofs.Box.{box_left, box_right}
use Rattle.triangle.proofs.Triangle.{p1, p2, p3, flat, upper, lower, contained_decides}
use Rattle.edges.specs.declared.Row.{Row}
use Rattle.edges.specs.Edges.{Rowed}
use Rattle.filling.specs.Figure.{triangle_figure}

module _ (v1 v2 v3 : Point) where
  abbrev pub solid : Bool
  solid = not (flat v1 v2 v3)

  -- an edge point, as the walks have it and as containment has it
  abbrev Walked : ℤ → ℤ → Type 0
  Walked y x = EdgePoint (not solid) (p1 v1 v2 v3) (p2 v1 v2 v3) (p3 v1 v2 v3) (x, y)

  abbrev Edged : ℤ → ℤ → Type 0
  Edged y x = EdgePoint (flat v1 v2 v3) (p1 v1 v2 v3) (p2 v1 v2 v3) (p3 v1 v2 v3) (x, y)

  walked_edged : (x y : ℤ) → Walked y x → Edged y x
  walked_edged x y q = subst (λ (b : Bool). EdgePoint b (p1 v1 v2 v3) (p2 v1 v2 v3) (p3 v1 v2 v3) (x, y)) (not-not (flat v1 v2 v3)) q

  edged_walked : (x y : ℤ) → Edged y x → Walked y x
  edged_walked x y q = subst (λ (b : Bool). EdgePoint b (p1 v1 v2 v3) (p2 v1 v2 v3) (p3 v1 v2 v3) (x, y)) (sym (not-not (flat v1 v2 v3))) q

  -- ---- the rows
  rows_of : {x y : ℤ} → InRow (flat v1 v2 v3) (p1 v1 v2 v3) (p2 v1 v2 v3) (p3 v1 v2 v3) (x, y) → ((p1 v1 v2 v3).1 ≤ℤ y) × (y ≤ℤ (p3 v1 v2 v3).1)
  rows_of b = edge_point_rows (p1 v1 v2 v3) (p2 v1 v2 v3) (p3 v1 v2 v3) (upper v1 v2 v3) (lower v1 v2 v3) (flat v1 v2 v3) _ b.at_first

  pub none_above_lem : (u v : ℕ) → pos v <ℤ (p1 v1 v2 v3).1 → triangle_figure v1 v2 v3 (pos u) (pos v) ≡ false
  none_above_lem u v l = decides_no (contained_decides v1 v2 v3 (pos u, pos v)) (λ b. omega (arith, lt_nat l, le_nat (rows_of b).0))

  pub none_below_lem : (u v : ℕ) → (p3 v1 v2 v3).1 <ℤ pos v → triangle_figure v1 v2 v3 (pos u) (pos v) ≡ false
  none_below_lem u v l = decides_no (contained_decides v1 v2 v3 (pos u, pos v)) (λ b. omega (arith, lt_nat l, le_nat (rows_of b).1))

  -- ---- a row that was walked
  module _ (y : ℤ) (r : Row) (done : Rowed (sorted v1 v2 v3) solid y r) where
    -- its columns are the triangle's, at the pixels of a frame
    within : (u v : ℕ) → u < 2048 → pos v ≡ y → (r.low ≤ℤ pos u) × (pos u <ℤ (r.high +ℤ pos 1)) → InRow (flat v1 v2 v3) (p1 v1 v2 v3) (p2 v1 v2 v3) (p3 v1 v2 v3) (pos u, pos v)
    within u v hu e s =
        let to : pos u ≤ℤ r.high = more_lt_le s.1 in
        ⊎_elim (λ z. absurd (omega (arith, le_nat s.0, eq_nat z)))
        (λ a. ⊎_elim (λ z. absurd (omega (arith, le_nat to, eq_nat z)))
        (λ b.
        record {
          first = r.low;
          last = r.high;
          from = s.0;
          to = to;
          at_first = subst (λ (z : ℤ). Edged z r.low) (sym e) (walked_edged r.low y a);
          at_last = subst (λ (z : ℤ). Edged z r.high) (sym e) (walked_edged r.high y b);
        })
        done.high_is)
        done.low_is

    around : (u v : ℕ) → pos v ≡ y → InRow (flat v1 v2 v3) (p1 v1 v2 v3) (p2 v1 v2 v3) (p3 v1 v2 v3) (pos u, pos v) → (r.low ≤ℤ pos u) × (pos u <ℤ (r.high +ℤ pos 1))
    around u v e b = (
      le_trans (done.holds b.first (edged_walked b.first y (subst (λ (z : ℤ). Edged z b.first) e b.at_first))).0 b.from,
      le_lt_more (le_trans b.to (done.holds b.last (edged_walked b.last y (subst (λ (z : ℤ). Edged z b.last) e b.at_last))).1),
    )

    pub row_columns : (u v : ℕ) → u < 2048 → pos v ≡ y → (le_z r.low (pos u) && lt_z (pos u) (r.high +ℤ pos 1)) ≡ triangle_figure v1 v2 v3 (pos u) (pos v)
    row_columns u v hu e =
        decides_one _ (triangle_figure v1 v2 v3 (pos u) (pos v))
        (decides_map (decides_between r.low (r.high +ℤ pos 1) (pos u)) (within u v hu e) (around u v e))
        (contained_decides v1 v2 v3 (pos u, pos v))

  -- ---- the numbers of the loop, for accepted vertices
  module _ (h1 : Bounded v1) (h2 : Bounded v2) (h3 : Bounded v3) where
    edge_coord : (x y : ℤ) → Edged y x → Coord x
    edge_coord x y q =
        let c = decides_yes (contained_decides v1 v2 v3 (x, y)) (record { first = x; last = x; from = ≤ℤ_refl x; to = ≤ℤ_refl x; at_first = q; at_last = q }) in
        record {
          low = box_left v1 v2 v3 (x, y) c (negsuc 131071) h1.x.low h2.x.low h3.x.low;
          high = box_right v1 v2 v3 (x, y) c (pos 131071) h1.x.high h2.x.high h3.x.high;
        }

    -- one more than a number near the coordinates
    next_fits : (z : ℤ) → dn z ≤ up z + 131073 → up z ≤ dn z + 131072 → SFits w32 (z +ℤ pos 1)
    next_fits z h k = rw (as_mk z) (simp mks (mk_fits w32 _ _ (omega arith) (omega arith)))

    pub past_fits : (y : ℤ) (r : Row) → Rowed (sorted v1 v2 v3) solid y r → SFits w32 (r.high +ℤ pos 1)
    past_fits y r done =
        ⊎_elim (λ z. next_fits r.high (omega (arith, eq_nat z)) (omega (arith, eq_nat z)))
        (λ o. let c = edge_coord r.high y (walked_edged r.high y o) in next_fits r.high (omega (arith, le_nat c.low)) (omega (arith, le_nat c.high)))
        done.high_is

-- a row above an accepted one has a next
pub next_row : {y z : ℤ} → SFits w32 y → Coord z → y <ℤ z → SFits w32 (y +ℤ pos 1)
next_row {y} f h l = rw (as_mk y) (simp mks (mk_fits w32 _ _ (omega (arith, lt_nat l, le_nat h.high)) (omega (arith, fits_dn w32 y f))))
