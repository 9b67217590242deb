-- What is proved of a triangle, its vertices as given, in any order, with any area: span and containment agree, and the rows that have a span.
-- All of it over ℤ, so for triangles out of bounds too. Assumes nothing.
use mathlib.Core.Path.{◌≡◌, ap, ◌∙◌}
use mathlib.Core.Bool.{Bool, true, false, cond, ◌||◌}
use mathlib.Core.List.Memᴰ
use mathlib.Core.List.{Memᴰ}
use mathlib.Core.Logic.{inl, inr, ⊎_elim}
use Prim.Native.Nat.{ℕ, ◌+◌}
use native.Mathlib.Omega.{arith}
use lib.IntN.{ℤ, pos, nat_abs, ◌+ℤ◌, ◌-ℤ◌}
use lib.Signed.{◌≤ℤ◌, ◌<ℤ◌, ≤ℤ_refl}
use Rattle.whole.proofs.Decides.{Decides, decides_at, decides_one}
use Rattle.whole.proofs.Difference.{as_mk, mks, mk_eq, le_nat, nat_lt, sum_nat}
use Rattle.whole.proofs.Order.{le_trans}
use Rattle.geometry.specs.declared.Point.{Point}
use Rattle.geometry.proofs.Place.{before_rows}
use Rattle.line.specs.Line.{HasPoint, has_point}
use Rattle.triangle.specs.Order.{sorted}
use Rattle.triangle.specs.Triangle.{is_flat, is_inside, on_edge, contained}
use Rattle.triangle.specs.EdgePoint.{EdgePoint}
use Rattle.triangle.specs.Row.{hull, in_span, line_columns, edge_columns, row_span, first_row, row_count}
use Rattle.triangle.proofs.Run.{moves_to}
use Rattle.triangle.proofs.Edge.{run_on}
use Rattle.triangle.proofs.Order.{sorted_ordered, sorted_same}
use Rattle.triangle.proofs.Sides.{flat_decides, flat_swap, flat_turn, is_inside_swap, is_inside_turn}
use Rattle.triangle.proofs.Enclosed.{InRow}
use Rattle.triangle.proofs.Agree.{edge_point_rows, row_decides}
use Rattle.triangle.proofs.Spans.{Bounds, Spans, span_map, span_decides, list_spans, column_has, has_column}

module _ (v1 v2 v3 : Point) where
  abbrev pub p1 : Point
  p1 = (sorted v1 v2 v3).p1

  abbrev pub p2 : Point
  p2 = (sorted v1 v2 v3).p2

  abbrev pub p3 : Point
  p3 = (sorted v1 v2 v3).p3

  abbrev pub flat : Bool
  flat = is_flat v1 v2 v3

  -- ---- the sorted vertices
  pub upper : p1.1 ≤ℤ p2.1
  upper = before_rows p1 p2 (sorted_ordered v1 v2 v3).upper

  pub lower : p2.1 ≤ℤ p3.1
  lower = before_rows p2 p3 (sorted_ordered v1 v2 v3).lower

  pub down : p1.1 ≤ℤ p3.1
  down = le_trans upper lower

  pub flat_sorted : is_flat p1 p2 p3 ≡ flat
  flat_sorted = sorted_same is_flat flat_swap flat_turn v1 v2 v3

  inside_sorted : (p : Point) → is_inside p1 p2 p3 p ≡ is_inside v1 v2 v3 p
  inside_sorted p = sorted_same (λ a b c. is_inside a b c p) (λ a b c. is_inside_swap a b c p) (λ a b c. is_inside_turn a b c p) v1 v2 v3

  -- ---- CONTAINED exactly if it lies between two edge points of its row
  pub contained_decides : (p : Point) → Decides (contained v1 v2 v3 p) (InRow flat p1 p2 p3 p)
  unfolding contained
  contained_decides p =
      decides_at (ap (λ (b : Bool). cond flat (has_point p1 p3 p) (b || on_edge p1 p2 p3 p)) (inside_sorted p))
      (row_decides p1 p2 p3 p flat (decides_at flat_sorted (flat_decides p1 p2 p3)) upper lower)

  -- by what is known of its tests: only a triangle with area has an inside
  pub contained_by : (p : Point) (f s : Bool) → flat ≡ f → is_inside v1 v2 v3 p ≡ s → contained v1 v2 v3 p ≡ cond f (has_point p1 p3 p) (s || on_edge p1 p2 p3 p)
  unfolding contained
  contained_by p f s ef es = λ i. cond (ef i) (has_point p1 p3 p) (es i || on_edge p1 p2 p3 p)

  -- ---- the span of row y is that of the edge points on it
  listed : (b : Bool) (x y : ℤ) → Memᴰ x (edge_columns b (sorted v1 v2 v3) y) → EdgePoint b p1 p2 p3 (x, y)
  listed true x y m = column_has p1 p3 x y m
  listed false x y m =
      ⊎_elim (λ q. inl (column_has p1 p2 x y q))
      (λ q. inr (⊎_elim (λ r. inl (column_has p1 p3 x y r)) (λ r. inr (column_has p2 p3 x y r)) (Memᴰ.append_cases (line_columns p1 p3 y) q)))
      (Memᴰ.append_cases (line_columns p1 p2 y) m)

  lists : (b : Bool) (x y : ℤ) → EdgePoint b p1 p2 p3 (x, y) → Memᴰ x (edge_columns b (sorted v1 v2 v3) y)
  lists true x y q = has_column p1 p3 x y q
  lists false x y (inl q) = Memᴰ.append_left _ (has_column p1 p2 x y q)
  lists false x y (inr (inl q)) = Memᴰ.append_right (line_columns p1 p2 y) (Memᴰ.append_left _ (has_column p1 p3 x y q))
  lists false x y (inr (inr q)) = Memᴰ.append_right (line_columns p1 p2 y) (Memᴰ.append_right (line_columns p1 p3 y) (has_column p2 p3 x y q))

  pub row_spans : (y : ℤ) → Spans (λ x. EdgePoint flat p1 p2 p3 (x, y)) (row_span v1 v2 v3 y)
  unfolding row_span
  row_spans y =
      span_map (λ x. Memᴰ x (edge_columns flat (sorted v1 v2 v3) y)) (λ x. EdgePoint flat p1 p2 p3 (x, y)) (hull (edge_columns flat (sorted v1 v2 v3) y))
      (λ x. listed flat x y) (λ x. lists flat x y)
      (list_spans (edge_columns flat (sorted v1 v2 v3) y))

  -- ---- SPAN AND CONTAINMENT AGREE: a pixel is contained exactly if the span of its row holds its column
  pub span_and_containment_agree : (p : Point) → contained v1 v2 v3 p ≡ in_span (row_span v1 v2 v3 p.1) p.0
  span_and_containment_agree p =
      decides_one _ _ (contained_decides p) (span_decides (λ x. EdgePoint flat p1 p2 p3 (x, p.1)) (row_span v1 v2 v3 p.1) p.0 (row_spans p.1))

  -- ---- the rows: those from y1 to y3 have a span, and no other
  pub no_row : (y : ℤ) → (p1.1 ≤ℤ y → y ≤ℤ p3.1 → ⊥) → row_span v1 v2 v3 y ≡ (pos 0, pos 0)
  no_row y n = by (row_spans y)
    where
      by : Spans (λ x. EdgePoint flat p1 p2 p3 (x, y)) (row_span v1 v2 v3 y) → row_span v1 v2 v3 y ≡ (pos 0, pos 0)
      by (inl b) = let r = edge_point_rows p1 p2 p3 upper lower flat ((row_span v1 v2 v3 y).0, y) b.at_first in absurd (n r.0 r.1)
      by (inr e) = e.0

  on_long : (b : Bool) (p : Point) → HasPoint p1 p3 p → EdgePoint b p1 p2 p3 p
  on_long true p q = q
  on_long false p q = inr (inl q)

  pub row_bounds : (y : ℤ) → p1.1 ≤ℤ y → y ≤ℤ p3.1 → Bounds (λ x. EdgePoint flat p1 p2 p3 (x, y)) (row_span v1 v2 v3 y)
  row_bounds y a b = by (row_spans y)
    where
      by : Spans (λ x. EdgePoint flat p1 p2 p3 (x, y)) (row_span v1 v2 v3 y) → Bounds (λ x. EdgePoint flat p1 p2 p3 (x, y)) (row_span v1 v2 v3 y)
      by (inl s) = s
      by (inr e) = let r = run_on p1 p3 y a b in absurd (e.1 r.lo (on_long flat (r.lo, y) (r.run.on r.lo (≤ℤ_refl r.lo) r.run.some)))

  pub some_row : (y : ℤ) → p1.1 ≤ℤ y → y ≤ℤ p3.1 → (row_span v1 v2 v3 y).0 <ℤ (row_span v1 v2 v3 y).1
  some_row y a b =
      let s = row_bounds y a b in
      nat_lt (omega (arith, le_nat (s.least s.last s.at_last), sum_nat (row_span v1 v2 v3 y).1 s.last 1 s.past))

  -- the first row is y1, and the last, one before first and number together, is y3
  pub last_row : p3.1 ≡ (first_row v1 v2 v3 +ℤ pos (row_count v1 v2 v3)) -ℤ pos 1
  unfolding first_row row_count
  last_row = moves_to p1.1 p3.1 down ∙ one_less p1.1 (nat_abs (p3.1 -ℤ p1.1))
    where
      one_less : (y : ℤ) (n : ℕ) → y +ℤ pos n ≡ (y +ℤ pos (n + 1)) -ℤ pos 1
      one_less y n = rw (as_mk y) (simp mks (mk_eq _ _ _ _ (omega arith)))
