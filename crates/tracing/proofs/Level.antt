-- Laws of level and of upright lines: the points of an edge on one row are the columns of a span, a level line is the span of its row, and an upright one has one point on each
-- row. Assumes nothing.
use mathlib.Core.Path.{◌≡◌, refl, sym, ap, ◌∙◌}
use mathlib.Core.Bool.{Bool, true, false, ◌&&◌}
use mathlib.Core.Logic.{inl, inr, ⊎_elim}
use Prim.Native.Nat.{ℕ, ◌≤◌}
use native.Mathlib.Omega.{arith}
use borrow.Author.Tests.{le-leb}
use lib.IntN.{ℤ, pos, nat_abs, ◌+ℤ◌, ◌-ℤ◌, ◌*ℤ◌, +ℤ_invr}
use lib.Signed.{◌≤ℤ◌}
use Rattle.whole.specs.Equal.{eq_z}
use Rattle.whole.specs.Interval.{between}
use Rattle.whole.proofs.Decides.{decides_one, decides_map, decides_and, decides_between, decides_eq, decides_no}
use Rattle.whole.proofs.Difference.{lt_nat, le_nat}
use Rattle.whole.proofs.Order.{le_antisym, le_of, le_trans, lt_le_lt, le_lt_more, more_lt_le}
use Rattle.geometry.specs.declared.Point.{Point}
use Rattle.geometry.specs.Bound.{Bounded}
use Rattle.geometry.specs.Extreme.{lesser, greater}
use Rattle.geometry.proofs.Extreme.{extremes}
use Rattle.line.specs.Line.{toward, wide, high, steep, major, x_moves, point_at, has_point, HasPoint}
use Rattle.line.proofs.Lengths.{major_by, x_by, y_by}
use Rattle.line.proofs.Moves.{moves_minor}
use Rattle.line.proofs.Points.{stay, has_decides}
use Rattle.geometry.specs.declared.Columns.{Columns}
use Rattle.triangle.specs.Row.{hull, in_span, line_columns}
use Rattle.triangle.proofs.Edge.{edge_rows, no_gap}
use Rattle.triangle.proofs.Spans.{Spans, line_spans}
use Rattle.layout.specs.Figure.{span_figure}
use Rattle.tracing.specs.Figure.{line_figure}

and_one : (a b : Bool) → b ≡ true → (a && b) ≡ a
and_one true b h = h
and_one false b h = refl

and_none : (a b : Bool) → b ≡ false → (a && b) ≡ false
and_none true b h = h
and_none false b h = refl

-- ---- a row of an edge that runs down
pub row_columns : (s e : Point) (y : ℤ) → s.1 ≤ℤ e.1 → (x : ℤ) → in_span (hull (line_columns s e y)) x ≡ has_point s e (x, y)
row_columns s e y d x = by (hull (line_columns s e y)) (line_spans s e y)
  where
    none : between (pos 0) (pos 0) x ≡ false
    none = decides_no (decides_between (pos 0) (pos 0) x) (λ h. omega (arith, le_nat h.0, lt_nat h.1))

    by : (c : Columns) → Spans (λ x. HasPoint s e (x, y)) c → in_span c x ≡ has_point s e (x, y)
    by c (inl b) =
        decides_one _ _
        (decides_map (decides_between c.0 c.1 x)
        (λ h. no_gap s e y c.0 x b.last d b.at_first b.at_last h.0 (more_lt_le (rw b.past at h.1)))
        (λ p. (b.least x p, rw b.past (le_lt_more (b.largest x p)))))
        (has_decides s e (x, y))
    by c (inr n) = ap (λ (c : Columns). in_span c x) n.0 ∙ none ∙ sym (decides_no (has_decides s e (x, y)) (n.1 x))

-- ---- a level line
pub level_line : (s e : Point) → s.1 ≡ e.1 → span_figure s.1 (hull (line_columns s e s.1)).0 (hull (line_columns s e s.1)).1 ≡ line_figure s e
level_line s e level = λ i x v. by x v (eq_z v s.1) refl i
  where
    down : s.1 ≤ℤ e.1
    down = le_of level

    on_row : (x v : ℤ) → HasPoint s e (x, v) → v ≡ s.1
    on_row x v p = let r = edge_rows s e (x, v) down p in le_antisym (le_trans r.1 (le_of (sym level))) r.0

    by : (x v : ℤ) (t : Bool) → eq_z v s.1 ≡ t → span_figure s.1 (hull (line_columns s e s.1)).0 (hull (line_columns s e s.1)).1 x v ≡ line_figure s e x v
    by x v true h =
        and_one (in_span (hull (line_columns s e s.1)) x) (eq_z v s.1) h ∙ row_columns s e s.1 down x
        ∙ ap (λ (v : ℤ). has_point s e (x, v)) (sym ((decides_eq v s.1).yes h))
    by x v false h =
        and_none (in_span (hull (line_columns s e s.1)) x) (eq_z v s.1) h
        ∙ sym (decides_no (has_decides s e (x, v)) (λ p. (decides_eq v s.1).no h (on_row x v p)))

-- ---- a level edge b to c behind the edge a to b, which runs down to it
-- the columns that two spans both have
both_between : (a b c d x : ℤ) → between (greater a c) (lesser b d) x ≡ (between a b x && between c d x)
both_between a b c d x =
    let g = extremes a c in
    let l = extremes b d in
    decides_one _ _
    (decides_map (decides_between (greater a c) (lesser b d) x)
    (λ h. ((le_trans g.to_first h.0, lt_le_lt h.1 l.from_first), (le_trans g.to_second h.0, lt_le_lt h.1 l.from_second)))
    (λ h. (
      ⊎_elim (λ e. le_trans (le_of e) h.0.0) (λ e. le_trans (le_of e) h.1.0) g.high_is,
      ⊎_elim (λ e. lt_le_lt h.0.1 (le_of (sym e))) (λ e. lt_le_lt h.1.1 (le_of (sym e))) l.low_is,
    )))
    (decides_and (between a b x) (between c d x) (decides_between a b x) (decides_between c d x))

-- on its row the first edge has these of its columns
pub level_both : (a b c : Point) → a.1 ≤ℤ b.1 → b.1 ≡ c.1
    → span_figure b.1 (greater (hull (line_columns b c b.1)).0 (hull (line_columns a b b.1)).0) (lesser (hull (line_columns b c b.1)).1 (hull (line_columns a b b.1)).1)
    ≡ (λ x y. line_figure b c x y && line_figure a b x y)
level_both a b c down level =
    let row = hull (line_columns b c b.1) in
    let had = hull (line_columns a b b.1) in
    λ i x v. (ap (λ (t : Bool). t && eq_z v b.1) (both_between row.0 row.1 had.0 had.1 x) ∙ by x v (eq_z v b.1) refl
    ∙ (λ j. level_line b c level j x v && line_figure a b x v)) i
  where
    by : (x v : ℤ) (t : Bool) → eq_z v b.1 ≡ t
        → ((in_span (hull (line_columns b c b.1)) x && in_span (hull (line_columns a b b.1)) x) && eq_z v b.1) ≡ ((in_span (hull (line_columns b c b.1)) x && eq_z v b.1) && line_figure a b x v)
    by x v true h =
        let row : line_figure a b x v ≡ in_span (hull (line_columns a b b.1)) x = ap (λ (v : ℤ). has_point a b (x, v)) ((decides_eq v b.1).yes h) ∙ sym (row_columns a b b.1 down x) in
        on (in_span (hull (line_columns b c b.1)) x) (in_span (hull (line_columns a b b.1)) x) (eq_z v b.1) (line_figure a b x v) h row
      where
        on : (p q r s : Bool) → r ≡ true → s ≡ q → ((p && q) && r) ≡ ((p && r) && s)
        on true q r s h e = and_one q r h ∙ sym e ∙ sym (ap (λ (r : Bool). r && s) h)
        on false q r s h e = refl
    by x v false h = off (in_span (hull (line_columns b c b.1)) x) (in_span (hull (line_columns a b b.1)) x) (eq_z v b.1) (line_figure a b x v) h
      where
        off : (p q r s : Bool) → r ≡ false → ((p && q) && r) ≡ ((p && r) && s)
        off true q r s h = and_none q r h ∙ sym (ap (λ (r : Bool). r && s) h)
        off false q r s h = refl

-- ---- an upright line stays in its column: each step is a row on
pub upright_at : (s e : Point) (k : ℕ) → s.0 ≡ e.0 → k ≤ major s e → point_at s e k ≡ (s.0, s.1 +ℤ toward s.1 e.1 *ℤ pos k)
unfolding point_at wide
upright_at s e k same walked =
    let none : wide s e ≡ 0 = ap (λ (z : ℤ). nat_abs (z -ℤ s.0)) (sym same) ∙ ap nat_abs (+ℤ_invr s.0) in
    let axis : steep s e ≡ true = le-leb (wide s e) (high s e) (omega arith) in
    let still : x_moves s e k ≡ 0 = x_by s e true axis k ∙ omega (arith, moves_minor (high s e) (wide s e) k (omega (arith, major_by s e true axis))) in
    λ i. ((ap (λ (n : ℕ). s.0 +ℤ toward s.0 e.0 *ℤ pos n) still ∙ stay s.0 e.0) i, s.1 +ℤ toward s.1 e.1 *ℤ pos (y_by s e true axis k i))

-- the column, the first row and the way of an upright line
pub record Column (s e : Point) (x from on : ℤ) : Type 0 where
  pub start : Bounded s
  pub upright : s.0 ≡ e.0
  pub column : x ≡ s.0
  pub row : from ≡ s.1
  pub way : on ≡ toward s.1 e.1
