-- The rows and columns of an accepted triangle stay within 32 bits, and so a row's line is at most 36 bytes long. Assumes nothing.
use mathlib.Core.Path.{◌≡◌, refl, sym, ap, subst, ◌∙◌}
use mathlib.Core.Bool.{Bool, true, false, cond, not, ◌&&◌}
use mathlib.Core.Logic.{inl, inr}
use Prim.Native.Nat.{ℕ, zero, suc, ◌+◌, ◌*◌, ◌-◌, ◌≤◌}
use native.Mathlib.Omega.{arith}
use lib.Dec.{eqb}
use lib.IntN.{ℤ, pos, negsuc, ◌+ℤ◌, ◌-ℤ◌}
use lib.Signed.{◌≤ℤ◌}
use lib.ListN.{length, length-append}
use borrow.Author.Tests.{ne_eqb}
use mir.Syntax.{w32}
use mir.Val.{SFits}
use Rattle.whole.proofs.Decides.{decides_yes}
use Rattle.whole.proofs.Difference.{up, dn, mk, as_mk, mks, mk_eq, le_nat, sum_nat, nat_le}
use Rattle.whole.proofs.Machine.{one, minus, mk_fits, fits_dn}
use Rattle.whole.proofs.Order.{le_self, le_move}
use Rattle.geometry.specs.declared.Point.{Point}
use Rattle.geometry.specs.Answer.{span}
use Rattle.geometry.specs.Bound.{Coord, in_bounds}
use Rattle.geometry.proofs.Bound.{coord_size, coord_fits}
use Rattle.geometry.specs.declared.Columns.{Columns}
use Rattle.triangle.specs.declared.RowRange.{RowRange}
use Rattle.refusals.specs.First.{first}
use Rattle.triangle.specs.Answer.{vertex_tests, rows_answer}
use Rattle.triangle.specs.EdgePoint.{EdgePoint}
use Rattle.triangle.specs.Row.{row_span, first_row, row_count}
use Rattle.triangle.specs.Triangle.{contained}
use Rattle.triangle.proofs.Refusals.{Accepted, is_accepted, sorted_bounded}
use Rattle.triangle.proofs.Spans.{Spans}
use Rattle.triangle.proofs.Triangle.{p1, p2, p3, flat, contained_decides, row_spans, last_row}
use Rattle.triangle.proofs.Box.{box_left, box_right}
use Rattle.std.specs.Prelude.{Option, Some, None}
use Rattle.std.specs.Option.{is_some}
use Rattle.text.proofs.Showing.{zero_fits, triple_short, counted_short}
use Rattle.text.specs.Words.{counted}
use Rattle.readers.specs.declared.figures.Corners.{Corners}
use Rattle.readers.specs.Figures.{corners_or_zero}
use Rattle.reports.specs.Words.{refused, rows}
use Rattle.reports.specs.Corners.{corners_refusal}
use Rattle.reports.specs.Spans.{rows_of, heading, row_of, row_line, row_lines, report}

-- ---- m rows further on, of n that end at 131,072 or before
module _ (y : ℤ) (n m : ℕ) (some : m ≤ n) (below : (y +ℤ pos n) ≤ℤ pos 131072) where
  part : up y + m ≤ 131072 + dn y
  part = omega (arith, le_nat below, sum_nat (y +ℤ pos n) y n refl)

  pub further_fits : SFits w32 y → SFits w32 (y +ℤ pos m)
  further_fits f = subst (SFits w32) (sym more) (mk_fits w32 (up y + m) (dn y) (omega (arith, part)) (omega (arith, fits_dn w32 y f)))
    where
      more : y +ℤ pos m ≡ mk (up y + m) (dn y)
      more = ap (λ (z : ℤ). z +ℤ pos m) (as_mk y) ∙ simp mks (mk_eq _ _ _ _ (omega arith))

  pub further_below : ((y +ℤ pos m) +ℤ pos (n - m)) ≤ℤ pos 131072
  further_below = subst (λ (z : ℤ). z ≤ℤ pos 131072) (sym same) below
    where
      same : (y +ℤ pos m) +ℤ pos (n - m) ≡ y +ℤ pos n
      same = rw (as_mk y) (simp mks (mk_eq _ _ _ _ (omega arith)))

  pub fewer_below : (y +ℤ pos m) ≤ℤ pos 131072
  fewer_below = nat_le (omega (arith, part, sum_nat (y +ℤ pos m) y m refl))

-- ---- the columns of a row
module _ (v1 v2 v3 : Point) (y : ℤ) (a : Accepted v1 v2 v3) where
  edge_coord : (x : ℤ) → EdgePoint (flat v1 v2 v3) (p1 v1 v2 v3) (p2 v1 v2 v3) (p3 v1 v2 v3) (x, y) → Coord x
  edge_coord x e =
      let c : contained v1 v2 v3 (x, y) ≡ true =
      decides_yes (contained_decides v1 v2 v3 (x, y)) (record { first = x; last = x; from = le_self x; to = le_self x; at_first = e; at_last = e }) in
      record {
        low = box_left v1 v2 v3 (x, y) c (negsuc 131071) a.0.x.low a.1.x.low a.2.x.low;
        high = box_right v1 v2 v3 (x, y) c (pos 131071) a.0.x.high a.1.x.high a.2.x.high;
      }

  pub span_fits : SFits w32 (row_span v1 v2 v3 y).0 × SFits w32 (row_span v1 v2 v3 y).1
  span_fits = by (row_spans v1 v2 v3 y)
    where
      by : Spans (λ x. EdgePoint (flat v1 v2 v3) (p1 v1 v2 v3) (p2 v1 v2 v3) (p3 v1 v2 v3) (x, y)) (row_span v1 v2 v3 y)
          → SFits w32 (row_span v1 v2 v3 y).0 × SFits w32 (row_span v1 v2 v3 y).1
      by (inl b) =
          let last : Coord b.last = edge_coord b.last b.at_last in (
            coord_fits (edge_coord (row_span v1 v2 v3 y).0 b.at_first),
            subst (SFits w32) (sym b.past) (further_fits b.last 1 1 (omega arith) (le_move b.last (pos 131071) (pos 1) last.high) (coord_fits last)),
          )
      by (inr e) = subst (λ (s : Columns). SFits w32 s.0 × SFits w32 s.1) (sym e.0) (zero_fits, zero_fits)

pub row_fits : (t : Corners) (y : ℤ) → SFits w32 (row_of t y).start × SFits w32 (row_of t y).end
unfolding row_of
row_fits t y = by (corners_refusal t) refl
  where
    by : (n : ℕ) → corners_refusal t ≡ n
        → SFits w32 (span n (row_span t.a t.b t.c y).0 (row_span t.a t.b t.c y).1).start
        × SFits w32 (span n (row_span t.a t.b t.c y).0 (row_span t.a t.b t.c y).1).end
    by zero e = span_fits t.a t.b t.c y (is_accepted t.a t.b t.c e)
    by (suc n) e = (zero_fits, zero_fits)

pub row_short : (t : Corners) (y : ℤ) → SFits w32 y → length (row_line t y) ≤ 36
row_short t y f = let s = row_fits t y in triple_short y (row_of t y).start (row_of t y).end _ f s.0 s.1

pub rows_short : (t : Corners) (y : ℤ) (n : ℕ) → SFits w32 y → (y +ℤ pos n) ≤ℤ pos 131072 → length (row_lines t y n) ≤ 36 * n
rows_short t y zero f h = omega arith
rows_short t y (suc n) f h =
    omega (
      arith,
      row_short t y f,
      length-append (row_line t y) (row_lines t (y +ℤ pos 1) n),
      rows_short t (y +ℤ pos 1) n (further_fits y (suc n) 1 (omega arith) h f)
          (subst (λ (k : ℕ). ((y +ℤ pos 1) +ℤ pos k) ≤ℤ pos 131072) less (further_below y (suc n) 1 (omega arith) h)),
    )
  where
    less : suc n - 1 ≡ n
    less = omega arith

-- ---- the rows of a triangle end at 131,072 or before
module _ (v1 v2 v3 : Point) (a : Accepted v1 v2 v3) where
  pub rows_end : (first_row v1 v2 v3 +ℤ pos (row_count v1 v2 v3)) ≤ℤ pos 131072
  rows_end =
      let bottom : Coord (p3 v1 v2 v3).1 = (sorted_bounded v1 v2 v3 _ refl a).third.y in
      subst (λ (z : ℤ). z ≤ℤ pos 131072) (sym one_more) (le_move (p3 v1 v2 v3).1 (pos 131071) (pos 1) bottom.high)
    where
      more : (y z : ℤ) → y ≡ z -ℤ pos 1 → z ≡ y +ℤ pos 1
      more y z e = rw e (rw (as_mk z) (simp mks (mk_eq _ _ _ _ (omega arith))))

      one_more : first_row v1 v2 v3 +ℤ pos (row_count v1 v2 v3) ≡ (p3 v1 v2 v3).1 +ℤ pos 1
      one_more = more (p3 v1 v2 v3).1 (first_row v1 v2 v3 +ℤ pos (row_count v1 v2 v3)) (last_row v1 v2 v3)

abbrev asked : Corners → ℕ → RowRange
asked t n = rows_answer n (first_row t.a t.b t.c) (row_count t.a t.b t.c)

pub rows_below : (v : Option Corners) → ((rows_of v).first +ℤ pos (rows_of v).count) ≤ℤ pos 131072
unfolding rows_of
rows_below None = nat_le (omega arith)
rows_below (Some t) = by (corners_refusal t) refl
  where
    by : (n : ℕ) → corners_refusal t ≡ n → ((asked t n).first +ℤ pos (asked t n).count) ≤ℤ pos 131072
    by zero e = rows_end t.a t.b t.c (is_accepted t.a t.b t.c e)
    by (suc n) e = nat_le (omega arith)

pub first_fits : (v : Option Corners) → SFits w32 (rows_of v).first
unfolding rows_of first_row
first_fits None = zero_fits
first_fits (Some t) = by (corners_refusal t) refl
  where
    by : (n : ℕ) → corners_refusal t ≡ n → SFits w32 (asked t n).first
    by zero e = coord_fits (sorted_bounded t.a t.b t.c _ refl (is_accepted t.a t.b t.c e)).first.y
    by (suc n) e = zero_fits

-- ---- and they are few, so the first line is at most 19 bytes long
rows_few : (v1 v2 v3 : Point) → Accepted v1 v2 v3 → row_count v1 v2 v3 ≤ 262145
unfolding row_count
rows_few v1 v2 v3 a =
    let b = sorted_bounded v1 v2 v3 _ refl a in
    omega (arith, (minus (one {w = w32} (p3 v1 v2 v3).1 (coord_size b.third.y) tt) (one (p1 v1 v2 v3).1 (coord_size b.first.y) tt) tt).size)

refusal_few : (v1 v2 v3 : Point) → first (vertex_tests v1 v2 v3) ≤ 5
unfolding vertex_tests
refusal_few v1 v2 v3 = by (not (in_bounds v1 && (in_bounds v2 && in_bounds v3)))
  where
    by : (t : Bool) → cond t 5 0 ≤ 5
    by true = omega arith
    by false = omega arith

pub heading_short : (v : Option Corners) → length (heading (is_some v) (rows_of v)) ≤ 19
unfolding rows_of heading
heading_short None = omega arith
heading_short (Some t) = by (corners_refusal t) refl
  where
    by : (n : ℕ) → corners_refusal t ≡ n
        → length (cond (eqb (asked t n).number 0) (counted rows (asked t n).count) (counted refused (asked t n).number)) ≤ 19
    by zero e =
        let few : row_count t.a t.b t.c ≤ 262145 = rows_few t.a t.b t.c (is_accepted t.a t.b t.c e) in
        omega (arith, counted_short rows (row_count t.a t.b t.c) (record { fits = omega arith }))
    by (suc n) e =
        rw (ne_eqb (suc n) 0 (λ q. omega arith))
        (omega (arith, counted_short refused (suc n) (record { fits = omega (arith, refusal_few t.a t.b t.c) })))

-- a report's length fits a machine number
pub report_short : (v : Option Corners) → length (report v) ≤ 100000000000
report_short v =
    let y = (rows_of v).first in
    let n = (rows_of v).count in
    omega (
      arith,
      length-append (heading (is_some v) (rows_of v)) (row_lines (corners_or_zero v) y n),
      heading_short v,
      rows_short (corners_or_zero v) y n (first_fits v) (rows_below v),
      part y n n (omega arith) (rows_below v),
      fits_dn w32 y (first_fits v),
    )
