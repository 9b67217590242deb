-- Laws of a circle's fill: its rows start at its top and end below its box, those that the rectangle has not are none of its own, and a row's span has the figure's
-- columns. Assumes nothing.
use mathlib.Core.Path.{◌≡◌, refl, sym, ap, ◌∙◌}
use mathlib.Core.Bool.{Bool, true, false, ◌&&◌}
use mathlib.Core.Logic.{◌⊎◌, inl, inr}
use Prim.Native.Nat.{ℕ, ◌≤◌, ◌<◌}
use native.Mathlib.Omega.{arith}
use lib.IntN.{ℤ, pos, nat_abs, ◌+ℤ◌, ◌-ℤ◌, ◌*ℤ◌}
use lib.Signed.{le_z, lt_z, clash_ℤ, ◌≤ℤ◌, ◌<ℤ◌}
use Rattle.whole.specs.Interval.{between}
use Rattle.whole.proofs.Decides.{decides_yes, decides_no, decides_between}
use Rattle.whole.proofs.Difference.{as_mk, mks, mk_eq, lt_nat, le_nat, nat_le, nat_lt, sum_nat}
use Rattle.whole.proofs.Machine.{lt_yes, lt_no, size_pos}
use Rattle.whole.proofs.Order.{le_sub}
use Rattle.whole.proofs.Tests.{lt_or_ge}
use Rattle.geometry.specs.declared.Point.{Point}
use Rattle.circle.specs.Circle.{box_row, span_start, span_end}
use Rattle.circle.proofs.Containment.{in_box_decides, outside}
use Rattle.circle.proofs.Spans.{span_agrees}
use Rattle.std.specs.declared.ops.Range.{Range}
use Rattle.windows.specs.declared.Window.{Window}
use Rattle.windows.specs.Interval.{Held}
use Rattle.windows.specs.Window.{in_window, held_by}
use Rattle.windows.proofs.Interval.{is_step, held_exactly, step_before, step_after}
use Rattle.filling.specs.Figure.{circle_figure}
use Rattle.painting.proofs.Rows.{span_off}

module _ (c : Point) (d : ℕ) where
  circle_above : (u v : ℕ) → pos v <ℤ c.1 → circle_figure c d (pos u) (pos v) ≡ false
  circle_above u v l = outside c d (pos u, pos v) (decides_no (in_box_decides c d (pos u, pos v)) (λ b. clash_ℤ l b.1.0))

  circle_below : (u v : ℕ) → (c.1 +ℤ pos d) ≤ℤ pos v → circle_figure c d (pos u) (pos v) ≡ false
  circle_below u v l = outside c d (pos u, pos v) (decides_no (in_box_decides c d (pos u, pos v)) (λ b. clash_ℤ b.1.1 l))

  pub circle_columns : (y : ℤ) (u v : ℕ) → pos v ≡ y → (le_z (span_start c d y) (pos u) && lt_z (pos u) (span_end c d y)) ≡ circle_figure c d (pos u) (pos v)
  circle_columns y u v e = ap (λ (z : ℤ). le_z (span_start c d z) (pos u) && lt_z (pos u) (span_end c d z)) (sym e) ∙ sym (span_agrees c d (pos u) (pos v))

-- ---- its k-th row is one of its box
pub box_row_lem : (c : Point) (d k : ℕ) → k < d → box_row c d (c.1 +ℤ pos k) ≡ true
box_row_lem c d k l =
    let here = sum_nat (c.1 +ℤ pos k) c.1 k refl in
    decides_yes (decides_between c.1 (c.1 +ℤ pos d) (c.1 +ℤ pos k)) (nat_le (omega arith), nat_lt (omega (arith, sum_nat (c.1 +ℤ pos d) c.1 d refl)))

-- ---- a row of the frame: above a circle's box, one of its rows, or below it
data BoxRow (top : ℤ) (d v : ℕ) : Type 0 where
  over : pos v <ℤ top → BoxRow top d v
  at : (j : ℕ) → pos v ≡ top +ℤ pos j → j < d → BoxRow top d v
  under : (top +ℤ pos d) ≤ℤ pos v → BoxRow top d v

row_of : (top : ℤ) (d v : ℕ) → BoxRow top d v
row_of top d v = by (lt_z (pos v) top) lt_yes lt_no
  where
    forth : (a b : ℤ) → b ≡ a +ℤ (b -ℤ a)
    forth a b = rw (as_mk a, as_mk b) (simp mks (mk_eq _ _ _ _ (omega arith)))

    side : (j : ℕ) → pos v ≡ top +ℤ pos j → (j < d) ⊎ (d ≤ j) → BoxRow top d v
    side j e (inl l) = at j e l
    side j e (inr l) = under (nat_le (omega (arith, sum_nat (pos v) top j e, sum_nat (top +ℤ pos d) top d refl)))

    by : (t : Bool) → (t ≡ true → pos v <ℤ top) → (t ≡ false → top ≤ℤ pos v) → BoxRow top d v
    by true f g = over (f refl)
    by false f g =
        let j = nat_abs (pos v -ℤ top) in
        side j (forth top (pos v) ∙ ap (λ (z : ℤ). top +ℤ z) (size_pos (pos v -ℤ top) (le_sub top (pos v) (g refl)))) (lt_or_ge j d)

-- ---- the rows of the box that the rectangle has
module _ (q : Window) (c : Point) (d : ℕ) {t : Range ℕ} (H : Held c.1 true q.top q.bottom d t) where
  -- a row that is none of them is not in both the figure and the rectangle
  row_out : (u v : ℕ) → ((j : ℕ) → pos v ≡ c.1 +ℤ pos j → j < d → is_step t j ≡ false) → held_by q (circle_figure c d) (pos u) (pos v) ≡ false
  row_out u v none = by (row_of c.1 d v)
    where
      by : BoxRow c.1 d v → held_by q (circle_figure c d) (pos u) (pos v) ≡ false
      by (over l) = span_off (in_window q (pos u) (pos v)) _ (circle_above c d u v l)
      by (under l) = span_off (in_window q (pos u) (pos v)) _ (circle_below c d u v l)
      by (at j e l) =
          let here : pos v ≡ c.1 +ℤ pos 1 *ℤ pos j = e ∙ ap (λ (n : ℕ). c.1 +ℤ pos n) (omega arith) in
          let row : between (pos q.top) (pos q.bottom) (pos v) ≡ false =
          ap (between (pos q.top) (pos q.bottom)) here ∙ sym (held_exactly true H j l) ∙ none j e l in
          ap (λ (p : Bool). p && circle_figure c d (pos u) (pos v)) (span_off (between (pos q.left) (pos q.right) (pos u)) _ row)

  pub none_before : (u v : ℕ) → pos v <ℤ (c.1 +ℤ pos t.start) → held_by q (circle_figure c d) (pos u) (pos v) ≡ false
  none_before u v l =
      row_out u v (λ j e h. step_before t j (omega (arith, lt_nat l, sum_nat (pos v) c.1 j e, sum_nat (c.1 +ℤ pos t.start) c.1 t.start refl)))

  pub none_after : (k : ℕ) → t.end ≤ k → (u v : ℕ) → (c.1 +ℤ pos k) ≤ℤ pos v → held_by q (circle_figure c d) (pos u) (pos v) ≡ false
  none_after k p u v l = row_out u v (λ j e h. step_after t j (omega (arith, le_nat l, sum_nat (pos v) c.1 j e, sum_nat (c.1 +ℤ pos k) c.1 k refl)))
