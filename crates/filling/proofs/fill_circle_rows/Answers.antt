-- `filling::fill_circle_rows` paints a row's span a turn: before row k the figure's rows above the k-th are painted, and their pixels counted. The rows that are left out lie
-- outside the rectangle or the circle's box. Assumes nothing.
use mathlib.Core.Path.{◌≡◌, refl, sym, ap, subst, ◌∙◌}
use Prim.Native.Nat.{ℕ, ◌+◌}
use native.Mathlib.Omega.{arith}
use lib.IntN.{ℤ, pos, ◌+ℤ◌, +ℤ_assoc}
use mir.Syntax.{w32}
use mir.Val.{to_z, of_z}
use borrow.Author.Rules.{rules}
use Rattle.geometry.specs.declared.Columns.{Columns}
use Rattle.circle.specs.Circle.{span_start, span_end}
use Rattle.circle.proofs.Refusals.{widest}
use Rattle.circle.proofs.Worked.{after_is}
use Rattle.layout.specs.Figure.{span_figure}
use Rattle.painting.specs.Brush.{Ready, brushed, on_top}
use Rattle.filling.specs.Figure.{circle_figure}
use Rattle.filling.proofs.Circles.{circle_columns, none_before, none_after}
use Rattle.painting.proofs.Rows.{brush_sound, few_pixels_lem, above, rows_start, rows_turn, rows_end}
use Rattle.filling.proofs.fill_circle_rows.Goals as goal

pub loop-k-init : goal.loop-k-init
loop-k-init c =
    let a = c.args in
    rw c.into_iter-k-iterator.ensures.into_iter_gives (
      refl,
      sym (rows_start a.brush (brush_sound c.requires.0) a.buf.now (circle_figure a.topleft a.diameter) (a.topleft.1 +ℤ pos a.rows.start)
          (none_before a.brush.window a.topleft a.diameter c.requires.2)),
    )

pub paint_more-seen-requires : goal.paint_more-seen-requires
paint_more-seen-requires c = (subst (Ready c.args.brush) (sym c.loop-k.auto.buf) c.requires.0, few_pixels_lem c.requires.0 _ (λ i. (c.loop-k.invariant.1 i).0))

pub loop-k-preserved : goal.loop-k-preserved
loop-k-preserved c =
    let a = c.args in
    let k = c.in-Some.k in
    let y = a.topleft.1 +ℤ pos k in
    let steps = c.in-Some.ensures.steps in
    let next : k + 1 ≡ c.next.new.self.start = omega arith in
    let y_is : to_z w32 (of_z w32 (to_z w32 (of_z w32 a.topleft.1) +ℤ to_z w32 k)) ≡ y = after_is c.requires.1.corner.y k (omega (arith, c.requires.2.most, widest c.requires.1)) in
    let span_is = c.box_row_span-row.ensures ∙ ap (λ (z : ℤ). (span_start a.topleft a.diameter z, span_end a.topleft a.diameter z)) y_is in
    let start_back : to_z w32 (of_z w32 c.box_row_span-row.result.0) ≡ c.box_row_span-row.result.0 = search rules in
    let end_back : to_z w32 (of_z w32 c.box_row_span-row.result.1) ≡ c.box_row_span-row.result.1 = search rules in
    let start = start_back ∙ ap (λ (q : Columns). q.0) span_is in
    let end = end_back ∙ ap (λ (q : Columns). q.1) span_is in (
      steps.0 ∙ c.loop-k.invariant.0,
      rows_turn a.brush (brush_sound c.requires.0) a.buf.now (circle_figure a.topleft a.diameter) y (span_start a.topleft a.diameter y) (span_end a.topleft a.diameter y)
          (λ u v hu hv e. circle_columns a.topleft a.diameter y u v e)
          (rw steps.1.1 c.loop-k.invariant.1)
          (c.paint_more-seen.ensures ∙ (λ i. on_top c.loop-k.seen (brushed a.brush (span_figure (y_is i) (start i) (end i)) c.loop-k.buf)))
          ∙ ap (λ (z : ℤ). brushed a.brush (above (circle_figure a.topleft a.diameter) z) a.buf.now) (+ℤ_assoc a.topleft.1 (pos k) (pos 1))
          ∙ ap (λ (n : ℕ). brushed a.brush (above (circle_figure a.topleft a.diameter) (a.topleft.1 +ℤ pos n)) a.buf.now) next,
    )

pub returns : goal.returns
returns c =
    let a = c.args in
    let steps = c.in-None.ensures.steps in
    c.loop-k.invariant.1
    ∙ rows_end a.brush (brush_sound c.requires.0) a.buf.now (circle_figure a.topleft a.diameter) (a.topleft.1 +ℤ pos c.loop-k.k-iterator.start)
    (none_after a.brush.window a.topleft a.diameter c.requires.2 c.loop-k.k-iterator.start (omega arith))
