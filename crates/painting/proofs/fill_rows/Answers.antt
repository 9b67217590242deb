-- `painting::fill_rows` has painted the rectangle's rows above y, and counted their pixels. Assumes nothing.
use mathlib.Core.Path.{◌≡◌, sym, subst, ◌∙◌}
use Prim.Native.Nat.{◌≤◌}
use native.Mathlib.Omega.{arith}
use lib.IntN.{pos}
use mir.Syntax.{w32}
use mir.Val.{to_z}
use Rattle.whole.proofs.Machine.{same_bits}
use Rattle.layout.specs.Figure.{span_figure, everywhere}
use Rattle.painting.specs.Brush.{Ready, brushed, on_top}
use Rattle.painting.proofs.Rows.{brush_sound, few_pixels_lem, rows_start, rows_turn, rows_end, above_top, below_bottom}
use Rattle.windows.proofs.Windows.{between_in}
use Rattle.painting.proofs.Brushes.{ready_small}
use Rattle.painting.proofs.fill_rows.Goals as goal

-- nothing is above the rectangle's first row
pub loop-y-init : goal.loop-y-init
loop-y-init c =
    let a = c.args in
    sym (rows_start a.brush (brush_sound c.requires) a.buf.now everywhere (pos a.brush.window.top) (above_top a.brush.window))

pub paint_more-seen-requires : goal.paint_more-seen-requires
paint_more-seen-requires c =
    let l = c.loop-y in
    (subst (Ready c.args.brush) (sym l.auto.buf) c.requires, few_pixels_lem c.requires _ (λ i. (l.invariant i).0))

pub loop-y-preserved : goal.loop-y-preserved
loop-y-preserved c =
    let a = c.args in
    let l = c.loop-y in
    let width = a.brush.frame.width in
    let few : l.y ≤ 2048 = omega (arith, (ready_small c.requires).3) in
    let wide : width ≤ 2048 = c.requires.drawable.accepted.described.width in
    let row : to_z w32 l.y ≡ pos l.y = (same_bits {w = w32} few tt).is in
    let end : to_z w32 width ≡ pos width = (same_bits {w = w32} wide tt).is in
    rows_turn a.brush (brush_sound c.requires) a.buf.now everywhere (pos l.y) (pos 0) (pos width) (λ u v hu hv e. between_in u 0 width (omega arith) hu) l.invariant
    (c.paint_more-seen.ensures ∙ (λ i. on_top l.seen (brushed a.brush (span_figure (row i) (pos 0) (end i)) l.buf)))

pub returns : goal.returns
returns c =
    let l = c.loop-y in
    let a = c.args in
    let all : a.brush.window.bottom ≤ l.y = omega arith in
    l.invariant ∙ rows_end a.brush (brush_sound c.requires) a.buf.now everywhere (pos l.y) (λ u v. below_bottom a.brush.window l.y u v all)
