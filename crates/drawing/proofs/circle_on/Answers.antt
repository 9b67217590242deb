-- `drawing::circle_on` where it is not refused fills the rows within the rectangle, or all of it where the circle contains its corners. Assumes nothing.
use mathlib.Core.Path.{◌≡◌, refl, sym, ◌∙◌}
use mathlib.Core.Bool.{true}
use Prim.Native.Nat.{ℕ}
use native.Mathlib.Omega.{arith}
use lib.IntN.{pos}
use borrow.Author.Tests.{not-false}
use Rattle.circle.specs.Refusal.{circle_tests}
use Rattle.circle.proofs.Corners.{corners_all}
use Rattle.painting.proofs.Brushes.{calls, ready_on, ready_small}
use Rattle.frames.proofs.Calls.{everywhere_on}
use Rattle.painting.specs.Brush.{brush_of}
use Rattle.windows.specs.Window.{in_window}
use Rattle.windows.proofs.Windows.{window_in}
use Rattle.drawing.specs.Drawing.{circle_drawing}
use Rattle.filling.specs.Figure.{circle_figure}
use Rattle.drawing.proofs.circle_on.Goals as goal

pub returns-in_err-accept_circle : goal.returns-in_err-accept_circle
returns-in_err-accept_circle c = search (calls, c.in_err-accept_circle.ensures.number)

pub accepted_covers-requires : goal.accepted_covers-requires
accepted_covers-requires c =
    let a = c.args in
    let fits = c.in_ok-accept_circle.ensures in
    let R = ready_on a.canvas a.colour (circle_tests a.topleft a.diameter) {q = brush_of a.canvas a.colour} c.requires refl fits.number in
    let w = ready_small R in
    (fits.accepted, omega (arith, w.0, w.1), omega (arith, w.2, w.3), w.1, w.3)

pub fill_circle-requires : goal.fill_circle-requires
fill_circle-requires c = (search (calls, c.in_ok-accept_circle.ensures.number), c.in_ok-accept_circle.ensures.accepted)

pub returns-then-not-accepted_covers : goal.returns-then-not-accepted_covers
returns-then-not-accepted_covers c = search (calls, c.in_ok-accept_circle.ensures.number)

pub returns : goal.returns
returns c =
    let a = c.args in
    let q = a.canvas.window in
    let e = sym c.accepted_covers.ensures ∙ not-false _ c.if-not-accepted_covers.false-raw in
    let all : (u v : ℕ) → in_window q (pos u) (pos v) ≡ true → circle_figure a.topleft a.diameter (pos u) (pos v) ≡ true =
    λ u v h. let p = window_in q u v h in corners_all a.topleft a.diameter q.left q.top q.right q.bottom e u v p.0.0 p.0.1 p.1.0 p.1.1 in
    c.fill_on.ensures ∙ everywhere_on a.canvas (circle_drawing a.topleft a.diameter a.colour) a.buf.now c.in_ok-accept_circle.ensures.number c.requires all
