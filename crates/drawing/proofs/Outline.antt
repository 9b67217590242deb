-- What is proved of an outline (02, T-04): any order of the vertices gives the same, it is contained in the filled triangle and changes no byte of one, and at
-- zero area it is the line p1 to p3. The figures are over ℤ, so for vertices out of bounds too. Assumes nothing.
use mathlib.Core.Path.{◌≡◌, refl, sym, ap, ◌∙◌}
use mathlib.Core.Bool.{Bool, true, false, ◌||◌}
use mathlib.Core.List.{List}
use Prim.Native.Nat.{ℕ, zero, suc}
use native.Mathlib.Omega.{arith}
use lib.IntN.{ℤ, pos}
use lib.ListN.{length}
use Rattle.refusals.specs.First.{Tests, first}
use Rattle.geometry.specs.declared.Point.{Point}
use Rattle.geometry.specs.Place.{before, area_doubled}
use Rattle.line.specs.Line.{wide, high, major, minor, moves, x_moves, y_moves, point_at, has_point}
use Rattle.triangle.specs.Answer.{vertex_tests}
use Rattle.triangle.specs.Order.{sorted}
use Rattle.triangle.specs.Triangle.{none_below, none_above, is_flat, is_inside, on_edge, contained}
use Rattle.triangle.proofs.AnyOrder.{Same}
use Rattle.triangle.proofs.Flat.{edge_contained}
use Rattle.layout.specs.Layout.{painted}
use Rattle.layout.proofs.Painted.{painted_length, painted_painted, painted_cong}
use Rattle.frames.specs.declared.Drawn.{Drawn}
use Rattle.frames.specs.declared.Frame.{Frame}
use Rattle.frames.specs.Description.{raster}
use Rattle.frames.specs.Drawing.{Drawing, call_tests, outcome}
use Rattle.frames.proofs.Calls.{drawable, refused_outcome, accepted_outcome}
use Rattle.frames.proofs.Refusals.{sound}
use Rattle.drawing.specs.Drawing.{triangle_drawing, outline_drawing}
use Rattle.tracing.specs.Figure.{line_figure, outline_figure}
use Rattle.filling.specs.Figure.{triangle_figure}
use Rattle.tracing.proofs.Outline.{outline_any_order, on_edge_lem}

-- ---- ANY ORDER OF THE VERTICES gives the same outline, and so the same count and the same bytes
module _ {a b c d e f : Point} (same : Same a b c d e f) where
  pub outcome_any_order : (frame : Frame) (colour : ℕ) (buf : List ℕ) → outcome frame (outline_drawing a b c colour) buf ≡ outcome frame (outline_drawing d e f colour) buf
  outcome_any_order frame colour buf = λ i. outcome frame (record { figure = outline_any_order same i; colour = colour; own = same.tests i }) buf

module _ (v1 v2 v3 : Point) where
  -- ---- EVERY OUTLINE PIXEL IS CONTAINED in the filled triangle, whatever its area
  pub outline_contained : (x y : ℤ) → outline_figure v1 v2 v3 x y ≡ true → triangle_figure v1 v2 v3 x y ≡ true
  outline_contained x y h = edge_contained v1 v2 v3 (x, y) (sym (on_edge_lem v1 v2 v3 x y) ∙ h)

  -- so what lies in the fill or in the outline lies in the fill
  pub fill_or_outline : (x y : ℤ) → triangle_figure v1 v2 v3 x y || outline_figure v1 v2 v3 x y ≡ triangle_figure v1 v2 v3 x y
  fill_or_outline x y = by (triangle_figure v1 v2 v3 x y) (outline_figure v1 v2 v3 x y) (outline_contained x y)
    where
      by : (s t : Bool) → (t ≡ true → s ≡ true) → s || t ≡ s
      by true t h = refl
      by false true h = sym (h refl)
      by false false h = refl

-- ---- a call after one whose figure contains its own, in the same colour and with the same tests: it changes no byte, accepted or refused
module _ (f : Frame) (colour : ℕ) (own : Tests) (b : List ℕ) where
  abbrev drawing : (ℤ → ℤ → Bool) → Drawing
  drawing s = record { figure = s; colour = colour; own = own }

  over_drawn : (s t : ℤ → ℤ → Bool) → ((x y : ℤ) → s x y || t x y ≡ s x y) → (outcome f (drawing t) (outcome f (drawing s) b).1).1 ≡ (outcome f (drawing s) b).1
  over_drawn s t part = by (first (call_tests f (length b) (drawing s))) refl
    where
      left : (ℤ → ℤ → Bool) → List ℕ → List ℕ
      left u c = (outcome f (drawing u) c).1

      by : (n : ℕ) → n ≡ first (call_tests f (length b) (drawing s)) → left t (left s b) ≡ left s b
      by zero e =
          let P = sound f (drawable f (length b) (drawing s) e refl).accepted.described in
          let under : left s b ≡ painted (raster f) s colour b = sym (ap (λ (o : Drawn × List ℕ). o.1) (accepted_outcome f (drawing s) b e refl refl)) in
          let len : length (left s b) ≡ length b = ap length under ∙ painted_length (raster f) P s colour b in
          let again : 0 ≡ first (call_tests f (length (left s b)) (drawing t)) = e ∙ sym (ap (λ (n : ℕ). first (call_tests f n (drawing s))) len) in
          sym (ap (λ (o : Drawn × List ℕ). o.1) (accepted_outcome f (drawing t) (left s b) again refl refl))
          ∙ ap (painted (raster f) t colour) under
          ∙ painted_painted (raster f) P colour b t s
          ∙ painted_cong (raster f) P colour b _ _ (λ x y w h. part (pos x) (pos y))
          ∙ sym under
      by (suc n) e =
          let kept : (u : ℤ → ℤ → Bool) → left u b ≡ b = λ u. sym (ap (λ (o : Drawn × List ℕ). o.1) (refused_outcome f (drawing u) b e (λ z. omega arith))) in
          ap (left t) (kept s) ∙ kept t ∙ sym (kept s)

-- OVER THE FILL in its colour, the outline changes no byte
pub outline_over_fill : (f : Frame) (v1 v2 v3 : Point) (colour : ℕ) (b : List ℕ)
    → (outcome f (outline_drawing v1 v2 v3 colour) (outcome f (triangle_drawing v1 v2 v3 colour) b).1).1 ≡ (outcome f (triangle_drawing v1 v2 v3 colour) b).1
outline_over_fill f v1 v2 v3 colour b =
    over_drawn f colour (vertex_tests v1 v2 v3) b (triangle_figure v1 v2 v3) (outline_figure v1 v2 v3) (fill_or_outline v1 v2 v3)

-- ---- WORKED: of (2,1) (0,0) (2,0), 01's outline had (1,1), which the triangle does not contain; the outline has it no more
abbrev pub as_given : Point → Point → Point → ℤ → ℤ → Bool
as_given v1 v2 v3 x y = (line_figure v1 v2 x y || line_figure v2 v3 x y) || line_figure v3 v1 x y

abbrev pub designers : (Point → Point → Point → ℤ → ℤ → Bool) → ℤ → ℤ → Bool
designers figure = figure (pos 2, pos 1) (pos 0, pos 0) (pos 2, pos 0)

pub worked : (designers as_given (pos 1) (pos 1) ≡ true) × (designers triangle_figure (pos 1) (pos 1) ≡ false) × (designers outline_figure (pos 1) (pos 1) ≡ false)
unfolding outline_figure sorted before has_point point_at x_moves y_moves major minor wide high moves area_doubled none_below none_above is_flat is_inside on_edge contained
worked = (refl, refl, refl)
