-- `tracing::draw_edges` sorts the vertices and draws one edge after the other: what is painted is any of them, and of each what is new is counted. At zero area all
-- are the line p1 to p3. Assumes nothing.
use mathlib.Core.Path.{◌≡◌, refl, sym, ap, subst, ◌∙◌}
use mathlib.Core.Bool.{true, not, ◌||◌, not-not}
use Prim.Native.Nat.{ℕ, ◌+◌, ◌≤◌}
use native.Mathlib.Omega.{arith}
use lib.ListN.{length}
use lib.Signed.{◌≤ℤ◌}
use borrow.Author.Rules.{rules}
use Rattle.geometry.specs.Bound.{Bounded}
use Rattle.triangle.specs.declared.Sorted.{Sorted}
use Rattle.triangle.specs.Triangle.{is_flat}
use Rattle.triangle.proofs.Order.{All}
use Rattle.triangle.proofs.Triangle.{upper}
use Rattle.triangle.proofs.Refusals.{sorted_bounded}
use Rattle.painting.specs.Brush.{Ready, brushed}
use Rattle.painting.proofs.Rows.{brush_sound, few_pixels_lem}
use Rattle.tracing.specs.Figure.{line_figure, sorted_figure, outline_figure}
use Rattle.tracing.proofs.Figures.{after_earlier}
use Rattle.tracing.proofs.Outline.{outline_flat}
use Rattle.tracing.proofs.draw_edges.Goals as goal
use Rattle.tracing.proofs.draw_edges.Goals.{After-draw_second-of_second, After-sorted_yx-t}

-- with the sorted vertices at hand: they are in bounds, and the brush may paint on a buffer of the same length
module _ (c : After-sorted_yx-t) where
  bounded : All Bounded c.sorted_yx-t.result
  bounded = sorted_bounded c.args.v1 c.args.v2 c.args.v3 _ c.sorted_yx-t.ensures c.requires.1

  ready : {n : ℕ} → n ≡ length c.args.buf.now → Ready c.args.brush n
  ready e = subst (Ready c.args.brush) (sym e) c.requires.0

  down : c.sorted_yx-t.result.p1.1 ≤ℤ c.sorted_yx-t.result.p2.1
  down = subst (λ (t : Sorted). t.p1.1 ≤ℤ t.p2.1) (sym c.sorted_yx-t.ensures) (upper c.args.v1 c.args.v2 c.args.v3)

pub draw_alone-requires : goal.draw_alone-requires
draw_alone-requires c =
    let b = bounded (goal.at.draw_alone-requires c).After-sorted_yx-t in
    (ready (goal.at.draw_alone-requires c).After-sorted_yx-t refl, search rules)

pub returns-then-not-is_solid : goal.returns-then-not-is_solid
returns-then-not-is_solid c =
    let a = c.args in
    let flat : is_flat a.v1 a.v2 a.v3 ≡ true = sym (not-not (is_flat a.v1 a.v2 a.v3)) ∙ ap not (sym c.is_solid.ensures) ∙ c.if-not-is_solid.true-raw in
    c.draw_alone.ensures
    ∙ ap (λ (t : Sorted). brushed a.brush (line_figure t.p1 t.p3) a.buf.now) c.sorted_yx-t.ensures
    ∙ sym (λ i. brushed a.brush (λ x y. outline_flat a.v1 a.v2 a.v3 flat x y i) a.buf.now)

pub draw_alone-of_first-requires : goal.draw_alone-of_first-requires
draw_alone-of_first-requires c =
    let b = bounded (goal.at.draw_alone-of_first-requires c).After-sorted_yx-t in
    (ready (goal.at.draw_alone-of_first-requires c).After-sorted_yx-t refl, search rules)

pub draw_second-of_second-requires : goal.draw_second-of_second-requires
draw_second-of_second-requires c =
    let b = bounded (goal.at.draw_second-of_second-requires c).After-sorted_yx-t in
    (ready (goal.at.draw_second-of_second-requires c).After-sorted_yx-t c.draw_alone-of_first.auto.buf, search rules, down (goal.at.draw_second-of_second-requires c).After-sorted_yx-t)

pub draw_edge-requires : goal.draw_edge-requires
draw_edge-requires c =
    let b = bounded (goal.at.draw_edge-requires c).After-sorted_yx-t in
    (ready (goal.at.draw_edge-requires c).After-sorted_yx-t (c.draw_second-of_second.auto.buf ∙ c.draw_alone-of_first.auto.buf), search rules, search rules)

-- no edge has more pixels than the frame
two_fit : (c : After-draw_second-of_second) → c.draw_alone-of_first.result + c.draw_second-of_second.result ≤ 8388608
two_fit c =
    let R = c.requires.0 in
    omega (arith, few_pixels_lem R _ (λ i. (c.draw_alone-of_first.ensures i).0), few_pixels_lem R _ c.draw_second-of_second.ensures.0)

pub overflow_add-result : goal.overflow_add-result
overflow_add-result c = omega (arith, two_fit (goal.at.overflow_add-result c).After-draw_second-of_second)

pub overflow_add-result-2 : goal.overflow_add-result-2
overflow_add-result-2 c =
    let R = c.requires.0 in
    omega (arith, two_fit (goal.at.overflow_add-result-2 c).After-draw_second-of_second, few_pixels_lem R _ c.draw_edge.ensures.0)

pub returns : goal.returns
unfolding outline_figure
returns c =
    let a = c.args in
    let t = c.sorted_yx-t.result in
    let P = brush_sound c.requires.0 in
    let first = line_figure t.p1 t.p2 in
    let second = line_figure t.p2 t.p3 in
    let third = line_figure t.p1 t.p3 in
    after_earlier a.brush P (λ x y. first x y || second x y) third _ a.buf.now (λ x y. refl)
    (after_earlier a.brush P first second _ a.buf.now (λ x y. refl) c.draw_alone-of_first.ensures c.draw_second-of_second.ensures.0 c.draw_second-of_second.ensures.1)
    c.draw_edge.ensures.0 c.draw_edge.ensures.1
    ∙ ap (λ (t : Sorted). brushed a.brush (sorted_figure t) a.buf.now) c.sorted_yx-t.ensures
