-- What is proved of an outline as a figure (02, T-04): it is three edges, any order of the vertices gives the same, and at zero area it is one line. Assumes nothing.
use mathlib.Core.Path.{◌≡◌, sym, ap, ◌∙◌}
use mathlib.Core.Bool.{Bool, true, ◌||◌, or_assoc, or_comm}
use lib.IntN.{ℤ}
use Rattle.geometry.specs.declared.Point.{Point}
use Rattle.geometry.proofs.Place.{before_trans}
use Rattle.triangle.specs.Triangle.{on_edge}
use Rattle.triangle.proofs.AnyOrder.{Same}
use Rattle.triangle.proofs.Order.{sorted_ordered, sorted_same}
use Rattle.triangle.proofs.Triangle.{p1, p2, p3, flat}
use Rattle.triangle.proofs.Flat.{flat_edges}
use Rattle.tracing.specs.Figure.{line_figure, edge_figure, sorted_figure, outline_figure}
use Rattle.tracing.proofs.Edge.{edge_line, edge_swap}

-- ---- THE OUTLINE IS THREE EDGES, between the vertices as they are given
abbrev three_edges : Point → Point → Point → ℤ → ℤ → Bool
three_edges a b c x y = (edge_figure a b x y || edge_figure b c x y) || edge_figure a c x y

three_swap : (a b c : Point) → three_edges b a c ≡ three_edges a b c
three_swap a b c =
    (λ i x y. (edge_swap a b i x y || edge_figure a c x y) || edge_figure b c x y)
    ∙ (λ i x y. last (edge_figure a b x y) (edge_figure b c x y) (edge_figure a c x y) i)
  where
    last : (p q r : Bool) → ((p || r) || q) ≡ ((p || q) || r)
    last p q r = or_assoc p r q ∙ ap (λ (t : Bool). p || t) (or_comm r q) ∙ sym (or_assoc p q r)

three_turn : (a b c : Point) → three_edges b c a ≡ three_edges a b c
three_turn a b c =
    (λ i x y. (edge_figure b c x y || edge_swap a c i x y) || edge_swap a b i x y)
    ∙ (λ i x y. (or_comm (edge_figure b c x y || edge_figure a c x y) (edge_figure a b x y) ∙ sym (or_assoc (edge_figure a b x y) (edge_figure b c x y) (edge_figure a c x y))) i)

pub outline_edges : (v1 v2 v3 : Point) (x y : ℤ) → outline_figure v1 v2 v3 x y ≡ (edge_figure v1 v2 x y || edge_figure v2 v3 x y) || edge_figure v1 v3 x y
unfolding outline_figure
outline_edges v1 v2 v3 x y =
    let o = sorted_ordered v1 v2 v3 in
    sym (λ i.
    (edge_line _ _ o.upper i x y || edge_line _ _ o.lower i x y) || edge_line (p1 v1 v2 v3) (p3 v1 v2 v3) (before_trans _ _ _ o.upper o.lower) i x y)
    ∙ (λ i. sorted_same three_edges three_swap three_turn v1 v2 v3 i x y)

-- ---- ANY ORDER OF THE VERTICES gives the same outline: AnyOrder.antt of `triangle` has a `Same` for each
module _ {a b c d e f : Point} (same : Same a b c d e f) where
  pub outline_any_order : outline_figure a b c ≡ outline_figure d e f
  unfolding outline_figure
  outline_any_order = ap sorted_figure same.vertices

module _ (v1 v2 v3 : Point) where
  -- the edges that containment asks for
  pub on_edge_lem : (x y : ℤ) → outline_figure v1 v2 v3 x y ≡ on_edge (p1 v1 v2 v3) (p2 v1 v2 v3) (p3 v1 v2 v3) (x, y)
  unfolding outline_figure on_edge
  on_edge_lem x y =
      let first = line_figure (p1 v1 v2 v3) (p2 v1 v2 v3) x y in
      let second = line_figure (p2 v1 v2 v3) (p3 v1 v2 v3) x y in
      let third = line_figure (p1 v1 v2 v3) (p3 v1 v2 v3) x y in
      or_assoc first second third ∙ ap (λ (t : Bool). first || t) (or_comm second third)

  -- ---- ZERO AREA: the outline is the line p1 to p3
  pub outline_flat : flat v1 v2 v3 ≡ true → (x y : ℤ) → outline_figure v1 v2 v3 x y ≡ line_figure (p1 v1 v2 v3) (p3 v1 v2 v3) x y
  outline_flat e x y = on_edge_lem x y ∙ flat_edges v1 v2 v3 (x, y) e
