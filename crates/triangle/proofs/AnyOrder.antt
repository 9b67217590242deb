-- Any order of the vertices gives the same tests, sorted vertices, containment, spans and rows: two of the orders, from which the others are made.
-- Assumes nothing.
use mathlib.Core.Path.{◌≡◌, ap, ◌∙◌}
use mathlib.Core.Bool.{Bool, cond, not, ◌||◌}
use mathlib.Core.List.{[], ◌∷◌}
use Prim.Native.Nat.{◌+◌}
use lib.IntN.{ℤ, nat_abs, ◌-ℤ◌}
use Rattle.whole.proofs.Tests.{and_swap, and_turn}
use Rattle.geometry.specs.declared.Point.{Point}
use Rattle.geometry.specs.Bound.{in_bounds}
use Rattle.line.specs.Line.{has_point}
use Rattle.triangle.specs.Answer.{vertex_tests}
use Rattle.triangle.specs.Order.{sorted}
use Rattle.triangle.specs.Triangle.{is_flat, is_inside, on_edge, contained}
use Rattle.triangle.specs.Row.{hull, edge_columns, row_span, first_row, row_count}
use Rattle.triangle.proofs.Order.{sorted_swap, sorted_turn}
use Rattle.triangle.proofs.Sides.{flat_swap, flat_turn, is_inside_swap, is_inside_turn}

-- ANY ORDER of the vertices a, b, c gives the same as d, e, f
pub record Same (a b c d e f : Point) : Type 0 where
  pub tests : vertex_tests a b c ≡ vertex_tests d e f
  pub vertices : sorted a b c ≡ sorted d e f
  pub contains : (p : Point) → contained a b c p ≡ contained d e f p
  pub span : (y : ℤ) → row_span a b c y ≡ row_span d e f y
  pub first : first_row a b c ≡ first_row d e f
  pub count : row_count a b c ≡ row_count d e f

-- from the same tests, sorted vertices and sides
same_by : (a b c d e f : Point) → vertex_tests a b c ≡ vertex_tests d e f → sorted a b c ≡ sorted d e f → is_flat a b c ≡ is_flat d e f
    → ((p : Point) → is_inside a b c p ≡ is_inside d e f p) → Same a b c d e f
unfolding contained row_span first_row row_count
same_by a b c d e f r s z t =
    record {
      tests = r;
      vertices = s;
      contains = λ p i. cond (z i) (has_point (s i).p1 (s i).p3 p) (t p i || on_edge (s i).p1 (s i).p2 (s i).p3 p);
      span = λ y i. hull (edge_columns (z i) (s i) y);
      first = λ i. (s i).p1.1;
      count = λ i. nat_abs ((s i).p3.1 -ℤ (s i).p1.1) + 1;
    }

same_then : {a b c d e f g h k : Point} → Same a b c d e f → Same d e f g h k → Same a b c g h k
same_then s t =
    record {
      tests = s.tests ∙ t.tests;
      vertices = s.vertices ∙ t.vertices;
      contains = λ p. s.contains p ∙ t.contains p;
      span = λ y. s.span y ∙ t.span y;
      first = s.first ∙ t.first;
      count = s.count ∙ t.count;
    }

module _ (a b c : Point) where
  pub order_bac : Same b a c a b c
  unfolding vertex_tests
  order_bac =
      same_by b a c a b c (ap (λ (t : Bool). (5, not t) ∷ []) (and_swap (in_bounds a) (in_bounds b) (in_bounds c))) (sorted_swap a b c) (flat_swap a b c) (is_inside_swap a b c)

  pub order_bca : Same b c a a b c
  unfolding vertex_tests
  order_bca =
      same_by b c a a b c (ap (λ (t : Bool). (5, not t) ∷ []) (and_turn (in_bounds a) (in_bounds b) (in_bounds c))) (sorted_turn a b c) (flat_turn a b c) (is_inside_turn a b c)

module _ (a b c : Point) where
  pub order_cab : Same c a b a b c
  order_cab = same_then (order_bca b c a) (order_bca a b c)

  pub order_cba : Same c b a a b c
  order_cba = same_then (order_bac b c a) (order_bca a b c)

  pub order_acb : Same a c b a b c
  order_acb = same_then (order_bac c a b) order_cab
