-- Moving a triangle and a pixel together changes nothing: containment is the same, and the span of a row moves along. Assumes nothing.
use mathlib.Core.Path.{◌≡◌, refl, sym, ap, subst, ◌∙◌}
use mathlib.Core.Bool.{Bool, true, false, cond, ◌||◌}
use mathlib.Core.Logic.{inl, inr}
use native.Mathlib.Omega.{arith}
use lib.IntN.{ℤ, pos, ◌+ℤ◌, ◌-ℤ◌}
use lib.Signed.{◌≤ℤ◌}
use Rattle.whole.specs.Equal.{eq_z}
use Rattle.whole.proofs.Decides.{decides_map, decides_one, decides_yes}
use Rattle.whole.proofs.Difference.{as_mk, mks, mk_eq, restored}
use Rattle.whole.proofs.Order.{le_move, move_le, lt_move, move_lt, move_eq}
use Rattle.geometry.specs.declared.Point.{Point}
use Rattle.geometry.specs.Place.{before, moved}
use Rattle.line.specs.Line.{HasPoint, has_point}
use Rattle.line.proofs.Points.{has_moved, has_same, has_decides}
use Rattle.triangle.specs.declared.Sorted.{Sorted}
use Rattle.geometry.specs.declared.Columns.{Columns}
use Rattle.geometry.proofs.Place.{Before, before_decides}
use Rattle.triangle.specs.Order.{three, placed, sorted}
use Rattle.triangle.specs.Triangle.{none_below, none_above, is_flat, is_inside, on_edge, contained}
use Rattle.triangle.specs.EdgePoint.{EdgePoint}
use Rattle.triangle.specs.Row.{row_span}
use Rattle.triangle.proofs.Area.{area_moved}
use Rattle.triangle.proofs.Spans.{Bounds, Spans, span_one}
use Rattle.triangle.proofs.Triangle.{row_spans, row_bounds}

module _ (d : Point) where
  -- ---- a line's points
  unmoved : (s e p : Point) → HasPoint (moved d s) (moved d e) (moved d p) → HasPoint s e p
  unmoved s e p h = (has_decides s e p).yes (sym (has_same s e d p) ∙ decides_yes (has_decides _ _ _) h)

  -- ---- the sorted vertices
  before_same : (a b : Point) → before (moved d a) (moved d b) ≡ before a b
  before_same a b = decides_one _ _ (before_decides _ _) (decides_map (before_decides a b) to from)
    where
      to : Before a b → Before (moved d a) (moved d b)
      to (inl l) = inl (lt_move a.1 b.1 d.1 l)
      to (inr h) = inr (ap (λ (y : ℤ). y +ℤ d.1) h.0, le_move a.0 b.0 d.0 h.1)

      from : Before (moved d a) (moved d b) → Before a b
      from (inl l) = inl (move_lt a.1 b.1 d.1 l)
      from (inr h) = inr (move_eq a.1 b.1 d.1 h.0, move_le a.0 b.0 d.0 h.1)

  all_moved : Sorted → Sorted
  all_moved t = three (moved d t.p1) (moved d t.p2) (moved d t.p3)

  placed_moved : (a b c : Point) → placed (moved d a) (moved d b) (moved d c) ≡ all_moved (placed a b c)
  unfolding all_moved
  placed_moved a b c =
      (λ i.
      cond (before_same c a i) (three (moved d c) (moved d a) (moved d b))
      (cond (before_same c b i) (three (moved d a) (moved d c) (moved d b)) (three (moved d a) (moved d b) (moved d c))))
      ∙ by (before c a) (before c b)
    where
      by : (s t : Bool) → cond s (three (moved d c) (moved d a) (moved d b)) (cond t (three (moved d a) (moved d c) (moved d b)) (three (moved d a) (moved d b) (moved d c)))
          ≡ all_moved (cond s (three c a b) (cond t (three a c b) (three a b c)))
      by true t = refl
      by false true = refl
      by false false = refl

  sorted_moved : (a b c : Point) → sorted (moved d a) (moved d b) (moved d c) ≡ all_moved (sorted a b c)
  unfolding sorted all_moved
  sorted_moved a b c = (λ i. cond (before_same a b i) (placed_moved a b c i) (placed_moved b a c i)) ∙ by (before a b)
    where
      by : (s : Bool) → cond s (all_moved (placed a b c)) (all_moved (placed b a c)) ≡ all_moved (cond s (placed a b c) (placed b a c))
      by true = refl
      by false = refl

  -- ---- the bounds of a row, by its columns
  bounds_moved : (E F : ℤ → Type 0) (s : Columns) → ((x : ℤ) → E x → F (x +ℤ d.0)) → ((x : ℤ) → F (x +ℤ d.0) → E x) → Bounds E s → Bounds F (s.0 +ℤ d.0, s.1 +ℤ d.0)
  bounds_moved E F s to from b =
      record {
        last = b.last +ℤ d.0;
        past = ap (λ (z : ℤ). z +ℤ d.0) b.past ∙ later b.last d.0;
        at_first = to s.0 b.at_first;
        at_last = to b.last b.at_last;
        least =
            λ x q.
            subst (λ (z : ℤ). (s.0 +ℤ d.0) ≤ℤ z) (sym (restored x d.0))
            (le_move s.0 (x -ℤ d.0) d.0 (b.least (x -ℤ d.0) (from (x -ℤ d.0) (subst F (restored x d.0) q))));
        largest =
            λ x q.
            subst (λ (z : ℤ). z ≤ℤ (b.last +ℤ d.0)) (sym (restored x d.0))
            (le_move (x -ℤ d.0) b.last d.0 (b.largest (x -ℤ d.0) (from (x -ℤ d.0) (subst F (restored x d.0) q))));
      }
    where
      later : (y v : ℤ) → (y +ℤ pos 1) +ℤ v ≡ (y +ℤ v) +ℤ pos 1
      later y v = rw (as_mk y, as_mk v) (simp mks (mk_eq _ _ _ _ (omega arith)))

  -- ---- CONTAINMENT is the same
  module _ (v1 v2 v3 : Point) where
    abbrev t : Sorted
    t = sorted v1 v2 v3

    flat_same : is_flat (moved d v1) (moved d v2) (moved d v3) ≡ is_flat v1 v2 v3
    unfolding is_flat
    flat_same = ap (λ (z : ℤ). eq_z z (pos 0)) (area_moved d v1 v2 v3)

    inside_same : (p : Point) → is_inside (moved d v1) (moved d v2) (moved d v3) (moved d p) ≡ is_inside v1 v2 v3 p
    unfolding is_inside
    inside_same p =
        let A = area_moved d p v1 v2 in
        let B = area_moved d p v2 v3 in
        let C = area_moved d p v3 v1 in
        λ i. none_below (A i) (B i) (C i) || none_above (A i) (B i) (C i)

    pub contained_moved : (p : Point) → contained (moved d v1) (moved d v2) (moved d v3) (moved d p) ≡ contained v1 v2 v3 p
    unfolding contained on_edge all_moved
    contained_moved p =
        let s = sorted_moved v1 v2 v3 in
        (λ i. cond (flat_same i) (has_point (s i).p1 (s i).p3 (moved d p)) (inside_same p i || on_edge (s i).p1 (s i).p2 (s i).p3 (moved d p)))
        ∙ (λ i.
        cond (is_flat v1 v2 v3) (has_same t.p1 t.p3 d p i)
        (is_inside v1 v2 v3 p || (has_same t.p1 t.p2 d p i || (has_same t.p1 t.p3 d p i || has_same t.p2 t.p3 d p i))))

    -- ---- THE SPAN of a row that the triangle has moves along
    edge_moved : (b : Bool) (p : Point) → EdgePoint b t.p1 t.p2 t.p3 p → EdgePoint b (moved d t.p1) (moved d t.p2) (moved d t.p3) (moved d p)
    edge_moved true p q = has_moved t.p1 t.p3 d p q
    edge_moved false p (inl q) = inl (has_moved t.p1 t.p2 d p q)
    edge_moved false p (inr (inl q)) = inr (inl (has_moved t.p1 t.p3 d p q))
    edge_moved false p (inr (inr q)) = inr (inr (has_moved t.p2 t.p3 d p q))

    edge_unmoved : (b : Bool) (p : Point) → EdgePoint b (moved d t.p1) (moved d t.p2) (moved d t.p3) (moved d p) → EdgePoint b t.p1 t.p2 t.p3 p
    edge_unmoved true p q = unmoved t.p1 t.p3 p q
    edge_unmoved false p (inl q) = inl (unmoved t.p1 t.p2 p q)
    edge_unmoved false p (inr (inl q)) = inr (inl (unmoved t.p1 t.p3 p q))
    edge_unmoved false p (inr (inr q)) = inr (inr (unmoved t.p2 t.p3 p q))

    pub span_moved : (y : ℤ) → t.p1.1 ≤ℤ y → y ≤ℤ t.p3.1
        → row_span (moved d v1) (moved d v2) (moved d v3) (y +ℤ d.1) ≡ ((row_span v1 v2 v3 y).0 +ℤ d.0, (row_span v1 v2 v3 y).1 +ℤ d.0)
    unfolding all_moved
    span_moved y a b =
        let s = sorted_moved v1 v2 v3 in
        span_one (λ x. EdgePoint (is_flat v1 v2 v3) (moved d t.p1) (moved d t.p2) (moved d t.p3) (x, y +ℤ d.1)) _ _
        (subst (λ (E : ℤ → Type 0). Spans E (row_span (moved d v1) (moved d v2) (moved d v3) (y +ℤ d.1)))
        (λ i x. EdgePoint (flat_same i) (s i).p1 (s i).p2 (s i).p3 (x, y +ℤ d.1)) (row_spans (moved d v1) (moved d v2) (moved d v3) (y +ℤ d.1)))
        (inl (bounds_moved (λ x. EdgePoint (is_flat v1 v2 v3) t.p1 t.p2 t.p3 (x, y)) _ (row_span v1 v2 v3 y) (λ x. edge_moved (is_flat v1 v2 v3) (x, y))
        (λ x. edge_unmoved (is_flat v1 v2 v3) (x, y)) (row_bounds v1 v2 v3 y a b)))
