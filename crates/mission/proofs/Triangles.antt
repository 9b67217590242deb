-- What a triangle, its outline and a circle contain is what 01 and 02 say, and so are the spans of their rows. Assumes nothing.
use mathlib.Core.Path.{◌≡◌, refl, sym, ap, subst, ◌∙◌}
use mathlib.Core.Bool.{Bool, true, false, cond, ◌||◌}
use mathlib.Core.List.{[], ◌∷◌}
use mathlib.Core.Logic.{◌⊎◌, inl, inr, ⊎_elim}
use Prim.Native.Nat.{ℕ}
use lib.IntN.{ℤ, pos, ◌+ℤ◌, ◌-ℤ◌}
use lib.Signed.{◌≤ℤ◌, ◌<ℤ◌}
use Rattle.whole.proofs.Decides.{Decides, decides_map, decides_and, decides_or, decides_eq, decides_le, decides_lt, decides_between, decides_yes}
use Rattle.whole.proofs.Ring.{v, ◌⊞◌, ◌⊟◌, ◌⊠◌, ring}
use Rattle.geometry.specs.declared.Point.{Point}
use Rattle.geometry.specs.Place.{before, area_doubled}
use Rattle.geometry.proofs.Place.{before_trans, before_antisym, before_decides, before_yes}
use Rattle.line.specs.Line.{has_point}
use Rattle.triangle.specs.declared.Sorted.{Sorted}
use Rattle.triangle.specs.EdgePoint as edge
use Rattle.triangle.specs.Order.{three, placed, sorted}
use Rattle.triangle.specs.Row.{row_span}
use Rattle.triangle.specs.Triangle.{none_below, none_above, on_edge, is_flat, is_inside, contained}
use Rattle.triangle.proofs.AnyOrder.{order_bac, order_bca, order_cab, order_cba, order_acb}
use Rattle.triangle.proofs.Order.{sorted_ordered}
use Rattle.triangle.proofs.Spans.{Spans}
use Rattle.triangle.proofs.Triangle.{row_spans}
use Rattle.circle.specs.Circle as circle
use Rattle.circle.proofs.Spans.{span_agrees, row_some, start_is, end_is, no_start, no_end}
use Rattle.tracing.specs.Figure.{outline_figure}
use Rattle.mission.specs.Figures.{OnLine, InOrder, Arranged, as123, as132, as213, as231, as312, as321, Sorting, area, AllAtLeast, AllAtMost, OnEdge, InTriangle, EdgePoint, OnOutline, RowSpan, InCircle, CircleSpan, some, none}
use Rattle.mission.proofs.Lines.{on_line_lem, line_has, line_decides}

-- the two formulas for twice the area are one
pub area_is : (a b c : Point) → area_doubled a b c ≡ area a b c
unfolding area_doubled
area_is a b c =
    ring (((v 2 ⊟ v 0) ⊠ (v 5 ⊟ v 1)) ⊟ ((v 4 ⊟ v 0) ⊠ (v 3 ⊟ v 1))) ((v 0 ⊠ (v 3 ⊟ v 5)) ⊞ (v 2 ⊠ (v 5 ⊟ v 1)) ⊞ (v 4 ⊠ (v 1 ⊟ v 3)))
    (a.0 ∷ a.1 ∷ b.0 ∷ b.1 ∷ c.0 ∷ c.1 ∷ []) refl

-- ---- p1, p2, p3: there is one such arrangement, and the library has it
pub arranged_sorted : {v1 v2 v3 p1 p2 p3 : Point} → Arranged v1 v2 v3 p1 p2 p3 → sorted p1 p2 p3 ≡ sorted v1 v2 v3
arranged_sorted as123 = refl
arranged_sorted (as132 {v1} {v2} {v3}) = (order_acb v1 v2 v3).vertices
arranged_sorted (as213 {v1} {v2} {v3}) = (order_bac v1 v2 v3).vertices
arranged_sorted (as231 {v1} {v2} {v3}) = (order_bca v1 v2 v3).vertices
arranged_sorted (as312 {v1} {v2} {v3}) = (order_cab v1 v2 v3).vertices
arranged_sorted (as321 {v1} {v2} {v3}) = (order_cba v1 v2 v3).vertices

in_order_sorted : (p1 p2 p3 : Point) → InOrder p1 p2 → InOrder p2 p3 → sorted p1 p2 p3 ≡ three p1 p2 p3
unfolding sorted
in_order_sorted p1 p2 p3 u l =
    ap (λ (t : Bool). cond t (placed p1 p2 p3) (placed p2 p1 p3)) (decides_yes (before_decides p1 p2) u)
    ∙ by (before p3 p1) (before p3 p2) (before_yes p3 p1) (before_yes p3 p2)
  where
    by : (s t : Bool) → (s ≡ true → InOrder p3 p1) → (t ≡ true → InOrder p3 p2) → cond s (three p3 p1 p2) (cond t (three p1 p3 p2) (three p1 p2 p3)) ≡ three p1 p2 p3
    by true t f g =
        let first : p3 ≡ p1 = before_antisym p3 p1 (f refl) (before_trans p1 p2 p3 u l) in
        let last : p2 ≡ p3 = before_antisym p2 p3 l (before_trans p3 p1 p2 (f refl) u) in
        λ i. three (first i) ((sym first ∙ sym last) i) (last i)
    by false true f g = let same : p3 ≡ p2 = before_antisym p3 p2 (g refl) l in λ i. three p1 (same i) (sym same i)
    by false false f g = refl

abbrev ArrangedAs : Point → Point → Point → Sorted → Type 0
ArrangedAs v1 v2 v3 t = Arranged v1 v2 v3 t.p1 t.p2 t.p3

placed_arranged : (v1 v2 v3 : Point) → ArrangedAs v1 v2 v3 (placed v1 v2 v3)
placed_arranged v1 v2 v3 = by (before v3 v1) (before v3 v2)
  where
    by : (s t : Bool) → ArrangedAs v1 v2 v3 (cond s (three v3 v1 v2) (cond t (three v1 v3 v2) (three v1 v2 v3)))
    by true t = as312
    by false true = as132
    by false false = as123

swapped : {v1 v2 v3 p1 p2 p3 : Point} → Arranged v2 v1 v3 p1 p2 p3 → Arranged v1 v2 v3 p1 p2 p3
swapped as123 = as213
swapped as132 = as231
swapped as213 = as123
swapped as231 = as132
swapped as312 = as321
swapped as321 = as312

module _ (v1 v2 v3 : Point) where
  pub sorted_arranged : ArrangedAs v1 v2 v3 (sorted v1 v2 v3)
  unfolding sorted
  sorted_arranged = by (before v1 v2)
    where
      by : (s : Bool) → ArrangedAs v1 v2 v3 (cond s (placed v1 v2 v3) (placed v2 v1 v3))
      by true = placed_arranged v1 v2 v3
      by false = swapped (placed_arranged v2 v1 v3)

  abbrev pub sorting : Sorting v1 v2 v3
  sorting =
      record {
        p1 = (sorted v1 v2 v3).p1;
        p2 = (sorted v1 v2 v3).p2;
        p3 = (sorted v1 v2 v3).p3;
        arranged = sorted_arranged;
        upper = (sorted_ordered v1 v2 v3).upper;
        lower = (sorted_ordered v1 v2 v3).lower;
      }

  pub one_sorting : (t : Sorting v1 v2 v3) → three t.p1 t.p2 t.p3 ≡ sorted v1 v2 v3
  one_sorting t = sym (in_order_sorted t.p1 t.p2 t.p3 t.upper t.lower) ∙ arranged_sorted t.arranged

  -- ---- the parts
  module _ (p : Point) where
    -- the edges of any sorting are the library's
    abbrev Edges : Sorted → Type 0
    Edges t = OnLine t.p1 t.p2 p ⊎ (OnLine t.p1 t.p3 p ⊎ OnLine t.p2 t.p3 p)

    abbrev Longest : Sorted → Type 0
    Longest t = OnLine t.p1 t.p3 p

    own_edges : (t : Sorting v1 v2 v3) → OnEdge v1 v2 v3 p t → Edges (sorted v1 v2 v3)
    own_edges t h = subst Edges (one_sorting t) h

    own_longest : (t : Sorting v1 v2 v3) → OnLine t.p1 t.p3 p → Longest (sorted v1 v2 v3)
    own_longest t h = subst Longest (one_sorting t) h

    edges_decide : Decides (on_edge (sorted v1 v2 v3).p1 (sorted v1 v2 v3).p2 (sorted v1 v2 v3).p3 p) (Edges (sorted v1 v2 v3))
    unfolding on_edge
    edges_decide = decides_or _ _ (line_decides _ _ p) (decides_or _ _ (line_decides _ _ p) (line_decides _ _ p))

  flat_decides : Decides (is_flat v1 v2 v3) (area v1 v2 v3 ≡ pos 0)
  unfolding is_flat
  flat_decides = decides_map (decides_eq (area_doubled v1 v2 v3) (pos 0)) (λ e. sym (area_is v1 v2 v3) ∙ e) (λ e. area_is v1 v2 v3 ∙ e)

least_decides : (x y z : ℤ) → Decides (none_below x y z) (AllAtLeast x y z)
unfolding none_below
least_decides x y z =
    decides_map (decides_and _ _ (decides_le (pos 0) x) (decides_and _ _ (decides_le (pos 0) y) (decides_le (pos 0) z))) (λ h. (h.0, h.1.0, h.1.1)) (λ h. (h.0, (h.1, h.2)))

most_decides : (x y z : ℤ) → Decides (none_above x y z) (AllAtMost x y z)
unfolding none_above
most_decides x y z =
    decides_map (decides_and _ _ (decides_le x (pos 0)) (decides_and _ _ (decides_le y (pos 0)) (decides_le z (pos 0)))) (λ h. (h.0, h.1.0, h.1.1)) (λ h. (h.0, (h.1, h.2)))

abbrev Inside : Point → Point → Point → Point → Type 0
Inside v1 v2 v3 p = AllAtLeast (area p v1 v2) (area p v2 v3) (area p v3 v1) ⊎ AllAtMost (area p v1 v2) (area p v2 v3) (area p v3 v1)

inside_decides : (v1 v2 v3 p : Point) → Decides (is_inside v1 v2 v3 p) (Inside v1 v2 v3 p)
unfolding is_inside
inside_decides v1 v2 v3 p =
    subst (λ (x : ℤ × ℤ × ℤ). Decides (is_inside v1 v2 v3 p) (AllAtLeast x.0 x.1 x.2 ⊎ AllAtMost x.0 x.1 x.2))
    (λ i. (area_is p v1 v2 i, area_is p v2 v3 i, area_is p v3 v1 i))
    (decides_or _ _ (least_decides (area_doubled p v1 v2) (area_doubled p v2 v3) (area_doubled p v3 v1)) (most_decides (area_doubled p v1 v2) (area_doubled p v2 v3) (area_doubled p v3 v1)))

module _ (v1 v2 v3 : Point) where
  -- ---- A FILLED TRIANGLE contains what 01's arithmetic says
  pub triangle_decides : (p : Point) → Decides (contained v1 v2 v3 p) (InTriangle v1 v2 v3 p)
  unfolding contained
  triangle_decides p = by (is_flat v1 v2 v3) (flat_decides v1 v2 v3)
    where
      by : (f : Bool) → Decides f (area v1 v2 v3 ≡ pos 0)
          → Decides (cond f (has_point (sorted v1 v2 v3).p1 (sorted v1 v2 v3).p3 p) (is_inside v1 v2 v3 p || on_edge (sorted v1 v2 v3).p1 (sorted v1 v2 v3).p2 (sorted v1 v2 v3).p3 p))
          (InTriangle v1 v2 v3 p)
      by true d =
          decides_map (line_decides _ _ p) (λ q. record { sorting = sorting v1 v2 v3; solid = λ n. absurd (n (d.yes refl)); flat = λ z. q })
          (λ h. own_longest v1 v2 v3 p h.sorting (h.flat (d.yes refl)))
      by false d =
          decides_map (decides_or _ _ (inside_decides v1 v2 v3 p) (edges_decide v1 v2 v3 p))
          (λ q. record { sorting = sorting v1 v2 v3; solid = λ n. ⊎_elim (⊎_elim inl (λ q. inr (inl q))) (λ q. inr (inr q)) q; flat = λ z. absurd (d.no refl z) })
          (λ h. ⊎_elim (λ q. inl (inl q)) (⊎_elim (λ q. inl (inr q)) (λ q. inr (own_edges v1 v2 v3 p h.sorting q))) (h.solid (d.no refl)))

  -- ---- AN OUTLINE has what T-04 says
  pub outline_decides : (p : Point) → Decides (outline_figure v1 v2 v3 p.0 p.1) (OnOutline v1 v2 v3 p)
  unfolding outline_figure
  outline_decides p =
      decides_map (decides_or _ _ (decides_or _ _ (line_decides _ _ p) (line_decides _ _ p)) (line_decides _ _ p))
      (λ q. record { sorting = sorting v1 v2 v3; edge = ⊎_elim (⊎_elim inl (λ r. inr (inr r))) (λ r. inr (inl r)) q })
      (λ h. ⊎_elim (λ r. inl (inl r)) (⊎_elim inr (λ r. inl (inr r))) (own_edges v1 v2 v3 p h.sorting h.edge))

  -- ---- A ROW'S SPAN
  to_edge : (p : Point) → edge.EdgePoint (is_flat v1 v2 v3) (sorted v1 v2 v3).p1 (sorted v1 v2 v3).p2 (sorted v1 v2 v3).p3 p → EdgePoint v1 v2 v3 p
  to_edge p = by (is_flat v1 v2 v3) (flat_decides v1 v2 v3)
    where
      solid : Decides false (area v1 v2 v3 ≡ pos 0) → Edges v1 v2 v3 p (sorted v1 v2 v3) → EdgePoint v1 v2 v3 p
      solid d q = record { sorting = sorting v1 v2 v3; solid = λ n. q; flat = λ z. absurd (d.no refl z) }

      by : (b : Bool) → Decides b (area v1 v2 v3 ≡ pos 0) → edge.EdgePoint b (sorted v1 v2 v3).p1 (sorted v1 v2 v3).p2 (sorted v1 v2 v3).p3 p → EdgePoint v1 v2 v3 p
      by true d q = record { sorting = sorting v1 v2 v3; solid = λ n. absurd (n (d.yes refl)); flat = λ z. on_line_lem q }
      by false d (inl q) = solid d (inl (on_line_lem q))
      by false d (inr (inl q)) = solid d (inr (inl (on_line_lem q)))
      by false d (inr (inr q)) = solid d (inr (inr (on_line_lem q)))

  of_edge : (p : Point) → EdgePoint v1 v2 v3 p → edge.EdgePoint (is_flat v1 v2 v3) (sorted v1 v2 v3).p1 (sorted v1 v2 v3).p2 (sorted v1 v2 v3).p3 p
  of_edge p E = by (is_flat v1 v2 v3) (flat_decides v1 v2 v3)
    where
      by : (b : Bool) → Decides b (area v1 v2 v3 ≡ pos 0) → edge.EdgePoint b (sorted v1 v2 v3).p1 (sorted v1 v2 v3).p2 (sorted v1 v2 v3).p3 p
      by true d = line_has (own_longest v1 v2 v3 p E.sorting (E.flat (d.yes refl)))
      by false d = ⊎_elim (λ q. inl (line_has q)) (⊎_elim (λ q. inr (inl (line_has q))) (λ q. inr (inr (line_has q)))) (own_edges v1 v2 v3 p E.sorting (E.solid (d.no refl)))

  pub row_is : (y : ℤ) → RowSpan v1 v2 v3 y (row_span v1 v2 v3 y).0 (row_span v1 v2 v3 y).1
  row_is y = by (row_spans v1 v2 v3 y)
    where
      by : Spans (λ x. edge.EdgePoint (is_flat v1 v2 v3) (sorted v1 v2 v3).p1 (sorted v1 v2 v3).p2 (sorted v1 v2 v3).p3 (x, y)) (row_span v1 v2 v3 y)
          → RowSpan v1 v2 v3 y (row_span v1 v2 v3 y).0 (row_span v1 v2 v3 y).1
      by (inl b) =
          subst (λ (e : ℤ). RowSpan v1 v2 v3 y (row_span v1 v2 v3 y).0 e) (sym b.past)
          (some (row_span v1 v2 v3 y).0 b.last (to_edge _ b.at_first) (to_edge _ b.at_last) (λ x q. (b.least x (of_edge _ q), b.largest x (of_edge _ q))))
      by (inr p) =
          subst (λ (s : ℤ × ℤ). RowSpan v1 v2 v3 y s.0 s.1) (λ i. ((sym p.0 i).0, (sym p.0 i).1)) (none (λ x q. p.1 x (of_edge _ q)))

-- ---- A CIRCLE contains what 01's arithmetic says
pub circle_decides : (c : Point) (d : ℕ) (p : Point) → Decides (circle.contained c d p) (InCircle c d p)
circle_decides c d p = decides_lt _ _

pub circle_row_lem : (c : Point) (d : ℕ) (y : ℤ) → CircleSpan c d y (circle.span_start c d y) (circle.span_end c d y)
circle_row_lem c d y = by (circle.box_row c d y) refl (decides_between c.1 (c.1 +ℤ pos d) y)
  where
    by : (b : Bool) → circle.box_row c d y ≡ b → Decides (circle.box_row c d y) ((c.1 ≤ℤ y) × (y <ℤ (c.1 +ℤ pos d))) → CircleSpan c d y (circle.span_start c d y) (circle.span_end c d y)
    by true e D =
        some (D.yes e).0 (D.yes e).1 ((circle_decides c d (circle.span_start c d y, y)).yes (row_some c d y e))
        ((λ i. start_is c d y e i -ℤ c.0) ∙ ring (v 0 ⊞ v 1 ⊟ v 0) (v 0 ⊞ v 2 ⊟ (v 0 ⊞ v 2 ⊟ v 1)) (c.0 ∷ pos (circle.lead_of c d y) ∷ pos d ∷ []) refl
        ∙ (λ i. (c.0 +ℤ pos d) -ℤ sym (end_is c d y e) i))
        (λ x. (
          λ q. (circle_decides c d (x, y)).yes (span_agrees c d x y ∙ decides_yes (decides_between (circle.span_start c d y) (circle.span_end c d y) x) q),
          λ q. (decides_between (circle.span_start c d y) (circle.span_end c d y) x).yes (sym (span_agrees c d x y) ∙ decides_yes (circle_decides c d (x, y)) q),
        ))
    by false e D =
        subst (λ (p : ℤ × ℤ). CircleSpan c d y p.0 p.1) (λ i. (sym (no_start c d y e) i, sym (no_end c d y e) i)) (none (λ l u. D.no e (l, u)))
