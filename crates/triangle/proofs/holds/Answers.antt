-- `triangle::holds` asks the box, which has all that is contained, then the three areas, whose sum says whether there is area, then the edges.
-- Assumes nothing.
use mathlib.Core.Path.{◌≡◌, refl, sym, ap, ◌∙◌}
use mathlib.Core.Bool.{Bool, true, false, not, ◌&&◌, ◌||◌, and-true as and_yes}
use lib.Dec.{lit<}
use lib.IntN.{ℤ, pos, ◌+ℤ◌}
use mir.Syntax.{w64}
use mir.Val.{to_z, of_z}
use mir.Facts.{sfits_lit}
use borrow.Author.Tests.{not-true}
use Rattle.whole.specs.Equal.{eq_z}
use Rattle.whole.proofs.Decides.{decides_yes, decides_no}
use Rattle.whole.proofs.Machine.{Has, plus, fits, back, size_of, eq_bits}
use Rattle.whole.proofs.Tests.{and_true}
use Rattle.geometry.specs.declared.Point.{Point}
use Rattle.geometry.specs.Place.{area_doubled}
use Rattle.geometry.specs.Bound.{Bounded}
use Rattle.line.specs.Line.{has_point}
use Rattle.triangle.specs.declared.Sorted.{Sorted}
use Rattle.triangle.specs.Triangle.{none_below, none_above, is_flat, is_inside, on_edge}
use Rattle.triangle.proofs.Area.{area_sum}
use Rattle.triangle.proofs.Order.{All}
use Rattle.triangle.proofs.Sides.{flat_decides}
use Rattle.triangle.proofs.Refusals.{sorted_bounded}
use Rattle.triangle.proofs.Triangle.{contained_by}
use Rattle.triangle.proofs.Box.{outside_not, not_outside, area_size}
use Rattle.triangle.proofs.holds.Goals as goal
use Rattle.triangle.proofs.holds.Goals.{After-area_doubled-c, After-same_side, After-sorted_yx-t, Else-outside}

pub returns-then-outside : goal.returns-then-outside
returns-then-outside c =
    let g = c.args in
    sym (outside_not g.v1 g.v2 g.v3 g.p (sym c.outside.ensures ∙ c.if-outside.true))

-- p is not outside the box, so it is in bounds
in_box_lem : (c : Else-outside) → Bounded c.args.p
in_box_lem c =
    let g = c.args in
    let h = c.requires in
    not_outside g.v1 g.v2 g.v3 g.p (sym c.outside.ensures ∙ c.if-outside.false) h.0 h.1 h.2

pub area_doubled-a-requires : goal.area_doubled-a-requires
area_doubled-a-requires c = let h = c.requires in (in_box_lem (goal.at.area_doubled-a-requires c).Else-outside, h.0, h.1)

pub area_doubled-b-requires : goal.area_doubled-b-requires
area_doubled-b-requires c = let h = c.requires in (in_box_lem (goal.at.area_doubled-b-requires c).Else-outside, h.1, h.2)

pub area_doubled-c-requires : goal.area_doubled-c-requires
area_doubled-c-requires c = let h = c.requires in (in_box_lem (goal.at.area_doubled-c-requires c).Else-outside, h.2, h.0)

-- ---- the three areas
module _ (c : After-area_doubled-c) where
  abbrev v1 : Point
  v1 = c.args.v1

  abbrev v2 : Point
  v2 = c.args.v2

  abbrev v3 : Point
  v3 = c.args.v3

  abbrev p : Point
  p = c.args.p

  A : Has w64 c.area_doubled-a.result (area_doubled p v1 v2) 549755813888
  A =
      record {
        is = c.area_doubled-a.ensures;
        size = area_size p v1 v2 (in_box_lem (goal.at.After-area_doubled-c c).Else-outside) c.requires.0 c.requires.1;
        room = lit< tt;
      }

  B : Has w64 c.area_doubled-b.result (area_doubled p v2 v3) 549755813888
  B =
      record {
        is = c.area_doubled-b.ensures;
        size = area_size p v2 v3 (in_box_lem (goal.at.After-area_doubled-c c).Else-outside) c.requires.1 c.requires.2;
        room = lit< tt;
      }

  C : Has w64 c.area_doubled-c.result (area_doubled p v3 v1) 549755813888
  C =
      record {
        is = c.area_doubled-c.ensures;
        size = area_size p v3 v1 (in_box_lem (goal.at.After-area_doubled-c c).Else-outside) c.requires.2 c.requires.0;
        room = lit< tt;
      }

  AB : Has w64 (to_z w64 (of_z w64 c.area_doubled-a.result) +ℤ to_z w64 (of_z w64 c.area_doubled-b.result)) (area_doubled p v1 v2 +ℤ area_doubled p v2 v3)
      1099511627776
  AB = plus (back A) (back B) tt

  ABC : Has w64 (to_z w64 (of_z w64 (to_z w64 (of_z w64 c.area_doubled-a.result) +ℤ to_z w64 (of_z w64 c.area_doubled-b.result))) +ℤ to_z w64
      (of_z w64 c.area_doubled-c.result)) ((area_doubled p v1 v2 +ℤ area_doubled p v2 v3) +ℤ area_doubled p v3 v1) 1649267441664
  ABC = plus (back AB) (back C) tt

  -- the sum is the whole area
  abbrev sum : ℤ
  sum =
      to_z w64 (of_z w64 (to_z w64 (of_z w64 c.area_doubled-a.result) +ℤ to_z w64 (of_z w64 c.area_doubled-b.result))) +ℤ to_z w64
      (of_z w64 c.area_doubled-c.result)

  whole : sum ≡ area_doubled v1 v2 v3
  whole = ABC.is ∙ area_sum v1 v2 v3 p

-- what the test of the sides says: with area, on one side of all three
sides : (c : After-same_side) → (is_inside (v1 (goal.at.After-same_side c).After-area_doubled-c) (v2 (goal.at.After-same_side c).After-area_doubled-c) (v3 (goal.at.After-same_side c).After-area_doubled-c) (p (goal.at.After-same_side c).After-area_doubled-c) && not (is_flat (v1 (goal.at.After-same_side c).After-area_doubled-c) (v2 (goal.at.After-same_side c).After-area_doubled-c) (v3 (goal.at.After-same_side c).After-area_doubled-c)) ≡ c.same_side.result)
unfolding is_flat is_inside
sides c =
    let x = (back (A (goal.at.After-same_side c).After-area_doubled-c)).is in
    let y = (back (B (goal.at.After-same_side c).After-area_doubled-c)).is in
    let z = (back (C (goal.at.After-same_side c).After-area_doubled-c)).is in
    sym (c.same_side.ensures
    ∙ (λ i. (none_below (x i) (y i) (z i) || none_above (x i) (y i) (z i)) && not (eq_z ((x i +ℤ y i) +ℤ z i) (pos 0)))
    ∙ ap (λ (u : ℤ). is_inside (v1 (goal.at.After-same_side c).After-area_doubled-c) (v2 (goal.at.After-same_side c).After-area_doubled-c) (v3 (goal.at.After-same_side c).After-area_doubled-c) (p (goal.at.After-same_side c).After-area_doubled-c) && not (eq_z u (pos 0))) (area_sum (v1 (goal.at.After-same_side c).After-area_doubled-c) (v2 (goal.at.After-same_side c).After-area_doubled-c) (v3 (goal.at.After-same_side c).After-area_doubled-c) (p (goal.at.After-same_side c).After-area_doubled-c)))

pub same_side-requires : goal.same_side-requires
same_side-requires c = (size_of (back (A (goal.at.same_side-requires c).After-area_doubled-c)), size_of (back (B (goal.at.same_side-requires c).After-area_doubled-c)), size_of (back (C (goal.at.same_side-requires c).After-area_doubled-c)))

pub returns-then-same_side : goal.returns-then-same_side
returns-then-same_side c =
    let e = and_true _ _ (sides (goal.at.returns-then-same_side c).After-same_side ∙ c.if-same_side.true) in
    sym (contained_by (v1 (goal.at.returns-then-same_side c).After-area_doubled-c) (v2 (goal.at.returns-then-same_side c).After-area_doubled-c) (v3 (goal.at.returns-then-same_side c).After-area_doubled-c) (p (goal.at.returns-then-same_side c).After-area_doubled-c) false true (not-true _ e.1) e.0)

-- from the vertices sorted on
module _ (c : After-sorted_yx-t) where
  bounds : All Bounded c.sorted_yx-t.result
  bounds = sorted_bounded c.args.v1 c.args.v2 c.args.v3 c.sorted_yx-t.result c.sorted_yx-t.ensures c.requires

pub overflow_add-a : goal.overflow_add-a
overflow_add-a c = fits (AB (goal.at.overflow_add-a c).After-area_doubled-c)

pub overflow_add-a-2 : goal.overflow_add-a-2
overflow_add-a-2 c = fits (ABC (goal.at.overflow_add-a-2 c).After-area_doubled-c)

pub meets-requires : goal.meets-requires
meets-requires c = let b = bounds (goal.at.meets-requires c).After-sorted_yx-t in (b.first, b.third)

pub returns-then-a-b-eq0 : goal.returns-then-a-b-eq0
returns-then-a-b-eq0 c =
    let flat = decides_yes (flat_decides (v1 (goal.at.returns-then-a-b-eq0 c).After-area_doubled-c) (v2 (goal.at.returns-then-a-b-eq0 c).After-area_doubled-c) (v3 (goal.at.returns-then-a-b-eq0 c).After-area_doubled-c)) (sym (whole (goal.at.returns-then-a-b-eq0 c).After-area_doubled-c) ∙ eq_bits (fits (ABC (goal.at.returns-then-a-b-eq0 c).After-area_doubled-c)) (sfits_lit {w = w64} {z = pos 0} tt) c.if-a-b-eq0.true) in
    c.meets.ensures ∙ ap (λ (t : Sorted). has_point t.p1 t.p3 (p (goal.at.returns-then-a-b-eq0 c).After-area_doubled-c)) c.sorted_yx-t.ensures ∙ sym (contained_by (v1 (goal.at.returns-then-a-b-eq0 c).After-area_doubled-c) (v2 (goal.at.returns-then-a-b-eq0 c).After-area_doubled-c) (v3 (goal.at.returns-then-a-b-eq0 c).After-area_doubled-c) (p (goal.at.returns-then-a-b-eq0 c).After-area_doubled-c) true _ flat refl)

pub on_edge-requires : goal.on_edge-requires
on_edge-requires c = let b = bounds (goal.at.on_edge-requires c).After-sorted_yx-t in (b.first, b.second, b.third)

pub returns : goal.returns
returns c =
    let solid = decides_no (flat_decides (v1 (goal.at.returns c).After-area_doubled-c) (v2 (goal.at.returns c).After-area_doubled-c) (v3 (goal.at.returns c).After-area_doubled-c)) (λ e. c.if-a-b-eq0.false (ap (of_z w64) (whole (goal.at.returns c).After-area_doubled-c ∙ e))) in
    let outside = sym (and_yes _) ∙ ap (λ (b : Bool). is_inside (v1 (goal.at.returns c).After-area_doubled-c) (v2 (goal.at.returns c).After-area_doubled-c) (v3 (goal.at.returns c).After-area_doubled-c) (p (goal.at.returns c).After-area_doubled-c) && not b) (sym solid) ∙ sides (goal.at.returns c).After-same_side ∙ c.if-same_side.false in
    c.on_edge.ensures ∙ ap (λ (t : Sorted). on_edge t.p1 t.p2 t.p3 (p (goal.at.returns c).After-area_doubled-c)) c.sorted_yx-t.ensures
    ∙ sym (contained_by (v1 (goal.at.returns c).After-area_doubled-c) (v2 (goal.at.returns c).After-area_doubled-c) (v3 (goal.at.returns c).After-area_doubled-c) (p (goal.at.returns c).After-area_doubled-c) false false solid outside)
