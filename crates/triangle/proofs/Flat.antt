-- Edge points of a flat triangle, which are those of the line p1 to p3; and so of any triangle, which contains them whatever its area. Assumes nothing.
use mathlib.Core.Path.{◌≡◌, refl, sym, ap, ◌∙◌}
use mathlib.Core.Bool.{Bool, true, false}
use mathlib.Core.Logic.{inl, inr, ⊎_elim}
use Prim.Native.Nat.{ℕ, ◌*◌, ◌≤◌}
use native.Mathlib.Nat.{mul-le-mul_left}
use native.Mathlib.Omega.{arith}
use lib.IntN.{ℤ, pos, negsuc, nat_abs, +ℤ_idl, ◌+ℤ◌, ◌-ℤ◌, ◌*ℤ◌}
use lib.Signed.{le_z, ◌≤ℤ◌, ◌<ℤ◌}
use Rattle.whole.proofs.Decides.{decides_or, decides_map, decides_one}
use Rattle.whole.proofs.Difference.{mks, eq_mk, le_nat, lt_nat, restored, sum_nat}
use Rattle.whole.proofs.Machine.{le_yes, le_no, mul_size, size_pos}
use Rattle.whole.proofs.Order.{lt_le, le_sub, lt_sub}
use Rattle.whole.proofs.Tests.{true_or}
use Rattle.geometry.specs.declared.Point.{Point}
use Rattle.geometry.proofs.Place.{Before, before_rows}
use Rattle.line.specs.Line.{wide, high, has_point}
use Rattle.line.proofs.Points.{has_decides}
use Rattle.line.proofs.Straight.{Away, own_way, Straight, straight_to, straight_on}
use Rattle.triangle.specs.Triangle.{is_inside, on_edge, contained}
use Rattle.triangle.proofs.Area.{area_legs}
use Rattle.triangle.proofs.Run.{moves_to}
use Rattle.triangle.proofs.Order.{sorted_ordered}
use Rattle.triangle.proofs.Sides.{Flat, flat_decides}
use Rattle.triangle.proofs.Triangle.{p1, p2, p3, flat, flat_sorted, contained_by}

-- ---- along one axis
-- no lower: so many moves down
down_way : (a b : ℤ) → a ≤ℤ b → Away true a b (nat_abs (b -ℤ a))
down_way a b l = sum_nat b a (nat_abs (b -ℤ a)) (moves_to a b l)

-- two products that are equal, of two signs: both are 0
opposite : (x y : ℤ) (m n : ℕ) → pos 0 ≤ℤ x → y <ℤ pos 0 → x *ℤ pos m ≡ y *ℤ pos n → nat_abs x * m ≡ 0
opposite (pos i) (pos j) m n p q e = absurd (omega (arith, lt_nat q))
opposite (pos i) (negsuc j) m n p q e = let g = eq_mk _ _ _ _ (simp mks at e) in omega arith
opposite (negsuc i) y m n p q e = absurd p.le

-- a factor that is not 0 goes
none_wide : (w h : ℕ) → w * h ≡ 0 → 1 ≤ h → w ≡ 0
none_wide w h e l = omega (arith, mul-le-mul_left w l)

-- in order, but to the left: on a lower row
lower_row : (a b : Point) → Before a b → b.0 <ℤ a.0 → 1 ≤ high a b
unfolding high
lower_row a b (inl l) left = omega (arith, lt_nat l, down_way a.1 b.1 (lt_le l))
lower_row a b (inr h) left = absurd (omega (arith, lt_nat left, le_nat h.1))

-- ---- three places in order, with no area: the second stands straight on the way from the first to the third
module _ (a b c : Point) (ab : Before a b) (bc : Before b c) (none : Flat a b c) where
  -- both parts of the way have one slope
  legs : (b.0 -ℤ a.0) *ℤ pos (high b c) ≡ (c.0 -ℤ b.0) *ℤ pos (high a b)
  unfolding high
  legs =
      let x : ℤ = (b.0 -ℤ a.0) *ℤ (c.1 -ℤ b.1) in
      let y : ℤ = (c.0 -ℤ b.0) *ℤ (b.1 -ℤ a.1) in
      sym (ap (λ (z : ℤ). (b.0 -ℤ a.0) *ℤ z) (size_pos (c.1 -ℤ b.1) (le_sub b.1 c.1 (before_rows b c bc))))
      ∙ restored x y ∙ ap (λ (z : ℤ). z +ℤ y) (sym (area_legs a b c) ∙ none) ∙ +ℤ_idl y
      ∙ ap (λ (z : ℤ). (c.0 -ℤ b.0) *ℤ z) (size_pos (b.1 -ℤ a.1) (le_sub a.1 b.1 (before_rows a b ab)))

  one_slope : wide a b * high b c ≡ wide b c * high a b
  unfolding wide
  one_slope = sym (mul_size (b.0 -ℤ a.0) (pos (high b c))) ∙ ap nat_abs legs ∙ mul_size (c.0 -ℤ b.0) (pos (high a b))

  straight_by : (t : Bool) → Away t a.0 b.0 (wide a b) → Away t b.0 c.0 (wide b c) → Straight a b c
  unfolding high
  straight_by t to on =
      record {
        right = t;
        below = true;
        x_to = to;
        x_on = on;
        y_to = down_way a.1 b.1 (before_rows a b ab);
        y_on = down_way b.1 c.1 (before_rows b c bc);
        slope = one_slope;
      }

  -- where the parts would go two ways, one of them goes straight down
  straight : Straight a b c
  unfolding wide
  straight = by (le_z a.0 b.0) (le_z b.0 c.0) le_yes le_no le_yes le_no (own_way a.0 b.0) (own_way b.0 c.0)
    where
      by : (s t : Bool) → (s ≡ true → a.0 ≤ℤ b.0) → (s ≡ false → b.0 <ℤ a.0) → (t ≡ true → b.0 ≤ℤ c.0) → (t ≡ false → c.0 <ℤ b.0)
          → Away s a.0 b.0 (wide a b) → Away t b.0 c.0 (wide b c) → Straight a b c
      by true true f g h k to on = straight_by true to on
      by false false f g h k to on = straight_by false to on
      by true false f g h k to on =
          let e = opposite (b.0 -ℤ a.0) (c.0 -ℤ b.0) (high b c) (high a b) (le_sub a.0 b.0 (f refl)) (lt_sub c.0 b.0 (k refl)) legs in
          let z : wide a b ≡ 0 = none_wide (wide a b) (high b c) e (lower_row b c bc (k refl)) in
          straight_by false (omega arith) on
      by false true f g h k to on =
          let e = opposite (c.0 -ℤ b.0) (b.0 -ℤ a.0) (high a b) (high b c) (le_sub b.0 c.0 (h refl)) (lt_sub b.0 a.0 (g refl)) (sym legs) in
          let z : wide b c ≡ 0 = none_wide (wide b c) (high a b) e (lower_row a b ab (g refl)) in
          straight_by false to (omega arith)

module _ (v1 v2 v3 p : Point) where
  -- ---- ZERO AREA: the points of the three edges are those of the line p1 to p3
  pub flat_edges : flat v1 v2 v3 ≡ true → on_edge (p1 v1 v2 v3) (p2 v1 v2 v3) (p3 v1 v2 v3) p ≡ has_point (p1 v1 v2 v3) (p3 v1 v2 v3) p
  unfolding on_edge
  flat_edges e =
      let o = sorted_ordered v1 v2 v3 in
      let s = straight (p1 v1 v2 v3) (p2 v1 v2 v3) (p3 v1 v2 v3) o.upper o.lower ((flat_decides _ _ _).yes (flat_sorted v1 v2 v3 ∙ e)) in
      decides_one _ _ (decides_or _ _ (has_decides _ _ p) (decides_or _ _ (has_decides _ _ p) (has_decides _ _ p)))
      (decides_map (has_decides (p1 v1 v2 v3) (p3 v1 v2 v3) p) (λ h. inr (inl h)) (⊎_elim (straight_to _ _ _ p s) (⊎_elim (λ h. h) (straight_on _ _ _ p s))))

  -- ---- EVERY EDGE POINT IS CONTAINED, with an area or without
  pub edge_contained : on_edge (p1 v1 v2 v3) (p2 v1 v2 v3) (p3 v1 v2 v3) p ≡ true → contained v1 v2 v3 p ≡ true
  edge_contained h = by (flat v1 v2 v3) refl
    where
      by : (f : Bool) → flat v1 v2 v3 ≡ f → contained v1 v2 v3 p ≡ true
      by true e = contained_by v1 v2 v3 p true _ e refl ∙ sym (flat_edges e) ∙ h
      by false e = contained_by v1 v2 v3 p false _ e refl ∙ true_or (is_inside v1 v2 v3 p) (on_edge (p1 v1 v2 v3) (p2 v1 v2 v3) (p3 v1 v2 v3) p) (inr h)
