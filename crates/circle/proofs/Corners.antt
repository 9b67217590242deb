-- A CIRCLE THAT CONTAINS THE CORNERS OF A RECTANGLE CONTAINS THE RECTANGLE: of three places in a row the middle one is nearer to the centre than one of the others. Assumes nothing.
use mathlib.Core.Path.{◌≡◌, sym, ◌∙◌}
use mathlib.Core.Bool.{true}
use mathlib.Core.Logic.{◌⊎◌, inl, inr, ⊎_elim}
use Prim.Native.Nat.{ℕ, ◌≤◌, ◌<◌}
use native.Mathlib.Nat.{mul-le-mul}
use native.Mathlib.Omega.{arith}
use borrow.Author.Tests.{lt-ltb, ltb-true}
use lib.IntN.{ℤ, pos, negsuc, nat_abs, ◌-ℤ◌}
use lib.Signed.{◌≤ℤ◌}
use Rattle.whole.proofs.Difference.{le_nat, nat_le}
use Rattle.whole.proofs.Tests.{and_true}
use Rattle.geometry.specs.declared.Point.{Point}
use Rattle.circle.specs.Circle.{threshold_of, contained}
use Rattle.circle.specs.Corners.{corners}
use Rattle.circle.proofs.Containment.{off, away, squares, contained_is, off_parts, less_nat}

nearer : (x z y : ℤ) → x ≤ℤ z → z ≤ℤ y → (nat_abs z ≤ nat_abs x) ⊎ (nat_abs z ≤ nat_abs y)
nearer x (pos n) y h k = inr (by y k)
  where
    by : (y : ℤ) → pos n ≤ℤ y → n ≤ nat_abs y
    by (pos m) k = omega (arith, le_nat k)
    by (negsuc m) k = omega (arith, le_nat k)
nearer x (negsuc n) y h k = inl (by x h)
  where
    by : (x : ℤ) → x ≤ℤ negsuc n → nat_abs (negsuc n) ≤ nat_abs x
    by (pos m) h = absurd (omega (arith, le_nat h))
    by (negsuc m) h = omega (arith, le_nat h)

module _ (l : ℤ) (d : ℕ) where
  off_more : {x z : ℤ} → x ≤ℤ z → off x l d ≤ℤ off z l d
  off_more {x} {z} h = nat_le (omega (arith, le_nat h, off_parts x l d, off_parts z l d))

  between_nearer : (x z y : ℤ) → x ≤ℤ z → z ≤ℤ y → (away z l d ≤ away x l d) ⊎ (away z l d ≤ away y l d)
  between_nearer x z y h k = nearer (off x l d) (off z l d) (off y l d) (off_more h) (off_more k)

module _ (c : Point) (d : ℕ) where
  -- a pixel that is nearer on both axes than one that is contained
  contained_nearer : (p q : Point) → contained c d q ≡ true → away p.0 c.0 d ≤ away q.0 c.0 d → away p.1 c.1 d ≤ away q.1 c.1 d → contained c d p ≡ true
  contained_nearer p q e x y =
      let far = ltb-true (squares c d q) (threshold_of d) (sym (contained_is c d q) ∙ e) in
      contained_is c d p ∙ lt-ltb (squares c d p) (threshold_of d) (omega (arith, mul-le-mul x x, mul-le-mul y y))

  pub corners_all : (l t r b : ℕ) → corners c d l t r b ≡ true → (u v : ℕ) → l ≤ u → u < r → t ≤ v → v < b → contained c d (pos u, pos v) ≡ true
  corners_all l t r b e u v hl hr ht hb =
      let right = pos r -ℤ pos 1 in
      let bottom = pos b -ℤ pos 1 in
      let a = and_true (contained c d (pos l, pos t)) _ e in
      let h = and_true (contained c d (right, pos t)) _ a.1 in
      let g = and_true (contained c d (pos l, bottom)) _ h.1 in
      let across = between_nearer c.0 d (pos l) (pos u) right (nat_le (omega arith)) (nat_le (omega (arith, less_nat (pos r) 1))) in
      let down = between_nearer c.1 d (pos t) (pos v) bottom (nat_le (omega arith)) (nat_le (omega (arith, less_nat (pos b) 1))) in
      ⊎_elim (λ x. ⊎_elim (contained_nearer (pos u, pos v) (pos l, pos t) a.0 x) (contained_nearer (pos u, pos v) (pos l, bottom) g.0 x) down)
      (λ x. ⊎_elim (contained_nearer (pos u, pos v) (right, pos t) h.0 x) (contained_nearer (pos u, pos v) (right, bottom) g.1 x) down) across
