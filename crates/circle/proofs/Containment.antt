-- Laws of containment: a pixel's two squares, of its column and of its row, are below the threshold together; it lies in the box; mirrored or
-- moved with the circle it stays what it is. For every top-left, diameter and pixel. Assumes nothing.
use mathlib.Core.Path.{◌≡◌, refl, sym, ap, ap₂, ◌∙◌}
use mathlib.Core.Bool.{Bool, true, false, cond}
use Prim.Native.Nat.{ℕ, ◌+◌, ◌*◌, ◌-◌, ◌/◌, ◌<◌, ◌≤◌}
use native.Mathlib.Omega.{arith}
use lib.Dec.{leb, ltb}
use lib.IntN.{ℤ, pos, negsuc, neg_ℤ, nat_abs, ◌+ℤ◌, ◌-ℤ◌, ◌*ℤ◌}
use lib.Signed.{lt_z, ◌≤ℤ◌, ◌<ℤ◌}
use Rattle.whole.specs.Interval.{between}
use Rattle.whole.proofs.Decides.{Decides, decides_map, decides_and, decides_between, decides_leb, decides_ltb, decides_one, decides_no}
use Rattle.whole.proofs.Difference.{up, dn, as_mk, mks, mk_eq, eq_mk, le_nat, lt_nat, nat_le, nat_lt, restored, sum_nat}
use Rattle.whole.proofs.Machine.{neg_size}
use Rattle.geometry.specs.declared.Point.{Point}
use Rattle.geometry.specs.Place.{moved}
use Rattle.circle.specs.Circle.{doubled, centre, squared_distance, threshold_of, contained, box_column, box_row, in_box}
use Rattle.circle.proofs.Roots.{square_below}

-- ---- how far column x is from the doubled centre of a side that starts at l and is d long; rows alike
abbrev pub off : ℤ → ℤ → ℕ → ℤ
off x l d = pos 2 *ℤ x -ℤ (pos 2 *ℤ l +ℤ pos d -ℤ pos 1)

abbrev pub away : ℤ → ℤ → ℕ → ℕ
away x l d = nat_abs (off x l d)

pub square_is : (z : ℤ) → z *ℤ z ≡ pos (nat_abs z * nat_abs z)
square_is (pos n) = refl
square_is (negsuc n) = refl

-- the sum of the two squares
abbrev pub squares : Point → ℕ → Point → ℕ
squares c d p = away p.0 c.0 d * away p.0 c.0 d + away p.1 c.1 d * away p.1 c.1 d

pub distance_is : (c : Point) (d : ℕ) (p : Point) → squared_distance (doubled p) (centre c d) ≡ pos (squares c d p)
distance_is c d p = ap₂ ◌+ℤ◌ (square_is (off p.0 c.0 d)) (square_is (off p.1 c.1 d))

pub contained_is : (c : Point) (d : ℕ) (p : Point) → contained c d p ≡ ltb (squares c d p) (threshold_of d)
contained_is c d p = ap (λ (z : ℤ). lt_z z (pos (threshold_of d))) (distance_is c d p)

-- ---- the threshold, for every d at once: at most d / 2 below the square
pub threshold_high : (d : ℕ) → threshold_of d ≤ d * d
threshold_high d = by (leb d 4)
  where
    by : (b : Bool) → cond b (d * d - d / 2) (d * d) ≤ d * d
    by true = omega arith
    by false = omega arith

pub threshold_low : (d : ℕ) → d * d ≤ threshold_of d + d / 2
threshold_low d = by (leb d 4)
  where
    by : (b : Bool) → d * d ≤ cond b (d * d - d / 2) (d * d) + d / 2
    by true = omega arith
    by false = omega arith

-- ---- the tests decide the orders
pub in_box_decides : (c : Point) (d : ℕ) (p : Point) → Decides (in_box c d p) (((c.0 ≤ℤ p.0) × (p.0 <ℤ (c.0 +ℤ pos d))) × ((c.1 ≤ℤ p.1) × (p.1 <ℤ (c.1 +ℤ pos d))))
in_box_decides c d p = decides_and (box_column c d p.0) (box_row c d p.1) (decides_between c.0 (c.0 +ℤ pos d) p.0) (decides_between c.1 (c.1 +ℤ pos d) p.1)

-- ---- a side that starts at l and is d long: where x lies on it, by its distance from the centre. By parts x - l is a - b, with
-- a = up x + dn l and b = up l + dn x
parts : (z x l D : ℤ) → z ≡ pos 2 *ℤ x -ℤ (pos 2 *ℤ l +ℤ D -ℤ pos 1) → up z + 2 * (up l + dn x) + up D ≡ 2 * (up x + dn l) + 1 + dn z + dn D
parts z x l D e =
    let g = eq_mk _ _ _ _ (simp mks at (rw (as_mk z, as_mk x, as_mk l, as_mk D) at e)) in
    omega arith

pub off_parts : (x l : ℤ) (d : ℕ) → up (off x l d) + 2 * (up l + dn x) + d ≡ 2 * (up x + dn l) + 1 + dn (off x l d)
off_parts x l d = omega (arith, parts (off x l d) x l (pos d) refl)

-- at most s from the centre is to leave out (d - s) / 2 at both ends
near_inner : (z : ℤ) (a b d s : ℕ) → up z + 2 * b + d ≡ 2 * a + 1 + dn z → s < d → nat_abs z ≤ s → (b + (d - s) / 2 ≤ a) × (a + (d - s) / 2 < b + d)
near_inner (pos n) a b d s e h k = (omega arith, omega arith)
near_inner (negsuc n) a b d s e h k = (omega arith, omega arith)

inner_near : (z : ℤ) (a b d s : ℕ) → up z + 2 * b + d ≡ 2 * a + 1 + dn z → s < d → (b + (d - s) / 2 ≤ a) × (a + (d - s) / 2 < b + d) → nat_abs z ≤ s
inner_near (pos n) a b d s e h k = omega arith
inner_near (negsuc n) a b d s e h k = omega arith

pub less_nat : (a : ℤ) (n : ℕ) → up (a -ℤ pos n) + n + dn a ≡ up a + dn (a -ℤ pos n)
less_nat a n = omega (arith, sum_nat a (a -ℤ pos n) n (restored a (pos n)))

pub inner_decides : (l x : ℤ) (d e : ℕ) → Decides (between (l +ℤ pos e) (l +ℤ pos d -ℤ pos e) x) ((up l + dn x + e ≤ up x + dn l) × (up x + dn l + e < up l + dn x + d))
inner_decides l x d e =
    let g = sum_nat (l +ℤ pos e) l e refl in
    let k = sum_nat (l +ℤ pos d) l d refl in
    let m = less_nat (l +ℤ pos d) e in
    decides_map (decides_between (l +ℤ pos e) (l +ℤ pos d -ℤ pos e) x)
    (λ h. (omega (arith, le_nat h.0), omega (arith, lt_nat h.1))) (λ h. (nat_le (omega arith), nat_lt (omega arith)))

pub inner_is : (x l : ℤ) (d s : ℕ) → s < d → leb (away x l d) s ≡ between (l +ℤ pos ((d - s) / 2)) (l +ℤ pos d -ℤ pos ((d - s) / 2)) x
inner_is x l d s h =
    let e = off_parts x l d in
    decides_one _ _
    (decides_map (decides_leb (away x l d) s) (near_inner (off x l d) (up x + dn l) (up l + dn x) d s e h) (inner_near (off x l d) (up x + dn l) (up l + dn x) d s e h))
    (inner_decides l x d ((d - s) / 2))

-- below d from the centre is to lie on the side
module _ (x l : ℤ) (d : ℕ) where
  end : up (l +ℤ pos d) + dn l ≡ up l + d + dn (l +ℤ pos d)
  end = sum_nat (l +ℤ pos d) l d refl

  side_near : (l ≤ℤ x) × (x <ℤ (l +ℤ pos d)) → away x l d < d
  side_near h =
      let g = le_nat h.0 in
      let k = lt_nat h.1 in
      let near = inner_near (off x l d) (up x + dn l) (up l + dn x) d (d - 1) (off_parts x l d) (omega (arith, end)) (omega (arith, end), omega (arith, end)) in
      omega (arith, end)

  near_side : away x l d < d → (l ≤ℤ x) × (x <ℤ (l +ℤ pos d))
  near_side h =
      let g = near_inner (off x l d) (up x + dn l) (up l + dn x) d (d - 1) (off_parts x l d) (omega arith) (omega arith) in
      (nat_le (omega (arith, g.0)), nat_lt (omega (arith, g.1, end)))

  pub side_is : between l (l +ℤ pos d) x ≡ ltb (away x l d) d
  side_is = decides_one _ _ (decides_map (decides_between l (l +ℤ pos d) x) side_near near_side) (decides_ltb (away x l d) d)

-- a pixel of the box is less than d from the centre, on both axes
pub in_box_away : (c : Point) (d : ℕ) (p : Point) → in_box c d p ≡ true → (away p.0 c.0 d < d) × (away p.1 c.1 d < d)
in_box_away c d p e =
    let h = (in_box_decides c d p).yes e in
    (side_near p.0 c.0 d h.0, side_near p.1 c.1 d h.1)

-- pixels outside the box are not contained
pub outside : (c : Point) (d : ℕ) (p : Point) → in_box c d p ≡ false → contained c d p ≡ false
outside c d p e =
    contained_is c d p
    ∙ decides_no (decides_ltb (squares c d p) (threshold_of d))
    (λ h.
    (in_box_decides c d p).no e
    (near_side p.0 c.0 d (below (away p.0 c.0 d) (omega arith)), near_side p.1 c.1 d (below (away p.1 c.1 d) (omega arith))))
  where
    below : (a : ℕ) → a * a < threshold_of d → a < d
    below a h = square_below a d (omega (arith, threshold_high d))

-- d = 0 contains nothing
pub nothing : (c p : Point) → contained c 0 p ≡ false
nothing c p = contained_is c 0 p ∙ decides_no (decides_ltb (squares c 0 p) 0) (λ h. omega arith)

-- ---- symmetry: the mirror image of column x, of a box whose columns start at l; rows alike
abbrev pub mirror : ℤ → ℕ → ℤ → ℤ
mirror l d x = pos 2 *ℤ l +ℤ pos d -ℤ pos 1 -ℤ x

mirror_away : (x l : ℤ) (d : ℕ) → away (mirror l d x) l d ≡ away x l d
mirror_away x l d = ap nat_abs (turned x l (pos d)) ∙ neg_size (off x l d)
  where
    turned : (x l D : ℤ) → pos 2 *ℤ (pos 2 *ℤ l +ℤ D -ℤ pos 1 -ℤ x) -ℤ (pos 2 *ℤ l +ℤ D -ℤ pos 1) ≡ neg_ℤ (pos 2 *ℤ x -ℤ (pos 2 *ℤ l +ℤ D -ℤ pos 1))
    turned x l D = rw (as_mk x, as_mk l, as_mk D) (simp mks (mk_eq _ _ _ _ (omega arith)))

pub left_right : (c : Point) (d : ℕ) (x y : ℤ) → contained c d (mirror c.0 d x, y) ≡ contained c d (x, y)
left_right c d x y =
    contained_is c d (mirror c.0 d x, y)
    ∙ ap (λ (a : ℕ). ltb (a * a + away y c.1 d * away y c.1 d) (threshold_of d)) (mirror_away x c.0 d) ∙ sym (contained_is c d (x, y))

pub top_bottom : (c : Point) (d : ℕ) (x y : ℤ) → contained c d (x, mirror c.1 d y) ≡ contained c d (x, y)
top_bottom c d x y =
    contained_is c d (x, mirror c.1 d y)
    ∙ ap (λ (b : ℕ). ltb (away x c.0 d * away x c.0 d + b * b) (threshold_of d)) (mirror_away y c.1 d) ∙ sym (contained_is c d (x, y))

-- ---- moving circle and pixel together changes nothing
moved_off : (x l D u : ℤ) → pos 2 *ℤ (x +ℤ u) -ℤ (pos 2 *ℤ (l +ℤ u) +ℤ D -ℤ pos 1) ≡ pos 2 *ℤ x -ℤ (pos 2 *ℤ l +ℤ D -ℤ pos 1)
moved_off x l D u = rw (as_mk x, as_mk l, as_mk D, as_mk u) (simp mks (mk_eq _ _ _ _ (omega arith)))

pub contained_moved : (v c : Point) (d : ℕ) (p : Point) → contained (moved v c) d (moved v p) ≡ contained c d p
contained_moved v c d p = ap₂ (λ (a b : ℤ). lt_z (a *ℤ a +ℤ b *ℤ b) (pos (threshold_of d))) (moved_off p.0 c.0 (pos d) v.0) (moved_off p.1 c.1 (pos d) v.1)
