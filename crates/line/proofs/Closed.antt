-- Membership in closed form: a pixel that lies u moves along x and v along y from the start, both towards the end, is a point of the line exactly if
-- its moves along the minor axis are those of the rule at its moves along the major one. Assumes nothing.
use mathlib.Core.Path.{◌≡◌, refl, sym, ap, ap₂, subst, ◌∙◌}
use mathlib.Core.Bool.{Bool, true, false, cond, ◌&&◌}
use Prim.Native.Nat.{ℕ, ◌≤◌, ◌<◌}
use native.Mathlib.Omega.{arith}
use borrow.Author.Tests.{le-leb, lt-leb}
use lib.Dec.{leb, eqb}
use lib.IntN.{ℤ, pos, negsuc, nat_abs, pos-ne-negsuc, ◌+ℤ◌, ◌-ℤ◌, ◌*ℤ◌}
use lib.Signed.{le_z, ◌<ℤ◌}
use Rattle.whole.proofs.Decides.{Decides, never, decides_and, decides_map, decides_no, decides_one, decides_leb, decides_eqb}
use Rattle.whole.proofs.Difference.{as_mk, mks, mk_eq, lt_nat}
use Rattle.geometry.specs.declared.Point.{Point}
use Rattle.line.specs.Line.{toward, wide, high, steep, major, moves, x_moves, y_moves, point_at, HasPoint, has_point, on_line}
use Rattle.line.proofs.Moves.{moves_minor}
use Rattle.line.proofs.Lengths.{major_by, x_by, y_by}
use Rattle.line.proofs.Points.{has_decides}

-- ---- along one axis: p lies u moves from a towards b
module _ (a b p : ℤ) (u : ℕ) where
  back_up : (a z : ℤ) → pos 1 *ℤ ((a +ℤ pos 1 *ℤ z) -ℤ a) ≡ z
  back_up a z = rw (as_mk a, as_mk z) (simp mks (mk_eq _ _ _ _ (omega arith)))

  back_down : (a z : ℤ) → negsuc 0 *ℤ ((a +ℤ negsuc 0 *ℤ z) -ℤ a) ≡ z
  back_down a z = rw (as_mk a, as_mk z) (simp mks (mk_eq _ _ _ _ (omega arith)))

  pub moves_off : p ≡ a +ℤ toward a b *ℤ pos u → toward a b *ℤ (p -ℤ a) ≡ pos u
  moves_off h = ap (λ (z : ℤ). toward a b *ℤ (z -ℤ a)) h ∙ by (le_z a b)
    where
      by : (t : Bool) → cond t (pos 1) (negsuc 0) *ℤ ((a +ℤ cond t (pos 1) (negsuc 0) *ℤ pos u) -ℤ a) ≡ pos u
      by true = back_up a (pos u)
      by false = back_down a (pos u)

  forth_up : (a p : ℤ) → p ≡ a +ℤ pos 1 *ℤ (pos 1 *ℤ (p -ℤ a))
  forth_up a p = rw (as_mk a, as_mk p) (simp mks (mk_eq _ _ _ _ (omega arith)))

  forth_down : (a p : ℤ) → p ≡ a +ℤ negsuc 0 *ℤ (negsuc 0 *ℤ (p -ℤ a))
  forth_down a p = rw (as_mk a, as_mk p) (simp mks (mk_eq _ _ _ _ (omega arith)))

  pub off_moves : toward a b *ℤ (p -ℤ a) ≡ pos u → p ≡ a +ℤ toward a b *ℤ pos u
  off_moves h = by (le_z a b) ∙ ap (λ (z : ℤ). a +ℤ toward a b *ℤ z) h
    where
      by : (t : Bool) → p ≡ a +ℤ cond t (pos 1) (negsuc 0) *ℤ (cond t (pos 1) (negsuc 0) *ℤ (p -ℤ a))
      by true = forth_up a p
      by false = forth_down a p

-- ---- both axes
pub record Off (s e p : Point) (u v : ℕ) : Type 0 where
  pub x : toward s.0 e.0 *ℤ (p.0 -ℤ s.0) ≡ pos u
  pub y : toward s.1 e.1 *ℤ (p.1 -ℤ s.1) ≡ pos v

-- u along x and v along y, in a box w wide and h high, is on the line: y is the major axis, or x is
abbrev pub OnLine : Bool → ℕ → ℕ → ℕ → ℕ → Type 0
OnLine true w h u v = (v ≤ h) × (u ≡ moves h w v)
OnLine false w h u v = (u ≤ w) × (v ≡ moves w h u)

module _ (s e p : Point) where
  pub has_off : (h : HasPoint s e p) → Off s e p (x_moves s e h.step) (y_moves s e h.step)
  unfolding point_at
  has_off h =
      record {
        x = moves_off s.0 e.0 p.0 (x_moves s e h.step) (ap (λ (q : Point). q.0) h.here);
        y = moves_off s.1 e.1 p.1 (y_moves s e h.step) (ap (λ (q : Point). q.1) h.here);
      }

  -- the moves at a step of the line are on it
  on_line_lem : (k : ℕ) → k ≤ major s e → OnLine (steep s e) (wide s e) (high s e) (x_moves s e k) (y_moves s e k)
  on_line_lem k l = by (steep s e) refl
    where
      by : (t : Bool) → steep s e ≡ t → OnLine t (wide s e) (high s e) (x_moves s e k) (y_moves s e k)
      by true h =
          let ev : y_moves s e k ≡ k = y_by s e true h k in
          (omega (arith, major_by s e true h), x_by s e true h k ∙ ap (moves (high s e) (wide s e)) (sym ev))
      by false h =
          let eu : x_moves s e k ≡ k = x_by s e false h k in
          (omega (arith, major_by s e false h), y_by s e false h k ∙ ap (moves (wide s e) (high s e)) (sym eu))

  module _ (u v : ℕ) (off : Off s e p u v) where
    pub closed→ : HasPoint s e p → OnLine (steep s e) (wide s e) (high s e) u v
    closed→ h =
        let o = has_off h in
        let eu : x_moves s e h.step ≡ u = ap nat_abs (sym o.x ∙ off.x) in
        let ev : y_moves s e h.step ≡ v = ap nat_abs (sym o.y ∙ off.y) in
        subst (λ (n : ℕ). OnLine (steep s e) (wide s e) (high s e) u n) ev
        (subst (λ (n : ℕ). OnLine (steep s e) (wide s e) (high s e) n (y_moves s e h.step)) eu (on_line_lem h.step h.walked))

    pub closed← : OnLine (steep s e) (wide s e) (high s e) u v → HasPoint s e p
    unfolding point_at
    closed← on = by (steep s e) refl on
      where
        px : p.0 ≡ s.0 +ℤ toward s.0 e.0 *ℤ pos u
        px = off_moves s.0 e.0 p.0 u off.x

        py : p.1 ≡ s.1 +ℤ toward s.1 e.1 *ℤ pos v
        py = off_moves s.1 e.1 p.1 v off.y

        -- the point at step k, where the moves at k are u and v
        at : (k : ℕ) → k ≤ major s e → u ≡ x_moves s e k → v ≡ y_moves s e k → HasPoint s e p
        at k l eu ev =
            let x : p.0 ≡ s.0 +ℤ toward s.0 e.0 *ℤ pos (x_moves s e k) = px ∙ ap (λ (n : ℕ). s.0 +ℤ toward s.0 e.0 *ℤ pos n) eu in
            let y : p.1 ≡ s.1 +ℤ toward s.1 e.1 *ℤ pos (y_moves s e k) = py ∙ ap (λ (n : ℕ). s.1 +ℤ toward s.1 e.1 *ℤ pos n) ev in
            record { step = k; walked = l; here = λ i. (x i, y i) }

        by : (t : Bool) → steep s e ≡ t → OnLine t (wide s e) (high s e) u v → HasPoint s e p
        by true h o = at v (omega (arith, major_by s e true h)) (o.1 ∙ sym (x_by s e true h v)) (sym (y_by s e true h v))
        by false h o = at u (omega (arith, major_by s e false h)) (sym (x_by s e false h u)) (o.1 ∙ sym (y_by s e false h u))

-- ---- the same as a yes or no, over signed moves
on_decides : (w h u v : ℕ) → Decides (on_line w h (pos u) (pos v)) (OnLine (leb w h) w h u v)
on_decides w h u v = by (leb w h)
  where
    by : (b : Bool) → Decides (cond b (leb v h && eqb u (moves h w v)) (leb u w && eqb v (moves w h u))) (OnLine b w h u v)
    by true = decides_and (leb v h) (eqb u (moves h w v)) (decides_leb v h) (decides_eqb u (moves h w v))
    by false = decides_and (leb u w) (eqb v (moves w h u)) (decides_leb u w) (decides_eqb v (moves w h u))

module _ (s e p : Point) where
  along : ℤ
  along = toward s.0 e.0 *ℤ (p.0 -ℤ s.0)

  down : ℤ
  down = toward s.1 e.1 *ℤ (p.1 -ℤ s.1)

  line_decides : (x y : ℤ) → along ≡ x → down ≡ y → Decides (on_line (wide s e) (high s e) x y) (HasPoint s e p)
  unfolding along down
  line_decides (pos u) (pos v) ex ey =
      let off : Off s e p u v = record { x = ex; y = ey } in
      decides_map (on_decides (wide s e) (high s e) u v) (closed← s e p u v off) (closed→ s e p u v off)
  line_decides (pos u) (negsuc v) ex ey = never (λ h. pos-ne-negsuc (y_moves s e h.step) v (sym (has_off s e p h).y ∙ ey))
  line_decides (negsuc u) y ex ey = never (λ h. pos-ne-negsuc (x_moves s e h.step) u (sym (has_off s e p h).x ∙ ex))

  -- a pixel is a point of the line exactly if its moves are on it
  pub has_closed : on_line (wide s e) (high s e) (toward s.0 e.0 *ℤ (p.0 -ℤ s.0)) (toward s.1 e.1 *ℤ (p.1 -ℤ s.1)) ≡ has_point s e p
  unfolding along down
  has_closed = decides_one _ (has_point s e p) (line_decides along down refl refl) (has_decides s e p)

-- ---- by what a test finds of the moves
pub on_left : (w h : ℕ) (x y : ℤ) → x <ℤ pos 0 → on_line w h x y ≡ false
on_left w h (pos u) y l = absurd (omega (arith, lt_nat l))
on_left w h (negsuc u) y l = refl

pub on_above : (w h : ℕ) (x y : ℤ) → y <ℤ pos 0 → on_line w h x y ≡ false
on_above w h (pos u) (pos v) l = absurd (omega (arith, lt_nat l))
on_above w h (pos u) (negsuc v) l = refl
on_above w h (negsuc u) y l = refl

module _ (w h u v : ℕ) where
  pub on_right : w < u → on_line w h (pos u) (pos v) ≡ false
  on_right l = decides_no (on_decides w h u v) (by (leb w h))
    where
      by : (b : Bool) → OnLine b w h u v → ⊥
      by true o = omega (arith, moves_minor h w v o.0)
      by false o = omega arith

  pub on_below : h < v → on_line w h (pos u) (pos v) ≡ false
  on_below l = decides_no (on_decides w h u v) (by (leb w h))
    where
      by : (b : Bool) → OnLine b w h u v → ⊥
      by true o = omega arith
      by false o = omega (arith, moves_minor w h u o.0)

  pub on_steep : w ≤ h → v ≤ h → on_line w h (pos u) (pos v) ≡ eqb u (moves h w v)
  on_steep l k = ap₂ (λ (a b : Bool). cond a (b && eqb u (moves h w v)) (leb u w && eqb v (moves w h u))) (le-leb w h l) (le-leb v h k)

  pub on_level : h < w → u ≤ w → on_line w h (pos u) (pos v) ≡ eqb v (moves w h u)
  on_level l k = ap₂ (λ (a b : Bool). cond a (leb v h && eqb u (moves h w v)) (b && eqb v (moves w h u))) (lt-leb w h l) (le-leb u w k)
