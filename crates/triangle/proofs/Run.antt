-- The key to a triangle's rows: an edge that runs down has on each of its rows a run of points, without a gap; and unless the edge is level, what
-- lies left of the run is strictly left of the ideal line, and what lies right of it strictly right. Assumes nothing.
use mathlib.Core.Path.{◌≡◌, refl, sym, ap, subst, ◌∙◌}
use mathlib.Core.Bool.{Bool, true, false, cond}
use Prim.Native.Nat.{ℕ, suc, ◌+◌, ◌*◌, ◌≤◌, ◌<◌}
use native.Mathlib.Nat.{mul-pos}
use native.Mathlib.Omega.{arith}
use lib.IntN.{ℤ, pos, negsuc, neg_ℤ, nat_abs, ◌+ℤ◌, ◌-ℤ◌, ◌*ℤ◌}
use lib.Signed.{◌≤ℤ◌, ◌<ℤ◌, le_z}
use Rattle.whole.proofs.Decides.{decides_le, decides_yes}
use Rattle.whole.proofs.Difference.{up, dn, mk, as_mk, mks, mk_eq, mk_lt, mk_pos, lt_mk, le_nat, lt_nat, nat_le, nat_eq, restored, sum_nat}
use Rattle.whole.proofs.Machine.{le_yes, le_no, size_pos, size_neg}
use Rattle.whole.proofs.Order.{le_sub, lt_sub, neg_flip_lt}
use Rattle.geometry.specs.declared.Point.{Point}
use Rattle.geometry.specs.Place.{area_doubled}
use Rattle.line.specs.Line.{toward, wide, high, x_moves, HasPoint}
use Rattle.line.proofs.Closed.{moves_off, off_moves, has_off, closed→, closed←}
use Rattle.triangle.proofs.Area.{area_near}
use Rattle.triangle.proofs.Offsets.{Offsets}

-- the points on row y are the columns lo to hi
pub record Run (s e : Point) (y lo hi : ℤ) : Type 0 where
  pub some : lo ≤ℤ hi
  pub has : (x : ℤ) → HasPoint s e (x, y) → (lo ≤ℤ x) × (x ≤ℤ hi)
  pub on : (x : ℤ) → lo ≤ℤ x → x ≤ℤ hi → HasPoint s e (x, y)
  pub left : s.1 <ℤ e.1 → (x : ℤ) → x <ℤ lo → pos 0 <ℤ area_doubled (x, y) s e
  pub right : s.1 <ℤ e.1 → (x : ℤ) → hi <ℤ x → area_doubled (x, y) s e <ℤ pos 0

-- ---- so many moves to the right or to the left
pub rightward : (a b : ℤ) (t : ℕ) → le_z a b ≡ true → a +ℤ toward a b *ℤ pos t ≡ a +ℤ pos t
rightward a b t h = ap (λ (c : Bool). a +ℤ cond c (pos 1) (negsuc 0) *ℤ pos t) h ∙ ap (λ (n : ℕ). a +ℤ pos n) (one t)
  where
    one : (t : ℕ) → 1 * t ≡ t
    one t = omega arith

pub leftward : (a b : ℤ) (t : ℕ) → le_z a b ≡ false → a ≡ (a +ℤ toward a b *ℤ pos t) +ℤ pos t
leftward a b t h = back a (pos t) ∙ sym (ap (λ (c : Bool). (a +ℤ cond c (pos 1) (negsuc 0) *ℤ pos t) +ℤ pos t) h)
  where
    back : (a t : ℤ) → a ≡ (a +ℤ negsuc 0 *ℤ t) +ℤ t
    back a t = rw (as_mk a, as_mk t) (simp mks (mk_eq _ _ _ _ (omega arith)))

-- the moves from a to x
pub moves_to : (a x : ℤ) → a ≤ℤ x → x ≡ a +ℤ pos (nat_abs (x -ℤ a))
moves_to a x h = sum a x ∙ ap (λ (z : ℤ). a +ℤ z) (size_pos (x -ℤ a) (le_sub a x h))
  where
    sum : (a x : ℤ) → x ≡ a +ℤ (x -ℤ a)
    sum a x = rw (as_mk a, as_mk x) (simp mks (mk_eq _ _ _ _ (omega arith)))

-- ---- which side: the doubled area at an offset z, which may lie outside the edge, is w v - h z or its negative
module _ (w h v f l : ℕ) (o : Offsets w h v f l) (tall : 0 < h) where
  as_difference : (z : ℤ) → pos (w * v) -ℤ pos h *ℤ z ≡ mk (w * v + h * dn z) (h * up z)
  as_difference z = ap (λ (u : ℤ). pos (w * v) -ℤ pos h *ℤ u) (as_mk z) ∙ gather (w * v) (up z) (dn z)
    where
      gather : (a p q : ℕ) → pos a -ℤ pos h *ℤ mk p q ≡ mk (a + h * q) (h * p)
      gather a p q = simp mks (mk_eq _ _ _ _ (omega arith))

  before_first : (z : ℤ) → z <ℤ pos f → pos 0 <ℤ (pos (w * v) -ℤ pos h *ℤ z)
  before_first (pos t) k = subst (λ (u : ℤ). pos 0 <ℤ u) (sym (as_difference (pos t))) (rw mk_pos (mk_lt _ _ _ _ (omega (arith, o.before t (omega (arith, lt_nat k))))))
  before_first (negsuc n) k =
      subst (λ (u : ℤ). pos 0 <ℤ u) (sym (as_difference (negsuc n))) (rw mk_pos (mk_lt _ _ _ _ (omega (arith, mul-pos {m = h} {n = suc n} tall (omega arith)))))

  past_last : (z : ℤ) → pos l <ℤ z → (pos (w * v) -ℤ pos h *ℤ z) <ℤ pos 0
  past_last (pos t) k = subst (λ (u : ℤ). u <ℤ pos 0) (sym (as_difference (pos t))) (rw mk_pos (mk_lt _ _ _ _ (omega (arith, o.past tall t (omega (arith, lt_nat k))))))
  past_last (negsuc n) k = absurd (omega (arith, lt_nat k))

-- ---- the run of a row v below the start, by the offsets
module _ (s e : Point) (y : ℤ) (v f l : ℕ) (down : s.1 ≤ℤ e.1) (row : y ≡ s.1 +ℤ pos v) (o : Offsets (wide s e) (high s e) v f l) where
  is_down : le_z s.1 e.1 ≡ true
  is_down = decides_yes (decides_le s.1 e.1) down

  row_moves : toward s.1 e.1 *ℤ (y -ℤ s.1) ≡ pos v
  row_moves = moves_off s.1 e.1 y v (row ∙ sym (rightward s.1 e.1 v is_down))

  -- the column at offset t
  abbrev col : ℕ → ℤ
  col t = s.0 +ℤ toward s.0 e.0 *ℤ pos t

  has_col : (t : ℕ) → f ≤ t → t ≤ l → HasPoint s e (col t, y)
  has_col t a b = closed← s e (col t, y) t v (record { x = moves_off s.0 e.0 (col t) t refl; y = row_moves }) ((o.on t).1 (a, b))

  record Col (x : ℤ) : Type 0 where
    t : ℕ
    is : x ≡ s.0 +ℤ toward s.0 e.0 *ℤ pos t
    low : f ≤ t
    high : t ≤ l

  col_of : (x : ℤ) → HasPoint s e (x, y) → Col x
  col_of x h =
      let p = has_off s e (x, y) h in
      let u : ℕ = x_moves s e h.step in
      let r = (o.on u).0 (closed→ s e (x, y) u v (record { x = p.x; y = row_moves }) h) in
      record { t = u; is = off_moves s.0 e.0 x u p.x; low = r.0; high = r.1 }

  -- ---- which side a column is on, by the way that the edge goes
  height : e.1 -ℤ s.1 ≡ pos (high s e)
  unfolding high
  height = size_pos (e.1 -ℤ s.1) (le_sub s.1 e.1 down)

  below : y -ℤ s.1 ≡ pos v
  below = ap (λ (z : ℤ). z -ℤ s.1) row ∙ off s.1 (pos v)
    where
      off : (a z : ℤ) → (a +ℤ z) -ℤ a ≡ z
      off a z = rw (as_mk a, as_mk z) (simp mks (mk_eq _ _ _ _ (omega arith)))

  tall : s.1 <ℤ e.1 → 0 < high s e
  unfolding high
  tall t = omega (arith, lt_nat t, sum_nat e.1 s.1 (nat_abs (e.1 -ℤ s.1)) (moves_to s.1 e.1 down))

  area_right : (x : ℤ) → s.0 ≤ℤ e.0 → area_doubled (x, y) s e ≡ pos (wide s e * v) -ℤ pos (high s e) *ℤ (x -ℤ s.0)
  unfolding wide
  area_right x r =
      area_near (x, y) s e ∙ (λ i. (size_pos (e.0 -ℤ s.0) (le_sub s.0 e.0 r) i *ℤ below i) -ℤ (height i *ℤ (x -ℤ s.0)))

  area_left : (x : ℤ) → e.0 <ℤ s.0 → area_doubled (x, y) s e ≡ neg_ℤ (pos (wide s e * v) -ℤ pos (high s e) *ℤ (s.0 -ℤ x))
  unfolding wide
  area_left x r =
      area_near (x, y) s e ∙ mirror (e.0 -ℤ s.0) (y -ℤ s.1) (e.1 -ℤ s.1) x s.0
      ∙ (λ i. neg_ℤ ((size_neg (e.0 -ℤ s.0) (lt_sub e.0 s.0 r) i *ℤ below i) -ℤ (height i *ℤ (s.0 -ℤ x))))
    where
      mirror : (w v h x a : ℤ) → (w *ℤ v) -ℤ (h *ℤ (x -ℤ a)) ≡ neg_ℤ ((neg_ℤ w *ℤ v) -ℤ (h *ℤ (a -ℤ x)))
      mirror w v h x a = rw (as_mk w, as_mk v, as_mk h, as_mk x, as_mk a) (simp mks (mk_eq _ _ _ _ (omega arith)))

  -- ---- the run, to the right and to the left of the start
  pub run_right : le_z s.0 e.0 ≡ true → Run s e y (s.0 +ℤ pos f) (s.0 +ℤ pos l)
  run_right r =
      let lo = sum_nat (s.0 +ℤ pos f) s.0 f refl in
      let hi = sum_nat (s.0 +ℤ pos l) s.0 l refl in
      record {
        some = nat_le (omega (arith, o.some));
        has = λ x h.
            let c = col_of x h in
            let cx = sum_nat x s.0 c.t (c.is ∙ rightward s.0 e.0 c.t r) in
            (nat_le (omega (arith, c.low)), nat_le (omega (arith, c.high)));
        on = λ x a b.
            let ax : s.0 ≤ℤ x = nat_le (omega (arith, le_nat a)) in
            let cx = sum_nat x s.0 (nat_abs (x -ℤ s.0)) (moves_to s.0 x ax) in
            subst (λ (z : ℤ). HasPoint s e (z, y)) (rightward s.0 e.0 (nat_abs (x -ℤ s.0)) r ∙ sym (moves_to s.0 x ax))
            (has_col (nat_abs (x -ℤ s.0)) (omega (arith, le_nat a)) (omega (arith, le_nat b)));
        left = λ d x k. subst (λ (z : ℤ). pos 0 <ℤ z) (sym (area_right x (le_yes r))) (before_first (wide s e) (high s e) v f l o (tall d) (x -ℤ s.0) (less x s.0 (pos f) k));
        right = λ d x k. subst (λ (z : ℤ). z <ℤ pos 0) (sym (area_right x (le_yes r))) (past_last (wide s e) (high s e) v f l o (tall d) (x -ℤ s.0) (more x s.0 (pos l) k));
      }
    where
      less : (x a f : ℤ) → x <ℤ (a +ℤ f) → (x -ℤ a) <ℤ f
      less x a f h =
          let g = lt_mk _ _ _ _ (simp mks at (rw (as_mk x, as_mk a, as_mk f) at h)) in
          rw (as_mk x, as_mk a, as_mk f) (simp mks (mk_lt _ _ _ _ (omega arith)))

      more : (x a l : ℤ) → (a +ℤ l) <ℤ x → l <ℤ (x -ℤ a)
      more x a l h =
          let g = lt_mk _ _ _ _ (simp mks at (rw (as_mk x, as_mk a, as_mk l) at h)) in
          rw (as_mk x, as_mk a, as_mk l) (simp mks (mk_lt _ _ _ _ (omega arith)))

  pub run_left : le_z s.0 e.0 ≡ false → Run s e y (s.0 -ℤ pos l) (s.0 -ℤ pos f)
  run_left r =
      let lo = sum_nat s.0 (s.0 -ℤ pos l) l (restored s.0 (pos l)) in
      let hi = sum_nat s.0 (s.0 -ℤ pos f) f (restored s.0 (pos f)) in
      record {
        some = nat_le (omega (arith, o.some));
        has = λ x h.
            let c = col_of x h in
            let cx = sum_nat s.0 x c.t (leftward s.0 e.0 c.t r ∙ ap (λ (z : ℤ). z +ℤ pos c.t) (sym c.is)) in
            (nat_le (omega (arith, c.high)), nat_le (omega (arith, c.low)));
        on = λ x a b.
            let xa : x ≤ℤ s.0 = nat_le (omega (arith, le_nat b)) in
            let cx = sum_nat s.0 x (nat_abs (s.0 -ℤ x)) (moves_to x s.0 xa) in
            let ct = sum_nat s.0 (col (nat_abs (s.0 -ℤ x))) (nat_abs (s.0 -ℤ x)) (leftward s.0 e.0 (nat_abs (s.0 -ℤ x)) r) in
            subst (λ (z : ℤ). HasPoint s e (z, y)) (nat_eq (omega arith))
            (has_col (nat_abs (s.0 -ℤ x)) (omega (arith, le_nat b)) (omega (arith, le_nat a)));
        left =
            λ d x k.
            subst (λ (z : ℤ). pos 0 <ℤ z) (sym (area_left x (le_no r)))
            (neg_flip_lt _ (pos 0) (past_last (wide s e) (high s e) v f l o (tall d) (s.0 -ℤ x) (less x s.0 (pos l) k)));
        right =
            λ d x k.
            subst (λ (z : ℤ). z <ℤ pos 0) (sym (area_left x (le_no r)))
            (neg_flip_lt (pos 0) _ (before_first (wide s e) (high s e) v f l o (tall d) (s.0 -ℤ x) (more x s.0 (pos f) k)));
      }
    where
      less : (x a l : ℤ) → x <ℤ (a -ℤ l) → l <ℤ (a -ℤ x)
      less x a l h =
          let g = lt_mk _ _ _ _ (simp mks at (rw (as_mk x, as_mk a, as_mk l) at h)) in
          rw (as_mk x, as_mk a, as_mk l) (simp mks (mk_lt _ _ _ _ (omega arith)))

      more : (x a f : ℤ) → (a -ℤ f) <ℤ x → (a -ℤ x) <ℤ f
      more x a f h =
          let g = lt_mk _ _ _ _ (simp mks at (rw (as_mk x, as_mk a, as_mk f) at h)) in
          rw (as_mk x, as_mk a, as_mk f) (simp mks (mk_lt _ _ _ _ (omega arith)))
