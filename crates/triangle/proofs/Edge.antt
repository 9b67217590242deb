-- What a triangle's edges give: a point of an edge lies in the box of its ends, each row of an edge that runs down has a run of points, points of
-- one row have no gap between them, and rows along such an edge never go up. Assumes nothing.
use mathlib.Core.Path.{◌≡◌, refl, sym, ap, ◌∙◌}
use mathlib.Core.Bool.{Bool, true, false, cond}
use Prim.Native.Nat.{ℕ, ◌≤◌}
use native.Mathlib.Omega.{arith}
use lib.IntN.{ℤ, pos, neg_ℤ, nat_abs, ◌+ℤ◌, ◌-ℤ◌, ◌*ℤ◌}
use lib.Signed.{◌≤ℤ◌, ◌<ℤ◌, le_z, ≤ℤ_refl}
use Rattle.whole.proofs.Difference.{as_mk, mks, mk_eq, le_nat, nat_le, sum_nat}
use Rattle.whole.proofs.Machine.{le_yes, le_no, size_neg}
use Rattle.whole.proofs.Order.{lt_sub, le_trans}
use Rattle.geometry.specs.declared.Point.{Point}
use Rattle.line.specs.Line.{toward, wide, high, steep, x_moves, y_moves, HasPoint}
use Rattle.line.proofs.Moves.{moves_minor}
use Rattle.line.proofs.Closed.{OnLine, has_off, off_moves, closed→}
use Rattle.triangle.specs.Offsets.{first_offset, last_offset}
use Rattle.triangle.proofs.Offsets.{Offsets, offsets}
use Rattle.triangle.proofs.Run.{Run, rightward, leftward, moves_to, run_right, run_left}

-- ---- in the box
-- the moves from a back to b
moves_back : (a b : ℤ) → b <ℤ a → a ≡ b +ℤ pos (nat_abs (b -ℤ a))
moves_back a b h = sum a b ∙ ap (λ (z : ℤ). b +ℤ z) (size_neg (b -ℤ a) (lt_sub b a h))
  where
    sum : (a b : ℤ) → a ≡ b +ℤ neg_ℤ (b -ℤ a)
    sum a b = rw (as_mk a, as_mk b) (simp mks (mk_eq _ _ _ _ (omega arith)))

-- z is n moves from a towards b, and no further than b: it lies between the two
module _ (a b z : ℤ) (n : ℕ) (is : z ≡ a +ℤ toward a b *ℤ pos n) (few : n ≤ nat_abs (b -ℤ a)) where
  axis_from_lem : (m : ℤ) → m ≤ℤ a → m ≤ℤ b → m ≤ℤ z
  axis_from_lem m ma mb = by (le_z a b) refl
    where
      by : (t : Bool) → le_z a b ≡ t → m ≤ℤ z
      by true h = nat_le (omega (arith, le_nat ma, sum_nat z a n (is ∙ rightward a b n h)))
      by false h =
          nat_le (omega (arith, le_nat mb, sum_nat a z n (leftward a b n h ∙ ap (λ (u : ℤ). u +ℤ pos n) (sym is)), sum_nat a b (nat_abs (b -ℤ a)) (moves_back a b (le_no h))))

  axis_to : (m : ℤ) → a ≤ℤ m → b ≤ℤ m → z ≤ℤ m
  axis_to m am bm = by (le_z a b) refl
    where
      by : (t : Bool) → le_z a b ≡ t → z ≤ℤ m
      by true h = nat_le (omega (arith, le_nat bm, sum_nat z a n (is ∙ rightward a b n h), sum_nat b a (nat_abs (b -ℤ a)) (moves_to a b (le_yes h))))
      by false h = nat_le (omega (arith, le_nat am, sum_nat a z n (leftward a b n h ∙ ap (λ (u : ℤ). u +ℤ pos n) (sym is))))

-- the moves of a point of a line are no more than its width and height
few_moves : (t : Bool) (w h u v : ℕ) → OnLine t w h u v → (u ≤ w) × (v ≤ h)
few_moves true w h u v o = (omega (arith, o.1, moves_minor h w v o.0), o.0)
few_moves false w h u v o = (o.0, omega (arith, o.1, moves_minor w h u o.0))

module _ (s e p : Point) (q : HasPoint s e p) where
  few : (x_moves s e q.step ≤ wide s e) × (y_moves s e q.step ≤ high s e)
  few = few_moves (steep s e) (wide s e) (high s e) _ _ (closed→ s e p _ _ (has_off s e p q) q)

  x_is : p.0 ≡ s.0 +ℤ toward s.0 e.0 *ℤ pos (x_moves s e q.step)
  x_is = off_moves s.0 e.0 p.0 _ (has_off s e p q).x

  y_is : p.1 ≡ s.1 +ℤ toward s.1 e.1 *ℤ pos (y_moves s e q.step)
  y_is = off_moves s.1 e.1 p.1 _ (has_off s e p q).y

  -- right of every column, and below every row, that both ends are right of or below; and so on
  pub edge_left : (z : ℤ) → z ≤ℤ s.0 → z ≤ℤ e.0 → z ≤ℤ p.0
  unfolding wide
  edge_left = axis_from_lem s.0 e.0 p.0 _ x_is few.0

  pub edge_right : (z : ℤ) → s.0 ≤ℤ z → e.0 ≤ℤ z → p.0 ≤ℤ z
  unfolding wide
  edge_right = axis_to s.0 e.0 p.0 _ x_is few.0

  pub edge_top : (z : ℤ) → z ≤ℤ s.1 → z ≤ℤ e.1 → z ≤ℤ p.1
  unfolding high
  edge_top = axis_from_lem s.1 e.1 p.1 _ y_is few.1

  pub edge_bottom : (z : ℤ) → s.1 ≤ℤ z → e.1 ≤ℤ z → p.1 ≤ℤ z
  unfolding high
  edge_bottom = axis_to s.1 e.1 p.1 _ y_is few.1

-- the rows of an edge that runs down
pub edge_rows : (s e p : Point) → s.1 ≤ℤ e.1 → HasPoint s e p → (s.1 ≤ℤ p.1) × (p.1 ≤ℤ e.1)
edge_rows s e p d q = (edge_top s e p q s.1 (≤ℤ_refl s.1) d, edge_bottom s e p q e.1 d (≤ℤ_refl e.1))

-- ---- each row of an edge that runs down has a run of points
module _ (s e : Point) (y : ℤ) (a : s.1 ≤ℤ y) (b : y ≤ℤ e.1) where
  -- the row is v below the start
  abbrev v : ℕ
  v = nat_abs (y -ℤ s.1)

  pub edge_row : v ≤ high s e
  unfolding high
  edge_row = omega (arith, le_nat b, sum_nat y s.1 v (moves_to s.1 y a), sum_nat e.1 s.1 (nat_abs (e.1 -ℤ s.1)) (moves_to s.1 e.1 (le_trans a b)))

  pub edge_offsets : Offsets (wide s e) (high s e) v (first_offset (wide s e) (high s e) v) (last_offset (wide s e) (high s e) v)
  edge_offsets = offsets (wide s e) (high s e) v edge_row

  -- counted from the start, towards the end
  pub edge_run : Run s e y
      (s.0 +ℤ cond (le_z s.0 e.0) (pos (first_offset (wide s e) (high s e) v)) (neg_ℤ (pos (last_offset (wide s e) (high s e) v))))
      (s.0 +ℤ cond (le_z s.0 e.0) (pos (last_offset (wide s e) (high s e) v)) (neg_ℤ (pos (first_offset (wide s e) (high s e) v))))
  edge_run = by (le_z s.0 e.0) refl
    where
      by : (t : Bool) → le_z s.0 e.0 ≡ t
          → Run s e y
          (s.0 +ℤ cond t (pos (first_offset (wide s e) (high s e) v)) (neg_ℤ (pos (last_offset (wide s e) (high s e) v))))
          (s.0 +ℤ cond t (pos (last_offset (wide s e) (high s e) v)) (neg_ℤ (pos (first_offset (wide s e) (high s e) v))))
      by true h = run_right s e y v _ _ (le_trans a b) (moves_to s.1 y a) edge_offsets h
      by false h = run_left s e y v _ _ (le_trans a b) (moves_to s.1 y a) edge_offsets h

pub record RunOn (s e : Point) (y : ℤ) : Type 0 where
  pub lo : ℤ
  pub hi : ℤ
  pub run : Run s e y lo hi

pub run_on : (s e : Point) (y : ℤ) → s.1 ≤ℤ y → y ≤ℤ e.1 → RunOn s e y
run_on s e y a b = record { lo = _; hi = _; run = edge_run s e y a b }

-- between two points of one row there is no gap
pub no_gap : (s e : Point) (y a x b : ℤ) → s.1 ≤ℤ e.1 → HasPoint s e (a, y) → HasPoint s e (b, y) → a ≤ℤ x → x ≤ℤ b → HasPoint s e (x, y)
no_gap s e y a x b d p q l u =
    let r = edge_rows s e (a, y) d p in
    let n = run_on s e y r.0 r.1 in
    n.run.on x (le_trans (n.run.has a p).0 l) (le_trans u (n.run.has b q).1)
