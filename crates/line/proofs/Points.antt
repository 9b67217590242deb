-- Laws of a line's points: both ends are points, neighbours differ by one along the major axis and by at most one along the minor one, each lies
-- within half a pixel of the ideal line, moving both ends moves every point; and the yes or no decides what it says. Assumes nothing.
use mathlib.Core.Path.{◌≡◌, refl, sym, ap, ap₂, subst, ◌∙◌}
use mathlib.Core.Bool.{Bool, true, false, cond, ◌||◌}
use mathlib.Core.Logic.{◌⊎◌, inl, inr, ⊎_elim}
use Prim.Native.Nat.{ℕ, zero, suc, ◌+◌, ◌*◌, ◌-◌, ◌≤◌, ◌<◌, max, min}
use native.Mathlib.Decide.{dec_lt}
use native.Mathlib.Nat.{le_refl}
use native.Mathlib.Omega.{arith}
use lib.Dec.{T, leb}
use lib.IntN.{ℤ, pos, negsuc, neg_ℤ, nat_abs, ◌+ℤ◌, ◌-ℤ◌, ◌*ℤ◌}
use lib.Signed.{le_z, ◌≤ℤ◌, ◌<ℤ◌}
use Rattle.whole.proofs.Decides.{Decides, never, decides_or, decides_map, decides_one, decides_le}
use Rattle.whole.proofs.Difference.{as_mk, mks, mk_eq, mk_le}
use Rattle.whole.proofs.Machine.{le_yes, le_no, neg_size, size_pos, size_neg}
use Rattle.whole.proofs.Order.{le_sub, lt_sub, le_move, move_le}
use Rattle.geometry.specs.declared.Point.{Point}
use Rattle.geometry.specs.Place.{same_place, moved}
use Rattle.geometry.proofs.Place.{same_decides, same_moved}
use Rattle.line.specs.Line.{toward, wide, high, steep, major, minor, moves, x_moves, y_moves, point_at, points, HasPoint, some_step, has_point}
use Rattle.line.specs.Walk.{place_at}
use Rattle.line.proofs.Moves.{moves_start, moves_end, moves_band, moves_one, moves_mono}
use Rattle.line.proofs.Lengths.{narrow, major_by, minor_by, x_by, y_by}

-- ---- along one axis: the place so many moves from a towards b
-- the moves that lead from a to b
pub reach : (a b : ℤ) → a +ℤ toward a b *ℤ pos (nat_abs (b -ℤ a)) ≡ b
reach a b = by (le_z a b) le_yes le_no
  where
    up : (a b : ℤ) → a +ℤ pos 1 *ℤ (b -ℤ a) ≡ b
    up a b = rw (as_mk a, as_mk b) (simp mks (mk_eq _ _ _ _ (omega arith)))

    down : (a b : ℤ) → a +ℤ negsuc 0 *ℤ neg_ℤ (b -ℤ a) ≡ b
    down a b = rw (as_mk a, as_mk b) (simp mks (mk_eq _ _ _ _ (omega arith)))

    by : (t : Bool) → (t ≡ true → a ≤ℤ b) → (t ≡ false → b <ℤ a) → a +ℤ cond t (pos 1) (negsuc 0) *ℤ pos (nat_abs (b -ℤ a)) ≡ b
    by true f g = ap (λ (z : ℤ). a +ℤ pos 1 *ℤ z) (sym (size_pos (b -ℤ a) (le_sub a b (f refl)))) ∙ up a b
    by false f g = ap (λ (z : ℤ). a +ℤ negsuc 0 *ℤ z) (sym (size_neg (b -ℤ a) (lt_sub b a (g refl)))) ∙ down a b

-- no move
pub stay : (a b : ℤ) → a +ℤ toward a b *ℤ pos 0 ≡ a
stay a b = still a (toward a b)
  where
    still : (a d : ℤ) → a +ℤ d *ℤ pos 0 ≡ a
    still a d = rw (as_mk a, as_mk d) (simp mks (mk_eq _ _ _ _ (omega arith)))

-- ---- both ends are points
module _ (s e : Point) where
  x_start : x_moves s e 0 ≡ 0
  x_start = by (steep s e) refl
    where
      by : (t : Bool) → steep s e ≡ t → x_moves s e 0 ≡ 0
      by true h = x_by s e true h 0 ∙ moves_start (high s e) (wide s e)
      by false h = x_by s e false h 0

  y_start : y_moves s e 0 ≡ 0
  y_start = by (steep s e) refl
    where
      by : (t : Bool) → steep s e ≡ t → y_moves s e 0 ≡ 0
      by true h = y_by s e true h 0
      by false h = y_by s e false h 0 ∙ moves_start (wide s e) (high s e)

  x_end : x_moves s e (major s e) ≡ wide s e
  unfolding x_moves
  x_end = by (steep s e) refl
    where
      by : (t : Bool) → steep s e ≡ t → cond t (moves (major s e) (minor s e) (major s e)) (major s e) ≡ wide s e
      by true h = moves_end (major s e) (minor s e) (narrow s e) ∙ minor_by s e true h
      by false h = major_by s e false h

  y_end : y_moves s e (major s e) ≡ high s e
  unfolding y_moves
  y_end = by (steep s e) refl
    where
      by : (t : Bool) → steep s e ≡ t → cond t (major s e) (moves (major s e) (minor s e) (major s e)) ≡ high s e
      by true h = major_by s e true h
      by false h = moves_end (major s e) (minor s e) (narrow s e) ∙ minor_by s e false h

  pub starts : point_at s e 0 ≡ s
  unfolding point_at
  starts =
      let x : s.0 +ℤ toward s.0 e.0 *ℤ pos (x_moves s e 0) ≡ s.0 = ap (λ (n : ℕ). s.0 +ℤ toward s.0 e.0 *ℤ pos n) x_start ∙ stay s.0 e.0 in
      let y : s.1 +ℤ toward s.1 e.1 *ℤ pos (y_moves s e 0) ≡ s.1 = ap (λ (n : ℕ). s.1 +ℤ toward s.1 e.1 *ℤ pos n) y_start ∙ stay s.1 e.1 in
      λ i. (x i, y i)

  pub ends : point_at s e (major s e) ≡ e
  unfolding point_at wide high
  ends =
      let x : s.0 +ℤ toward s.0 e.0 *ℤ pos (x_moves s e (major s e)) ≡ e.0 = ap (λ (n : ℕ). s.0 +ℤ toward s.0 e.0 *ℤ pos n) x_end ∙ reach s.0 e.0 in
      let y : s.1 +ℤ toward s.1 e.1 *ℤ pos (y_moves s e (major s e)) ≡ e.1 = ap (λ (n : ℕ). s.1 +ℤ toward s.1 e.1 *ℤ pos n) y_end ∙ reach s.1 e.1 in
      λ i. (x i, y i)

  pub has_start : HasPoint s e s
  has_start = record { step = 0; walked = omega arith; here = sym starts }

  pub has_end : HasPoint s e e
  has_end = record { step = major s e; walked = le_refl (major s e); here = sym ends }

-- ---- neighbours
-- d moves more or fewer
pub gap : (a b : ℤ) (n d : ℕ) → nat_abs ((a +ℤ toward a b *ℤ pos (n + d)) -ℤ (a +ℤ toward a b *ℤ pos n)) ≡ d
gap a b n d = ap nat_abs (apart a (toward a b) (pos n) (pos d)) ∙ by (le_z a b)
  where
    apart : (a c n d : ℤ) → (a +ℤ c *ℤ (n +ℤ d)) -ℤ (a +ℤ c *ℤ n) ≡ c *ℤ d
    apart a c n d = rw (as_mk a, as_mk c, as_mk n, as_mk d) (simp mks (mk_eq _ _ _ _ (omega arith)))

    by : (t : Bool) → nat_abs (cond t (pos 1) (negsuc 0) *ℤ pos d) ≡ d
    by true = omega arith
    by false = omega (arith, neg_size (pos (1 * d)))

-- along the major axis one, along the minor axis at most one
pub record Neighbours (steep : Bool) (p q : Point) : Type 0 where
  pub major : nat_abs (cond steep (q.1 -ℤ p.1) (q.0 -ℤ p.0)) ≡ 1
  pub minor : nat_abs (cond steep (q.0 -ℤ p.0) (q.1 -ℤ p.1)) ≤ 1

module _ (s e : Point) where
  one_more : (a b : ℤ) (k : ℕ) → nat_abs ((a +ℤ toward a b *ℤ pos (moves (major s e) (minor s e) (k + 1))) -ℤ (a +ℤ toward a b *ℤ pos (moves (major s e) (minor s e) k))) ≤ 1
  one_more a b k =
      let m : ℕ = moves (major s e) (minor s e) k in
      let m' : ℕ = moves (major s e) (minor s e) (k + 1) in
      let up : m ≤ m' = moves_mono (major s e) (minor s e) k (k + 1) (omega arith) in
      let one : m' ≤ m + 1 = moves_one (major s e) (minor s e) k (narrow s e) in
      let sum : m' ≡ m + (m' - m) = omega arith in
      subst (λ (n : ℕ). nat_abs ((a +ℤ toward a b *ℤ pos n) -ℤ (a +ℤ toward a b *ℤ pos m)) ≤ 1) (sym sum) (omega (arith, gap a b m (m' - m)))

  pub neighbours : (k : ℕ) → Neighbours (steep s e) (point_at s e k) (point_at s e (k + 1))
  unfolding point_at x_moves y_moves
  neighbours k = by (steep s e)
    where
      by : (t : Bool)
          → Neighbours t (place_at s e (cond t (moves (major s e) (minor s e) k) k) (cond t k (moves (major s e) (minor s e) k)))
          (place_at s e (cond t (moves (major s e) (minor s e) (k + 1)) (k + 1)) (cond t (k + 1) (moves (major s e) (minor s e) (k + 1))))
      by true = record { major = gap s.1 e.1 k 1; minor = one_more s.0 e.0 k }
      by false = record { major = gap s.0 e.0 k 1; minor = one_more s.1 e.1 k }

  -- ---- within half a pixel: at step k the ideal line is minor · k / major along the minor axis
  pub half_pixel : (k : ℕ) → k ≤ major s e
      → (2 * major s e * moves (major s e) (minor s e) k ≤ 2 * minor s e * k + major s e) × (2 * minor s e * k ≤ 2 * major s e * moves (major s e) (minor s e) k + major s e)
  half_pixel k h =
      let b = moves_band (major s e) (minor s e) k (narrow s e) h in
      (omega (arith, b.low), b.high)

-- ---- the moves along either axis never fall
module _ (s e : Point) where
  pub x_mono : (i j : ℕ) → i ≤ j → x_moves s e i ≤ x_moves s e j
  x_mono i j h = by (steep s e) refl
    where
      by : (t : Bool) → steep s e ≡ t → x_moves s e i ≤ x_moves s e j
      by true t = omega (arith, x_by s e true t i, x_by s e true t j, moves_mono (high s e) (wide s e) i j h)
      by false t = omega (arith, x_by s e false t i, x_by s e false t j)

  pub y_mono : (i j : ℕ) → i ≤ j → y_moves s e i ≤ y_moves s e j
  y_mono i j h = by (steep s e) refl
    where
      by : (t : Bool) → steep s e ≡ t → y_moves s e i ≤ y_moves s e j
      by true t = omega (arith, y_by s e true t i, y_by s e true t j)
      by false t = omega (arith, y_by s e false t i, y_by s e false t j, moves_mono (wide s e) (high s e) i j h)

  -- along a line that runs down, rows never go up
  pub rows_down : s.1 ≤ℤ e.1 → (i j : ℕ) → i ≤ j → (point_at s e i).1 ≤ℤ (point_at s e j).1
  unfolding point_at
  rows_down d i j h = by (le_z s.1 e.1) d.le
    where
      down : (s : ℤ) (a b : ℕ) → a ≤ b → (s +ℤ pos 1 *ℤ pos a) ≤ℤ (s +ℤ pos 1 *ℤ pos b)
      down s a b h = rw (as_mk s) (simp mks (mk_le _ _ _ _ (omega arith)))

      by : (t : Bool) → T t → (s.1 +ℤ cond t (pos 1) (negsuc 0) *ℤ pos (y_moves s e i)) ≤ℤ (s.1 +ℤ cond t (pos 1) (negsuc 0) *ℤ pos (y_moves s e j))
      by true t = down s.1 (y_moves s e i) (y_moves s e j) (y_mono i j h)
      by false t = absurd t

-- ---- moving both ends moves every point
same_apart : (a b v : ℤ) → (b +ℤ v) -ℤ (a +ℤ v) ≡ b -ℤ a
same_apart a b v = rw (as_mk a, as_mk b, as_mk v) (simp mks (mk_eq _ _ _ _ (omega arith)))

pub same_way : (a b v : ℤ) → toward (a +ℤ v) (b +ℤ v) ≡ toward a b
same_way a b v =
    ap (λ (t : Bool). cond t (pos 1) (negsuc 0))
    (decides_one (le_z (a +ℤ v) (b +ℤ v)) (le_z a b) (decides_le (a +ℤ v) (b +ℤ v)) (decides_map (decides_le a b) (le_move a b v) (move_le a b v)))

-- of any sequence of points, some step leads to a place exactly if, all moved, it leads to the place moved
pub some_moved : (v : Point) (f g : ℕ → Point) (p : Point) (n : ℕ) → ((k : ℕ) → f k ≡ moved v (g k)) → some_step f (moved v p) n ≡ some_step g p n
some_moved v f g p zero h = refl
some_moved v f g p (suc n) h = ap₂ ◌||◌ (ap (same_place (moved v p)) (h n) ∙ same_moved v p (g n)) (some_moved v f g p n h)

module _ (s e v : Point) where
  wide_moved : wide (moved v s) (moved v e) ≡ wide s e
  unfolding wide
  wide_moved = ap nat_abs (same_apart s.0 e.0 v.0)

  high_moved : high (moved v s) (moved v e) ≡ high s e
  unfolding high
  high_moved = ap nat_abs (same_apart s.1 e.1 v.1)

  pub major_moved : major (moved v s) (moved v e) ≡ major s e
  unfolding major
  major_moved = λ i. max (wide_moved i) (high_moved i)

  pub minor_moved : minor (moved v s) (moved v e) ≡ minor s e
  unfolding minor
  minor_moved = λ i. min (wide_moved i) (high_moved i)

  x_moves_moved : (k : ℕ) → x_moves (moved v s) (moved v e) k ≡ x_moves s e k
  unfolding x_moves
  x_moves_moved k = λ i. cond (leb (wide_moved i) (high_moved i)) (moves (major_moved i) (minor_moved i) k) k

  y_moves_moved : (k : ℕ) → y_moves (moved v s) (moved v e) k ≡ y_moves s e k
  unfolding y_moves
  y_moves_moved k = λ i. cond (leb (wide_moved i) (high_moved i)) k (moves (major_moved i) (minor_moved i) k)

  axis_moved : (a b v : ℤ) {m n : ℕ} → m ≡ n → (a +ℤ v) +ℤ toward (a +ℤ v) (b +ℤ v) *ℤ pos m ≡ (a +ℤ toward a b *ℤ pos n) +ℤ v
  axis_moved a b v {m} {n} h = ap₂ (λ (d : ℤ) (x : ℕ). (a +ℤ v) +ℤ d *ℤ pos x) (same_way a b v) h ∙ swap a v (toward a b *ℤ pos n)
    where
      swap : (a v d : ℤ) → (a +ℤ v) +ℤ d ≡ (a +ℤ d) +ℤ v
      swap a v d = rw (as_mk a, as_mk v, as_mk d) (simp mks (mk_eq _ _ _ _ (omega arith)))

  pub point_moved : (k : ℕ) → point_at (moved v s) (moved v e) k ≡ moved v (point_at s e k)
  unfolding point_at
  point_moved k = λ i. (axis_moved s.0 e.0 v.0 (x_moves_moved k) i, axis_moved s.1 e.1 v.1 (y_moves_moved k) i)

  pub has_moved : (p : Point) → HasPoint s e p → HasPoint (moved v s) (moved v e) (moved v p)
  has_moved p h = record { step = h.step; walked = subst (λ (n : ℕ). h.step ≤ n) (sym major_moved) h.walked; here = ap (moved v) h.here ∙ sym (point_moved h.step) }

  pub has_same : (p : Point) → has_point (moved v s) (moved v e) (moved v p) ≡ has_point s e p
  unfolding has_point
  has_same p =
      ap (λ (n : ℕ). some_step (point_at (moved v s) (moved v e)) (moved v p) (n + 1)) major_moved
      ∙ some_moved v (point_at (moved v s) (moved v e)) (point_at s e) p (points s e) point_moved

-- ---- the yes or no decides what it says
-- one of the steps below n leads to p
pub record Leads (f : ℕ → Point) (p : Point) (n : ℕ) : Type 0 where
  pub k : ℕ
  pub below : k < n
  pub here : p ≡ f k

last_or : (f : ℕ → Point) (p : Point) (n : ℕ) (h : Leads f p (suc n)) → Dec (h.k < n) → (p ≡ f n) ⊎ Leads f p n
last_or f p n h (yes l) = inr (record { k = h.k; below = l; here = h.here })
last_or f p n h (no l) = inl (h.here ∙ ap f (omega (arith, h.below)))

pub some_decides : (f : ℕ → Point) (p : Point) (n : ℕ) → Decides (some_step f p n) (Leads f p n)
some_decides f p zero = never (λ h. omega (arith, h.below))
some_decides f p (suc n) =
    decides_map (decides_or (same_place p (f n)) (some_step f p n) (same_decides p (f n)) (some_decides f p n))
    (⊎_elim (λ e. record { k = n; below = omega arith; here = e }) (λ h. record { k = h.k; below = omega (arith, h.below); here = h.here }))
    (λ h. last_or f p n h (dec_lt h.k n))

pub has_decides : (s e p : Point) → Decides (has_point s e p) (HasPoint s e p)
unfolding has_point
has_decides s e p =
    decides_map (some_decides (point_at s e) p (points s e)) (λ h. record { step = h.k; walked = omega (arith, h.below); here = h.here })
    (λ h. record { k = h.step; below = omega (arith, h.walked); here = h.here })
