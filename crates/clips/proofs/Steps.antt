-- Laws of the steps of a line that a rectangle holds. Those of its major axis: one step is one place, and all other steps lead out of the rectangle; so do the points of a
-- connected line that come before the step before them, and from the step after them on. Those of both axes: exactly these lead into it. Assumes nothing.
use mathlib.Core.Path.{◌≡◌, refl, sym, ap, ap₂, subst, ◌∙◌}
use mathlib.Core.Bool.{Bool, true, false, cond, not, ◌&&◌}
use mathlib.Core.Logic.{◌⊎◌, inl, inr, ⊎_elim}
use Prim.Native.Nat.{ℕ, ◌+◌, ◌-◌, ◌≤◌, ◌<◌}
use native.Mathlib.Omega.{arith}
use borrow.Author.Tests.{le-leb, lt-leb, lt-ltb, le-ltb}
use lib.Dec.{leb, ltb}
use lib.IntN.{ℤ, pos, nat_abs, ◌+ℤ◌, ◌-ℤ◌, ◌*ℤ◌}
use lib.Signed.{le_z, lt_z}
use mir.Syntax.{w32}
use mir.Val.{to_z, of_z}
use Rattle.whole.specs.Interval.{between}
use Rattle.whole.proofs.Machine.{back}
use Rattle.whole.proofs.Tests.{true_and, lt_or_ge}
use Rattle.geometry.specs.declared.Point.{Point}
use Rattle.geometry.specs.Bound.{Coord}
use Rattle.geometry.proofs.Bound.{coord}
use Rattle.line.specs.Line.{toward, moves, wide, high, steep, major, minor, x_moves, y_moves, points, point_at}
use Rattle.line.specs.Reach.{reach_from}
use Rattle.line.proofs.Lengths.{major_by, minor_by, x_by, y_by}
use Rattle.line.proofs.Moves.{moves_minor}
use Rattle.line.proofs.Reach.{from_wide, from_exactly}
use Rattle.connected.specs.Connected.{beside_both, index_of, last_index, connected_points, points_before, alike, extra_at, connected_at}
use Rattle.connected.proofs.Indices.{Grows, View, normal, extra, view, index_more, grows_index, normal_at, extra_at_lem}
use Rattle.std.specs.declared.ops.Range.{Range}
use Rattle.windows.specs.declared.Window.{Window}
use Rattle.windows.specs.Interval.{Held, on_from, come, stays}
use Rattle.windows.specs.Window.{in_window}
use Rattle.windows.proofs.Interval.{is_step, held_exactly, one_interval, step_before, step_after}
use Rattle.clips.specs.declared.Axes.{Axes}
use Rattle.clips.specs.Steps.{axis_of, axis_from, axis_past, AxisSteps, AxesOf, LineSteps, Common, come_along, stays_along, InnerSteps}

-- ---- what is answered along an axis, with coordinates as they are read
pub held_read : {a z : ℤ} {low high : ℕ} {t : Range ℕ} → Coord a → Coord z
    → (let a' = to_z w32 (of_z w32 a) in let z' = to_z w32 (of_z w32 z) in Held a' (le_z a' z') low high (nat_abs (z' -ℤ a') + 1) t)
    → Held a (le_z a z) low high (nat_abs (z -ℤ a) + 1) t
held_read h g held = rw ((back (coord h)).is, (back (coord g)).is) at held

-- ---- the moves along both axes, b being the one that was found to be the major
pub axes_of : (q : Window) (s e : Point) (b : Bool) → steep s e ≡ b → {r : Axes} → r.major ≡ cond b (high s e) (wide s e) → r.minor ≡ cond b (wide s e) (high s e)
    → AxisSteps b q s e (cond b (high s e) (wide s e) + 1) r.along → AxisSteps (not b) q s e (cond b (wide s e) (high s e) + 1) r.across → AxesOf q s e r
axes_of q s e b axis M n h g =
    let long = major_by s e b axis in
    let short = minor_by s e b axis in
    record { length = M ∙ sym long; breadth = n ∙ sym short; along = rw (axis, long) h; across = rw (axis, short) g }

-- ---- the steps along the major axis
pub line_steps : (q : Window) (s e : Point) (b : Bool) → steep s e ≡ b → {t : Range ℕ} → AxisSteps b q s e (cond b (high s e) (wide s e) + 1) t → LineSteps q s e t
line_steps q s e b axis h = record { held = rw (axis, major_by s e b axis) h }

-- ---- along the major axis one step is one place
place_on : (s e : Point) (b : Bool) → steep s e ≡ b → (k : ℕ) → axis_of b (point_at s e k) ≡ on_from (le_z (axis_of b s) (axis_of b e)) (axis_of b s) k
unfolding point_at
place_on s e true axis k = ap (λ (n : ℕ). s.1 +ℤ toward s.1 e.1 *ℤ pos n) (y_by s e true axis k)
place_on s e false axis k = ap (λ (n : ℕ). s.0 +ℤ toward s.0 e.0 *ℤ pos n) (x_by s e false axis k)

-- whether the rectangle has the coordinate of a place
abbrev axis_held : Bool → Window → Point → Bool
axis_held b q p = between (pos (axis_from b q)) (pos (axis_past b q)) (axis_of b p)

abbrev major_held : Window → Point → Point → Point → Bool
major_held q s e p = axis_held (steep s e) q p

and_off : (a : Bool) {b : Bool} → b ≡ false → (a && b) ≡ false
and_off true h = h
and_off false h = refl

and_on : (a : Bool) → (a && true) ≡ a
and_on true = refl
and_on false = refl

-- ---- a place of which it has not that is outside
axis_out : (b : Bool) (q : Window) (p : Point) → axis_held b q p ≡ false → in_window q p.0 p.1 ≡ false
axis_out true q p h = and_off (between (pos q.left) (pos q.right) p.0) h
axis_out false q p h = ap (λ (x : Bool). x && between (pos q.top) (pos q.bottom) p.1) h

major_out : (q : Window) (s e p : Point) → major_held q s e p ≡ false → in_window q p.0 p.1 ≡ false
major_out q s e p = axis_out (steep s e) q p

module _ {q : Window} {s e : Point} {t : Range ℕ} (L : LineSteps q s e t) where
  exactly : (k : ℕ) → k < points s e → major_held q s e (point_at s e k) ≡ is_step t k
  exactly k few =
      ap (between (pos (axis_from (steep s e) q)) (pos (axis_past (steep s e) q))) (place_on s e (steep s e) refl k)
      ∙ sym (held_exactly (le_z (axis_of (steep s e) s) (axis_of (steep s e) e)) L.held k few)

  -- so no step before or after them leads into it
  off_before : (k : ℕ) → k < points s e → k < t.start → major_held q s e (point_at s e k) ≡ false
  off_before k few l = exactly k few ∙ step_before t k l

  off_after : (k : ℕ) → k < points s e → t.end ≤ k → major_held q s e (point_at s e k) ≡ false
  off_after k few l = exactly k few ∙ step_after t k l

  -- and none at all, if they are none
  off_none : t.end ≤ t.start → (k : ℕ) → k < points s e → major_held q s e (point_at s e k) ≡ false
  off_none none k few = ⊎_elim (off_before k few) (λ l. off_after k few (omega arith)) (lt_or_ge k t.start)

-- ---- a connected line. An extra point has the major coordinate of a normal one beside it
module _ (q : Window) (s e : Point) where
  extra_out : (k : ℕ) → major_held q s e (point_at s e k) ≡ false → major_held q s e (point_at s e (k + 1)) ≡ false → in_window q (extra_at s e k).0 (extra_at s e k).1 ≡ false
  unfolding extra_at
  extra_out k here next = by (alike s e) (steep s e) here next
    where
      by : (a b : Bool) → axis_held b q (point_at s e k) ≡ false → axis_held b q (point_at s e (k + 1)) ≡ false
          → in_window q (beside_both a (point_at s e k) (point_at s e (k + 1))).0 (beside_both a (point_at s e k) (point_at s e (k + 1))).1 ≡ false
      by true true h n = and_off (between (pos q.left) (pos q.right) (point_at s e k).0) n
      by true false h n = ap (λ (x : Bool). x && between (pos q.top) (pos q.bottom) (point_at s e (k + 1)).1) h
      by false true h n = and_off (between (pos q.left) (pos q.right) (point_at s e (k + 1)).0) h
      by false false h n = ap (λ (x : Bool). x && between (pos q.top) (pos q.bottom) (point_at s e k).1) n

  -- a point of a connected line by its step, or by the steps that it is between
  normal_outside : {i k : ℕ} → k ≤ major s e → i ≡ index_of s e k → major_held q s e (point_at s e k) ≡ false → in_window q (connected_at s e i).0 (connected_at s e i).1 ≡ false
  normal_outside {k = k} l here h =
      ap (λ (p : Point). in_window q p.0 p.1) (ap (connected_at s e) here ∙ normal_at s e k l) ∙ major_out q s e (point_at s e k) h

  extra_outside : {i k : ℕ} → k < major s e → Grows s e k → i ≡ index_of s e k + 1 → major_held q s e (point_at s e k) ≡ false → major_held q s e (point_at s e (k + 1)) ≡ false
      → in_window q (connected_at s e i).0 (connected_at s e i).1 ≡ false
  extra_outside {k = k} l g here h n = ap (λ (p : Point). in_window q p.0 p.1) (ap (connected_at s e) here ∙ extra_at_lem s e k l g) ∙ extra_out k h n

module _ {q : Window} {s e : Point} {t : Range ℕ} (L : LineSteps q s e t) where
  -- the points before the step before the first, and from the step after the last on, are outside
  pub connected_before : (i : ℕ) → i ≤ last_index s e → t.start ≤ major s e → i < index_of s e (t.start - 1) → in_window q (connected_at s e i).0 (connected_at s e i).1 ≡ false
  connected_before i last few l = by (view s e i last)
    where
      -- a step of an index before it is before it
      under : (k : ℕ) → index_of s e k ≤ i → k + 1 < t.start
      under k h = ⊎_elim (λ b. omega arith) (λ b. absurd (omega (arith, index_more s e (t.start - 1) k b))) (lt_or_ge k (t.start - 1))

      by : View s e i → in_window q (connected_at s e i).0 (connected_at s e i).1 ≡ false
      by (normal k m here) = let u = under k (omega arith) in normal_outside q s e m here (off_before L k (omega arith) (omega arith))
      by (extra k m g here) =
          let u = under k (omega arith) in extra_outside q s e m g here (off_before L k (omega arith) (omega arith)) (off_before L (k + 1) (omega arith) (omega arith))

  pub connected_after : (i : ℕ) → i ≤ last_index s e → points_before s e t.end ≤ i → in_window q (connected_at s e i).0 (connected_at s e i).1 ≡ false
  connected_after i last h = by (lt_or_ge (major s e) t.end)
    where
      -- a step of an index from it on is not before it
      over : index_of s e t.end ≤ i → (k : ℕ) → i < index_of s e (k + 1) → t.end ≤ k
      over g k l = ⊎_elim (λ b. absurd (omega (arith, index_more s e (k + 1) t.end (omega arith)))) (λ b. b) (lt_or_ge k t.end)

      within : index_of s e t.end ≤ i → View s e i → in_window q (connected_at s e i).0 (connected_at s e i).1 ≡ false
      within f (normal k m here) =
          let u = over f k (omega (arith, index_more s e k (k + 1) (omega arith))) in normal_outside q s e m here (off_after L k (omega arith) u)
      within f (extra k m g here) =
          let u = over f k (omega (arith, grows_index s e k g)) in
          extra_outside q s e m g here (off_after L k (omega arith) u) (off_after L (k + 1) (omega arith) (omega arith))

      before_is : (b : Bool) → ltb (major s e) t.end ≡ b → cond b (connected_points s e) (index_of s e t.end) ≤ i
      before_is b z = subst (λ (b : Bool). cond b (connected_points s e) (index_of s e t.end) ≤ i) z h

      by : (major s e < t.end) ⊎ (t.end ≤ major s e) → in_window q (connected_at s e i).0 (connected_at s e i).1 ≡ false
      by (inl l) = absurd (let z = before_is true (lt-ltb (major s e) t.end l) in omega arith)
      by (inr l) = within (before_is false (le-ltb (major s e) t.end l)) (view s e i last)

  -- and all, if there is no step
  pub connected_none : t.end ≤ t.start → (i : ℕ) → i ≤ last_index s e → in_window q (connected_at s e i).0 (connected_at s e i).1 ≡ false
  connected_none none i last = by (view s e i last)
    where
      by : View s e i → in_window q (connected_at s e i).0 (connected_at s e i).1 ≡ false
      by (normal k m here) = normal_outside q s e m here (off_none L none k (omega arith))
      by (extra k m g here) = extra_outside q s e m g here (off_none L none k (omega arith)) (off_none L none (k + 1) (omega arith))

-- ---- both axes: moves along the minor one, as steps
-- a step of a line of lengths M and n from which on it has made v moves along the minor axis
abbrev pub StepWith : ℕ → ℕ → ℕ → ℕ → Type 0
StepWith M n v f = (f ≤ M + 1) × ((k : ℕ) → k ≤ M → leb f k ≡ leb v (moves M n k))

-- past the last, for more moves than it makes
pub step_past : (M n v : ℕ) → n < v → StepWith M n v (M + 1)
step_past M n v h = (omega arith, λ k l. lt-leb (M + 1) k (omega arith) ∙ sym (lt-leb v (moves M n k) (omega (arith, moves_minor M n k l))))

pub step_first : (M n v : ℕ) → n ≤ M → v ≤ n → StepWith M n v (reach_from M n v)
step_first M n v s r = (omega (arith, from_wide M n v s r), λ k l. from_exactly M n v k s r)

-- ---- the moves along both axes, b being the major one
both_swap : (s t : Bool) → (s && t) ≡ (t && s)
both_swap true t = sym (and_on t)
both_swap false t = sym (and_off t refl)

in_order : (f : Bool → Bool) (b : Bool) → (f b && f (not b)) ≡ (f false && f true)
in_order f true = both_swap (f true) (f false)
in_order f false = refl

-- after k moves along it, there are so many along the other
minor_on : (s e : Point) (b : Bool) → steep s e ≡ b → (k : ℕ)
    → axis_of (not b) (point_at s e k) ≡ on_from (le_z (axis_of (not b) s) (axis_of (not b) e)) (axis_of (not b) s) (moves (major s e) (minor s e) k)
unfolding point_at x_moves y_moves
minor_on s e true axis k = ap (λ (b : Bool). s.0 +ℤ toward s.0 e.0 *ℤ pos (cond b (moves (major s e) (minor s e) k) k)) axis
minor_on s e false axis k = ap (λ (b : Bool). s.1 +ℤ toward s.1 e.1 *ℤ pos (cond b k (moves (major s e) (minor s e) k))) axis

module _ {q : Window} {s e : Point} {r : Axes} (A : AxesOf q s e r) where
  abbrev b : Bool
  b = steep s e

  pub inner_steps : {t : Range ℕ} → Common r.major r.minor r.along r.across t → InnerSteps q s e t
  inner_steps {t} common =
      record {
        first = omega (arith, both.first);
        most = omega (arith, both.most);
        begins =
            λ k few. both.begins k (omega arith)
            ∙ ap₂ ◌&&◌ (A.along.begins k few ∙ ap (come (le_z (axis_of b s) (axis_of b e)) (axis_from b q) (axis_past b q)) (sym (place_on s e b refl k)))
            (A.across.begins _ (made few) ∙ ap (come (le_z (axis_of (not b) s) (axis_of (not b) e)) (axis_from (not b) q) (axis_past (not b) q)) (sym (minor_on s e b refl k)))
            ∙ in_order (λ c. come_along c q s e (point_at s e k)) b;
        ends =
            λ k few. both.ends k (omega arith)
            ∙ ap₂ ◌&&◌ (A.along.ends k few ∙ ap (stays (le_z (axis_of b s) (axis_of b e)) (axis_from b q) (axis_past b q)) (sym (place_on s e b refl k)))
            (A.across.ends _ (made few) ∙ ap (stays (le_z (axis_of (not b) s) (axis_of (not b) e)) (axis_from (not b) q) (axis_past (not b) q)) (sym (minor_on s e b refl k)))
            ∙ in_order (λ c. stays_along c q s e (point_at s e k)) b;
      }
    where
      both : Common (major s e) (minor s e) r.along r.across t
      both = rw (A.length, A.breadth) at common

      made : {k : ℕ} → k < points s e → moves (major s e) (minor s e) k < minor s e + 1
      made {k} few = omega (arith, moves_minor (major s e) (minor s e) k (omega arith))

-- ---- exactly these steps lead into the rectangle
come_stays : (g : Bool) (low high : ℕ) (z : ℤ) → (come g low high z && stays g low high z) ≡ between (pos low) (pos high) z
come_stays true low high z = refl
come_stays false low high z = both_swap (lt_z z (pos high)) (le_z (pos low) z)

pairs : (a b c d : Bool) → ((a && b) && (c && d)) ≡ ((a && c) && (b && d))
pairs true b true d = refl
pairs true b false d = and_off b refl
pairs false b c d = refl

module _ {q : Window} {s e : Point} {t : Range ℕ} (I : InnerSteps q s e t) where
  inner_exactly : (k : ℕ) → k < points s e → in_window q (point_at s e k).0 (point_at s e k).1 ≡ is_step t k
  inner_exactly k few =
      let p = point_at s e k in
      sym (ap₂ ◌&&◌ (I.begins k few) (I.ends k few)
      ∙ pairs (come_along false q s e p) (come_along true q s e p) (stays_along false q s e p) (stays_along true q s e p)
      ∙ ap₂ ◌&&◌ (come_stays (le_z s.0 e.0) q.left q.right p.0) (come_stays (le_z s.1 e.1) q.top q.bottom p.1))

  pub inner_in : (k : ℕ) → t.start ≤ k → k < t.end → in_window q (point_at s e k).0 (point_at s e k).1 ≡ true
  inner_in k a b = inner_exactly k (omega (arith, I.most)) ∙ true_and (le-leb t.start k a) (lt-ltb k t.end b)

  pub out_before : (k : ℕ) → k < points s e → k < t.start → in_window q (point_at s e k).0 (point_at s e k).1 ≡ false
  out_before k few l = inner_exactly k few ∙ step_before t k l

  pub out_after : (k : ℕ) → k < points s e → t.end ≤ k → in_window q (point_at s e k).0 (point_at s e k).1 ≡ false
  out_after k few l = inner_exactly k few ∙ step_after t k l

  -- and none, if they are none
  pub out_none : t.end ≤ t.start → (k : ℕ) → k < points s e → in_window q (point_at s e k).0 (point_at s e k).1 ≡ false
  out_none none k few = ⊎_elim (out_before k few) (λ l. out_after k few (omega arith)) (lt_or_ge k t.start)

-- there is one such answer
pub inner_one : {q : Window} {s e : Point} {t u : Range ℕ} → InnerSteps q s e t → InnerSteps q s e u → t ≡ u
inner_one {t = t} {u} h g =
    one_interval h.first g.first h.most g.most (λ k few. h.begins k few ∙ sym (g.begins k few)) (λ k few. h.ends k few ∙ sym (g.ends k few))
