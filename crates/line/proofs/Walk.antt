-- Laws of a walker: how large its numbers are, where it stands, and what a major and a minor move do. That its k-th point is the rule's
-- rests on one thing: its error keeps m within the band that fixes it. Assumes nothing.
use mathlib.Core.Path.{◌≡◌, refl, sym, ap, ap₂, subst, ◌∙◌}
use mathlib.Core.Bool.{Bool, true, false, cond}
use Prim.Native.Nat.{ℕ, zero, suc, ◌+◌, ◌*◌, ◌-◌, ◌≤◌, ◌<◌}
use native.Mathlib.Nat.{mul-le-mul_right, lt_of_mul-lt-mul_left}
use native.Mathlib.Omega.{arith}
use borrow.Author.Tests.{ltb-true, ltb-false}
use lib.Dec.{T, ltb}
use lib.IntN.{ℤ, pos, nat_abs, ◌+ℤ◌, ◌-ℤ◌, ◌*ℤ◌, zero-*ℤ, +ℤ_idr}
use lib.Signed.{lt_z, ◌<ℤ◌}
use mir.Syntax.{w32}
use mir.Val.{to_z, of_z}
use Rattle.whole.proofs.Decides.{decides_one, decides_map, decides_lt, decides_ltb}
use Rattle.whole.proofs.Difference.{as_mk, mks, mk_eq, lt_nat, nat_lt, restored}
use Rattle.whole.proofs.Machine.{Has, read, add_size, mul_size, minus_within}
use Rattle.whole.proofs.Order.{lt_move, move_lt}
use Rattle.geometry.specs.declared.Point.{Point}
use Rattle.geometry.specs.Bound.{Coord, Bounded}
use Rattle.geometry.proofs.Bound.{coord_size}
use Rattle.line.specs.declared.Course.{Course}
use Rattle.line.specs.declared.Walker.{Walker}
use Rattle.line.specs.Line.{toward, wide, high, steep, major, minor, moves, x_moves, y_moves, point_at}
use Rattle.line.specs.Walk.{CourseOf, standing, Stands, is_due, DueAt, WalkerAt}
use Rattle.line.proofs.Moves.{Band, moves_is, moves_band, moves_few}
use Rattle.line.proofs.Lengths.{narrow, major_by, minor_by, major_size, minor_size, toward_size}

-- ---- the parameters of a line, by its major axis
module _ {s e : Point} {c : Course} (b : Bool) (axis : steep s e ≡ b) where
  pub course_by : c.threshold ≡ pos (cond b (high s e) (wide s e)) → c.up ≡ pos (2 * cond b (wide s e) (high s e)) → c.down ≡ pos (2 * cond b (high s e) (wide s e))
      → c.xmajor ≡ cond b (pos 0) (toward s.0 e.0) → c.ymajor ≡ cond b (toward s.1 e.1) (pos 0)
      → c.xminor ≡ cond b (toward s.0 e.0) (pos 0) → c.yminor ≡ cond b (pos 0) (toward s.1 e.1) → CourseOf s e c
  course_by th u d xa ya xi yi =
      record {
        threshold = th ∙ ap pos (sym (major_by s e b axis));
        up = u ∙ ap (λ (n : ℕ). pos (2 * n)) (sym (minor_by s e b axis));
        down = d ∙ ap (λ (n : ℕ). pos (2 * n)) (sym (major_by s e b axis));
        major_x = xa ∙ ap (λ (t : Bool). cond t (pos 0) (toward s.0 e.0)) (sym axis);
        major_y = ya ∙ ap (λ (t : Bool). cond t (toward s.1 e.1) (pos 0)) (sym axis);
        minor_x = xi ∙ ap (λ (t : Bool). cond t (toward s.0 e.0) (pos 0)) (sym axis);
        minor_y = yi ∙ ap (λ (t : Bool). cond t (pos 0) (toward s.1 e.1)) (sym axis);
      }

-- ---- sizes
cond_size : (b : Bool) (y z : ℤ) → nat_abs y ≤ 1 → nat_abs z ≤ 1 → nat_abs (cond b y z) ≤ 1
cond_size true y z h k = h
cond_size false y z h k = k

place_size : (s a b : ℤ) (k m : ℕ) → nat_abs a ≤ 1 → nat_abs b ≤ 1 → nat_abs (s +ℤ a *ℤ pos k +ℤ b *ℤ pos m) ≤ nat_abs s + k + m
place_size s a b k m h g =
    omega (arith, add_size (s +ℤ a *ℤ pos k) (b *ℤ pos m), add_size s (a *ℤ pos k), mul_size a (pos k), mul_size b (pos m), mul-le-mul_right k h, mul-le-mul_right m g)

-- a field that is read: it is z, which is y, and y is at most n from 0
read_as : {z y : ℤ} {n : ℕ} → z ≡ y → nat_abs y ≤ n → T (ltb n 2147483648) → Has w32 (to_z w32 (of_z w32 z)) z n
read_as {z} {n = n} e h t = read z (subst (λ (v : ℤ). nat_abs v ≤ n) (sym e) h) t

module _ {s e : Point} {c : Course} (h : CourseOf s e c) where
  pub xmajor_read : Has w32 (to_z w32 (of_z w32 c.xmajor)) c.xmajor 1
  xmajor_read = read_as h.major_x (cond_size (steep s e) (pos 0) (toward s.0 e.0) (omega arith) (toward_size s.0 e.0)) tt

  pub ymajor_read : Has w32 (to_z w32 (of_z w32 c.ymajor)) c.ymajor 1
  ymajor_read = read_as h.major_y (cond_size (steep s e) (toward s.1 e.1) (pos 0) (toward_size s.1 e.1) (omega arith)) tt

  pub xminor_read : Has w32 (to_z w32 (of_z w32 c.xminor)) c.xminor 1
  xminor_read = read_as h.minor_x (cond_size (steep s e) (toward s.0 e.0) (pos 0) (toward_size s.0 e.0) (omega arith)) tt

  pub yminor_read : Has w32 (to_z w32 (of_z w32 c.yminor)) c.yminor 1
  yminor_read = read_as h.minor_y (cond_size (steep s e) (pos 0) (toward s.1 e.1) (omega arith) (toward_size s.1 e.1)) tt

  module _ (start : Bounded s) (end : Bounded e) where
    -- the lengths, as a course has them
    pub threshold_of_lem : Has w32 c.threshold (pos (major s e)) 262144
    threshold_of_lem = record { is = h.threshold; size = major_size start end; room = omega arith }

    pub up_of : Has w32 c.up (pos (2 * minor s e)) 524288
    up_of = record { is = h.up; size = omega (arith, minor_size start end); room = omega arith }

    pub down_of : Has w32 c.down (pos (2 * major s e)) 524288
    down_of = record { is = h.down; size = omega (arith, major_size start end); room = omega arith }

    pub threshold_read : Has w32 (to_z w32 (of_z w32 c.threshold)) c.threshold 262144
    threshold_read = read_as h.threshold (major_size start end) tt

    pub up_read : Has w32 (to_z w32 (of_z w32 c.up)) c.up 524288
    up_read = read_as h.up (omega (arith, minor_size start end)) tt

    pub down_read : Has w32 (to_z w32 (of_z w32 c.down)) c.down 524288
    down_read = read_as h.down (omega (arith, major_size start end)) tt

module _ {s e : Point} {k m : ℕ} {w : Walker} (h : Stands s e k m w) where
  -- a coordinate of the walker, after k steps of which m were minor ones
  coord_read : {v : ℤ} (z a b : ℤ) → v ≡ z +ℤ a *ℤ pos k +ℤ b *ℤ pos m → Coord z → nat_abs a ≤ 1 → nat_abs b ≤ 1 → k ≤ major s e + 1
      → Has w32 (to_z w32 (of_z w32 v)) v 655362
  coord_read z a b v-is near a_small b-small l =
      read_as v-is (omega (arith, place_size z a b k m a_small b-small, coord_size near, major_size h.start h.end, h.few)) tt

  pub x_read : k ≤ major s e + 1 → Has w32 (to_z w32 (of_z w32 w.x)) w.x 655362
  x_read l = coord_read s.0 w.course.xmajor w.course.xminor h.x h.start.x (xmajor_read h.course).size (xminor_read h.course).size l

  pub y_read : k ≤ major s e + 1 → Has w32 (to_z w32 (of_z w32 w.y)) w.y 655362
  y_read l = coord_read s.1 w.course.ymajor w.course.yminor h.y h.start.y (ymajor_read h.course).size (yminor_read h.course).size l

  pub error_read : 2 * minor s e * k ≤ 2 * major s e * m + major s e + 2 * minor s e → Has w32 (to_z w32 (of_z w32 w.error)) w.error 786432
  error_read u =
      read_as h.error
      (minus_within (2 * minor s e * k) (2 * major s e * m) 786432 (omega (arith, h.low, major_size h.start h.end, minor_size h.start h.end))
      (omega (arith, h.low, major_size h.start h.end))) tt

-- ---- the point it stands at
-- the rule's m leads to the rule's point
pub standing_point : (s e : Point) (k : ℕ) → standing s e k (moves (major s e) (minor s e) k) ≡ point_at s e k
unfolding x_moves y_moves point_at
standing_point s e k = refl

axis_x : (b : Bool) (s d : ℤ) (k m : ℕ) → s +ℤ cond b (pos 0) d *ℤ pos k +ℤ cond b d (pos 0) *ℤ pos m ≡ s +ℤ d *ℤ pos (cond b m k)
axis_x true s d k m = ap (λ (z : ℤ). s +ℤ z +ℤ d *ℤ pos m) (zero-*ℤ (pos k)) ∙ ap (λ (z : ℤ). z +ℤ d *ℤ pos m) (+ℤ_idr s)
axis_x false s d k m = ap (λ (z : ℤ). s +ℤ d *ℤ pos k +ℤ z) (zero-*ℤ (pos m)) ∙ +ℤ_idr (s +ℤ d *ℤ pos k)

axis_y : (b : Bool) (s d : ℤ) (k m : ℕ) → s +ℤ cond b d (pos 0) *ℤ pos k +ℤ cond b (pos 0) d *ℤ pos m ≡ s +ℤ d *ℤ pos (cond b k m)
axis_y true s d k m = ap (λ (z : ℤ). s +ℤ d *ℤ pos k +ℤ z) (zero-*ℤ (pos m)) ∙ +ℤ_idr (s +ℤ d *ℤ pos k)
axis_y false s d k m = ap (λ (z : ℤ). s +ℤ z +ℤ d *ℤ pos m) (zero-*ℤ (pos k)) ∙ ap (λ (z : ℤ). z +ℤ d *ℤ pos m) (+ℤ_idr s)

-- so many moves by the line's parameters
module _ {s e : Point} {c : Course} (course : CourseOf s e c) (k m : ℕ) where
  pub course_x : s.0 +ℤ c.xmajor *ℤ pos k +ℤ c.xminor *ℤ pos m ≡ (standing s e k m).0
  course_x = ap₂ (λ (a b : ℤ). s.0 +ℤ a *ℤ pos k +ℤ b *ℤ pos m) course.major_x course.minor_x ∙ axis_x (steep s e) s.0 (toward s.0 e.0) k m

  pub course_y : s.1 +ℤ c.ymajor *ℤ pos k +ℤ c.yminor *ℤ pos m ≡ (standing s e k m).1
  course_y = ap₂ (λ (a b : ℤ). s.1 +ℤ a *ℤ pos k +ℤ b *ℤ pos m) course.major_y course.minor_y ∙ axis_y (steep s e) s.1 (toward s.1 e.1) k m

module _ {s e : Point} {k m : ℕ} {w : Walker} (h : Stands s e k m w) where
  pub standing_x : w.x ≡ (standing s e k m).0
  standing_x = h.x ∙ course_x h.course k m

  pub standing_y : w.y ≡ (standing s e k m).1
  standing_y = h.y ∙ course_y h.course k m

module _ {s e : Point} {k : ℕ} {w : Walker} (at : WalkerAt s e k w) (walked : k ≤ major s e) where
  pub m_is : at.m ≡ moves (major s e) (minor s e) k
  m_is = sym (moves_is (major s e) (minor s e) k at.m walked at.stands.few (record { low = at.stands.low; high = at.near }))

  here : standing s e k at.m ≡ point_at s e k
  here = ap (standing s e k) m_is ∙ standing_point s e k

  pub stands_x : w.x ≡ (point_at s e k).0
  stands_x = standing_x at.stands ∙ ap (λ (p : Point). p.0) here

  pub stands_y : w.y ≡ (point_at s e k).1
  stands_y = standing_y at.stands ∙ ap (λ (p : Point). p.1) here

-- ---- moves over ℤ
module _ {u v : ℤ} (s a b : ℤ) (k m : ℕ) where
  after_major : u ≡ v +ℤ a → v ≡ s +ℤ a *ℤ pos k +ℤ b *ℤ pos m → u ≡ s +ℤ a *ℤ pos (k + 1) +ℤ b *ℤ pos m
  after_major e f = e ∙ ap (λ (z : ℤ). z +ℤ a) f ∙ more s a b (pos k) (pos m)
    where
      more : (s a b k m : ℤ) → (s +ℤ a *ℤ k +ℤ b *ℤ m) +ℤ a ≡ s +ℤ a *ℤ (k +ℤ pos 1) +ℤ b *ℤ m
      more s a b k m = rw (as_mk s, as_mk a, as_mk b, as_mk k, as_mk m) (simp mks (mk_eq _ _ _ _ (omega arith)))

  after_minor : u ≡ v +ℤ b → v ≡ s +ℤ a *ℤ pos k +ℤ b *ℤ pos m → u ≡ s +ℤ a *ℤ pos k +ℤ b *ℤ pos (m + 1)
  after_minor e f = e ∙ ap (λ (z : ℤ). z +ℤ b) f ∙ more s a b (pos k) (pos m)
    where
      more : (s a b k m : ℤ) → (s +ℤ a *ℤ k +ℤ b *ℤ m) +ℤ b ≡ s +ℤ a *ℤ k +ℤ b *ℤ (m +ℤ pos 1)
      more s a b k m = rw (as_mk s, as_mk a, as_mk b, as_mk k, as_mk m) (simp mks (mk_eq _ _ _ _ (omega arith)))

less : (x y z : ℤ) → (x -ℤ y) -ℤ z ≡ x -ℤ (y +ℤ z)
less x y z = rw (as_mk x, as_mk y, as_mk z) (simp mks (mk_eq _ _ _ _ (omega arith)))

more : (x y z : ℤ) → (x -ℤ y) +ℤ z ≡ (x +ℤ z) -ℤ y
more x y z = rw (as_mk x, as_mk y, as_mk z) (simp mks (mk_eq _ _ _ _ (omega arith)))

-- ---- moves over ℕ: M major, n minor, k steps, m minor moves
twice_more : (n k : ℕ) → 2 * n * k + 2 * n ≡ 2 * n * (k + 1)
twice_more n k = omega arith

-- a minor move is due on a line of some length alone
pub due_some : (M n k m : ℕ) → n ≤ M → 2 * M * m + M < 2 * n * k → 0 < M
due_some zero zero k m h t = absurd (omega arith)
due_some zero (suc n) k m h t = absurd (omega arith)
due_some (suc M) n k m h t = omega arith

-- a minor move that is due: there are still no more minor moves than steps
still_few : (M n k m : ℕ) → n ≤ M → 2 * M * m + M < 2 * n * k → m + 1 ≤ k
still_few M n k m h t =
    let a : n * k ≤ M * k = mul-le-mul_right k h in
    let p : 0 < M = due_some M n k m h t in
    let b : M * m < M * k = omega arith in
    let d : m < k = lt_of_mul-lt-mul_left M b in
    omega arith

still_low : (M n k m : ℕ) → 2 * M * m + M < 2 * n * k → 2 * M * (m + 1) ≤ 2 * n * k + (M - 1)
still_low M n k m h = omega arith

then_near : (M n k m : ℕ) → n ≤ M → 2 * n * k ≤ 2 * M * m + M + 2 * n → 2 * n * k ≤ 2 * M * (m + 1) + M
then_near M n k m h u = omega arith

-- a major move
later_low : (M n k m : ℕ) → 2 * M * m ≤ 2 * n * k + (M - 1) → 2 * M * m ≤ 2 * n * (k + 1) + (M - 1)
later_low M n k m h = omega arith

then_due : (M n k m : ℕ) → 2 * n * k ≤ 2 * M * m + M → 2 * n * (k + 1) ≤ 2 * M * m + M + 2 * n
then_due M n k m h = omega arith

-- ---- the walker's test and its moves
module _ {s e : Point} {k m : ℕ} {w : Walker} (st : Stands s e k m w) where
  -- its error is above the threshold exactly if a minor move is due
  pub due_test : lt_z w.course.threshold w.error ≡ is_due (major s e) (minor s e) k m
  due_test =
      let M = major s e in
      let x = 2 * minor s e * k in
      let y = 2 * M * m in
      let same : pos x ≡ (pos x -ℤ pos y) +ℤ pos y = restored (pos x) (pos y) in
      ap₂ lt_z st.course.threshold st.error
      ∙ decides_one _ (is_due M (minor s e) k m)
      (decides_map (decides_lt (pos M) (pos x -ℤ pos y))
      (λ h. omega (arith, lt_nat (subst (λ (z : ℤ). (pos M +ℤ pos y) <ℤ z) (sym same) (lt_move (pos M) (pos x -ℤ pos y) (pos y) h))))
      (λ h. move_lt (pos M) (pos x -ℤ pos y) (pos y) (subst (λ (z : ℤ). (pos M +ℤ pos y) <ℤ z) same (nat_lt (omega arith)))))
      (decides_ltb (y + M) x)

  -- to a walker r of the same course
  module _ {r : Walker} (same : r.course ≡ w.course) where
    -- the minor move, where it is due
    pub settles : is_due (major s e) (minor s e) k m ≡ true
        → r.x ≡ w.x +ℤ w.course.xminor → r.y ≡ w.y +ℤ w.course.yminor → r.error ≡ w.error -ℤ w.course.down → Stands s e k (m + 1) r
    settles t rx ry re =
        let M = major s e in
        let n = minor s e in
        let due : 2 * M * m + M < 2 * n * k = ltb-true _ _ t in
        record {
          start = st.start;
          end = st.end;
          course = subst (CourseOf s e) (sym same) st.course;
          x = after_minor s.0 w.course.xmajor w.course.xminor k m rx st.x ∙ ap (λ (c : Course). s.0 +ℤ c.xmajor *ℤ pos k +ℤ c.xminor *ℤ pos (m + 1)) (sym same);
          y = after_minor s.1 w.course.ymajor w.course.yminor k m ry st.y ∙ ap (λ (c : Course). s.1 +ℤ c.ymajor *ℤ pos k +ℤ c.yminor *ℤ pos (m + 1)) (sym same);
          error = re ∙ ap₂ ◌-ℤ◌ st.error st.course.down ∙ less (pos (2 * n * k)) (pos (2 * M * m)) (pos (2 * M)) ∙ ap (λ (a : ℕ). pos (2 * n * k) -ℤ pos a) (twice_more M m);
          few = still_few M n k m (narrow s e) due;
          low = still_low M n k m due;
        }

    -- the major move
    pub advances : r.x ≡ w.x +ℤ w.course.xmajor → r.y ≡ w.y +ℤ w.course.ymajor → r.error ≡ w.error +ℤ w.course.up → Stands s e (k + 1) m r
    advances rx ry re =
        let M = major s e in
        let n = minor s e in
        record {
          start = st.start;
          end = st.end;
          course = subst (CourseOf s e) (sym same) st.course;
          x = after_major s.0 w.course.xmajor w.course.xminor k m rx st.x ∙ ap (λ (c : Course). s.0 +ℤ c.xmajor *ℤ pos (k + 1) +ℤ c.xminor *ℤ pos m) (sym same);
          y = after_major s.1 w.course.ymajor w.course.yminor k m ry st.y ∙ ap (λ (c : Course). s.1 +ℤ c.ymajor *ℤ pos (k + 1) +ℤ c.yminor *ℤ pos m) (sym same);
          error = re ∙ ap₂ ◌+ℤ◌ st.error st.course.up ∙ more (pos (2 * n * k)) (pos (2 * M * m)) (pos (2 * n)) ∙ ap (λ (a : ℕ). pos a -ℤ pos (2 * M * m)) (twice_more n k);
          few = omega (arith, st.few);
          low = later_low M n k m st.low;
        }

-- the error before the major move says the same of the minor move after it
less_test : (t u z : ℤ) → lt_z (t -ℤ u) z ≡ lt_z t (z +ℤ u)
less_test t u z =
    decides_one _ _
    (decides_map (decides_lt (t -ℤ u) z) (λ h. subst (λ (x : ℤ). x <ℤ (z +ℤ u)) (sym (restored t u)) (lt_move (t -ℤ u) z u h))
    (λ h. move_lt (t -ℤ u) z u (subst (λ (x : ℤ). x <ℤ (z +ℤ u)) (restored t u) h)))
    (decides_lt t (z +ℤ u))

pub due_next : {s e : Point} {k m : ℕ} {w : Walker} → Stands s e k m w → lt_z (w.course.threshold -ℤ w.course.up) w.error ≡ is_due (major s e) (minor s e) (k + 1) m
due_next {w = w} st =
    less_test w.course.threshold w.course.up w.error
    ∙ due_test (advances st {r = record { x = w.x +ℤ w.course.xmajor; y = w.y +ℤ w.course.ymajor; error = w.error +ℤ w.course.up; course = w.course }} refl refl refl refl)

-- ---- where that leaves it
module _ {s e : Point} {k : ℕ} {w : Walker} where
  -- no minor move is due
  pub settled_not : (at : DueAt s e k w) → is_due (major s e) (minor s e) k at.m ≡ false → WalkerAt s e k w
  settled_not at f = record { m = at.m; stands = at.stands; near = ltb-false _ _ f }

  -- after the major move
  pub advanced : {r : Walker} (at : WalkerAt s e k w) → Stands s e (k + 1) at.m r → DueAt s e (k + 1) r
  advanced at st = record { m = at.m; stands = st; due = then_due (major s e) (minor s e) k at.m at.near }

  -- after both moves, where the minor one was due, and after the major one where it was not
  pub stepped_due : {r : Walker} (at : WalkerAt s e k w) → Stands s e (k + 1) (at.m + 1) r → WalkerAt s e (k + 1) r
  stepped_due at st =
      record { m = at.m + 1; stands = st; near = then_near (major s e) (minor s e) (k + 1) at.m (narrow s e) (then_due (major s e) (minor s e) k at.m at.near) }

  pub stepped_not : {r : Walker} (at : WalkerAt s e k w) → Stands s e (k + 1) at.m r → is_due (major s e) (minor s e) (k + 1) at.m ≡ false → WalkerAt s e (k + 1) r
  stepped_not at st f = record { m = at.m; stands = st; near = ltb-false _ _ f }

-- a walker made at a step: where the rule's moves lead, with their error, it is the one that walked there
module _ {s e : Point} {k : ℕ} (start : Bounded s) (end : Bounded e) (walked : k ≤ major s e) where
  abbrev m : ℕ
  m = moves (major s e) (minor s e) k

  band : Band (major s e) (minor s e) k m
  band = moves_band (major s e) (minor s e) k (narrow s e) walked

  pub error_near : nat_abs (pos (2 * minor s e) *ℤ pos k -ℤ pos (2 * major s e) *ℤ pos m) ≤ 262144
  error_near =
      minus_within (2 * minor s e * k) (2 * major s e * m) 262144 (omega (arith, band.high, major_size start end)) (omega (arith, band.low, major_size start end))

  pub stands_at : {w : Walker} → CourseOf s e w.course → (w.x, w.y) ≡ standing s e k m → w.error ≡ pos (2 * minor s e) *ℤ pos k -ℤ pos (2 * major s e) *ℤ pos m
      → WalkerAt s e k w
  stands_at course place error =
      record {
        m = m;
        stands = record {
          start = start;
          end = end;
          course = course;
          x = ap (λ (p : Point). p.0) place ∙ sym (course_x course k m);
          y = ap (λ (p : Point). p.1) place ∙ sym (course_y course k m);
          error = error;
          few = moves_few (major s e) (minor s e) k (narrow s e);
          low = band.low;
        };
        near = band.high;
      }

-- a walker that has not moved
pub begins : (s e : Point) (w : Walker) → Bounded s → Bounded e → CourseOf s e w.course → w.x ≡ s.0 → w.y ≡ s.1 → w.error ≡ pos 0 → WalkerAt s e 0 w
begins s e w hs he hc x y er =
    record {
      m = 0;
      stands = record {
        start = hs;
        end = he;
        course = hc;
        x = x ∙ sym (still s.0 w.course.xmajor w.course.xminor);
        y = y ∙ sym (still s.1 w.course.ymajor w.course.yminor);
        error = er ∙ ap₂ (λ (a b : ℕ). pos a -ℤ pos b) (nought (minor s e)) (nought (major s e));
        few = omega arith;
        low = omega arith;
      };
      near = omega arith;
    }
  where
    still : (s a b : ℤ) → s +ℤ a *ℤ pos 0 +ℤ b *ℤ pos 0 ≡ s
    still s a b = rw (as_mk s, as_mk a, as_mk b) (simp mks (mk_eq _ _ _ _ (omega arith)))

    nought : (n : ℕ) → 0 ≡ 2 * n * 0
    nought n = omega arith
