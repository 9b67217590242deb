-- Where a walker stands: the state of `Bresenham::next`, kept at the point that is handed out next.
use Rattle.std.specs.Prelude.{◌≡◌, Bool, cond, ℕ, ◌+◌, ◌*◌, ◌-◌, ◌≤◌, ltb, ℤ, pos, nat_abs, ◌+ℤ◌, ◌-ℤ◌, ◌*ℤ◌}
use Rattle.geometry.specs.declared.Point.{Point}
use Rattle.geometry.specs.Bound.{Coord, Bounded}
use Rattle.line.specs.declared.Course.{Course}
use Rattle.line.specs.declared.Walker.{Walker}
use Rattle.line.specs.Line.{toward, steep, major, minor}

-- the parameters of the line from s to e
pub record CourseOf (s e : Point) (c : Course) : Type 0 where
  pub threshold : c.threshold ≡ pos (major s e)
  pub up : c.up ≡ pos (2 * minor s e)
  pub down : c.down ≡ pos (2 * major s e)
  pub major_x : c.xmajor ≡ cond (steep s e) (pos 0) (toward s.0 e.0)
  pub major_y : c.ymajor ≡ cond (steep s e) (toward s.1 e.1) (pos 0)
  pub minor_x : c.xminor ≡ cond (steep s e) (toward s.0 e.0) (pos 0)
  pub minor_y : c.yminor ≡ cond (steep s e) (pos 0) (toward s.1 e.1)

-- the parameters of some line
pub record SomeCourse (c : Course) : Type 0 where
  pub s : Point
  pub e : Point
  pub here : CourseOf s e c

-- a coordinate, and moves from it of at most one place each
pub record Reachable (a major along minor across : ℤ) : Type 0 where
  pub from : Coord a
  pub one : nat_abs major ≤ 1
  pub other : nat_abs minor ≤ 1
  pub many : nat_abs along ≤ 262144
  pub few : nat_abs across ≤ 262144

-- changes of the error with k major and m minor moves that take it to at most 262,144 from 0
pub record Near (up down : ℤ) (k m : ℕ) : Type 0 where
  pub rise : nat_abs up ≤ 524288
  pub fall : nat_abs down ≤ 524288
  pub many : k ≤ 262144
  pub few : m ≤ 262144
  pub near : nat_abs (up *ℤ pos k -ℤ down *ℤ pos m) ≤ 262144

-- the place so many moves along x and along y from s towards e
abbrev pub place_at : Point → Point → ℕ → ℕ → Point
place_at s e x y = (s.0 +ℤ toward s.0 e.0 *ℤ pos x, s.1 +ℤ toward s.1 e.1 *ℤ pos y)

-- where k major and m minor moves lead
abbrev pub standing : Point → Point → ℕ → ℕ → Point
standing s e k m = place_at s e (cond (steep s e) m k) (cond (steep s e) k m)

-- w has made k moves along the major axis and m along the minor axis from s, and its error says by how much it is off
pub record Stands (s e : Point) (k m : ℕ) (w : Walker) : Type 0 where
  pub start : Bounded s
  pub end : Bounded e
  pub course : CourseOf s e w.course
  pub x : w.x ≡ s.0 +ℤ w.course.xmajor *ℤ pos k +ℤ w.course.xminor *ℤ pos m
  pub y : w.y ≡ s.1 +ℤ w.course.ymajor *ℤ pos k +ℤ w.course.yminor *ℤ pos m
  pub error : w.error ≡ pos (2 * minor s e * k) -ℤ pos (2 * major s e * m)
  pub few : m ≤ k
  pub low : 2 * major s e * m ≤ 2 * minor s e * k + (major s e - 1)

-- a minor move is due: the error is above the threshold
abbrev pub is_due : ℕ → ℕ → ℕ → ℕ → Bool
is_due major minor k m = ltb (2 * major * m + major) (2 * minor * k)

-- the walker that has handed out the points of the steps below k: it stands at the point of step k
pub record WalkerAt (s e : Point) (k : ℕ) (w : Walker) : Type 0 where
  pub m : ℕ
  pub stands : Stands s e k m w
  pub near : 2 * minor s e * k ≤ 2 * major s e * m + major s e

-- the same after the major move to step k, when a minor move may be due
pub record DueAt (s e : Point) (k : ℕ) (w : Walker) : Type 0 where
  pub m : ℕ
  pub stands : Stands s e k m w
  pub due : 2 * minor s e * k ≤ 2 * major s e * m + major s e + 2 * minor s e

-- a walker of some line that has a point to hand out
pub record Walking (w : Walker) : Type 0 where
  pub s : Point
  pub e : Point
  pub k : ℕ
  pub more : k ≤ major s e
  pub here : WalkerAt s e k w

-- one that has made a major move, at most to one past the last step
pub record Moving (w : Walker) : Type 0 where
  pub s : Point
  pub e : Point
  pub k : ℕ
  pub more : k ≤ major s e + 1
  pub here : DueAt s e k w
