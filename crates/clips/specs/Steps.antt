-- The steps of a line that a rectangle holds: both coordinates move one way only, and the major one by one place at each step, so that these are an interval.
use Rattle.std.specs.Prelude.{◌≡◌, Bool, true, false, cond, not, ◌&&◌, ℕ, ◌+◌, ◌≤◌, ◌<◌, leb, ltb, ℤ}
use Rattle.std.specs.Int.Signed.{le_z}
use Rattle.geometry.specs.declared.Point.{Point}
use Rattle.line.specs.Line.{moves, steep, major, minor, points, point_at}
use Rattle.std.specs.declared.ops.Range.{Range}
use Rattle.windows.specs.declared.Window.{Window}
use Rattle.windows.specs.Interval.{come, stays, Held}
use Rattle.clips.specs.declared.Axes.{Axes}

-- along an axis, that of rows if b and else that of columns: the coordinate of a place
abbrev pub axis_of : Bool → Point → ℤ
axis_of b p = cond b p.1 p.0

-- the first that a rectangle has, and the first after those that it has
abbrev pub axis_from : Bool → Window → ℕ
axis_from b q = cond b q.top q.left

abbrev pub axis_past : Bool → Window → ℕ
axis_past b q = cond b q.bottom q.right

-- the steps of count from s to e at which a rectangle has the coordinate
abbrev pub AxisSteps : Bool → Window → Point → Point → ℕ → Range ℕ → Type 0
AxisSteps b q s e count t = Held (axis_of b s) (le_z (axis_of b s) (axis_of b e)) (axis_from b q) (axis_past b q) count t

-- r are a line's moves along both axes
pub record AxesOf (q : Window) (s e : Point) (r : Axes) : Type 0 where
  pub length : r.major ≡ major s e
  pub breadth : r.minor ≡ minor s e
  pub along : AxisSteps (steep s e) q s e (major s e + 1) r.along
  pub across : AxisSteps (not (steep s e)) q s e (minor s e + 1) r.across

-- t are exactly the line's steps at which it has that of the major axis
pub record LineSteps (q : Window) (s e : Point) (t : Range ℕ) : Type 0 where
  pub held : AxisSteps (steep s e) q s e (points s e) t

-- t are, of the steps of a line of lengths M and n, those that u has, and at which v has the moves along the minor axis
pub record Common (M n : ℕ) (u v t : Range ℕ) : Type 0 where
  pub first : t.start ≤ M + 1
  pub most : t.end ≤ M + 1
  pub begins : (k : ℕ) → k ≤ M → leb t.start k ≡ (leb u.start k && leb v.start (moves M n k))
  pub ends : (k : ℕ) → k ≤ M → ltb k t.end ≡ (ltb k u.end && ltb (moves M n k) v.end)

-- along an axis, on the way from s to e, a place has come to the rectangle
abbrev pub come_along : Bool → Window → Point → Point → Point → Bool
come_along b q s e p = come (le_z (axis_of b s) (axis_of b e)) (axis_from b q) (axis_past b q) (axis_of b p)

-- and has not left it
abbrev pub stays_along : Bool → Window → Point → Point → Point → Bool
stays_along b q s e p = stays (le_z (axis_of b s) (axis_of b e)) (axis_from b q) (axis_past b q) (axis_of b p)

-- t are exactly the line's steps that lead into the rectangle: from the first at which both coordinates have come there to the last at which both stay
pub record InnerSteps (q : Window) (s e : Point) (t : Range ℕ) : Type 0 where
  pub first : t.start ≤ points s e
  pub most : t.end ≤ points s e
  pub begins : (k : ℕ) → k < points s e → leb t.start k ≡ (come_along false q s e (point_at s e k) && come_along true q s e (point_at s e k))
  pub ends : (k : ℕ) → k < points s e → ltb k t.end ≡ (stays_along false q s e (point_at s e k) && stays_along true q s e (point_at s e k))
