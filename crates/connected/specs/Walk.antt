-- Where a walker of a connected line stands: the state of `Bresenham::next_all`, before the minor move that may be due.
use Rattle.std.specs.Prelude.{◌≡◌, Bool, cond, not, ℕ, ◌+◌, ◌*◌, ◌-◌, ◌≤◌}
use Rattle.geometry.specs.declared.Point.{Point}
use Rattle.line.specs.declared.Walker.{Walker}
use Rattle.line.specs.Line.{steep}
use Rattle.line.specs.Walk.{DueAt}
use Rattle.connected.specs.declared.SteppedAll.{SteppedAll}
use Rattle.connected.specs.Connected.{last_index, is_extra, alike, connected_at}

-- the Rust's `mirror_extra_points`: on the way to the next normal point it is the minor move, made alone, that leads to the right of the line
unfoldable pub mirrored : Point → Point → Bool
mirrored s e = cond (steep s e) (not (alike s e)) (alike s e)

-- the major and the minor moves that are made when a point is handed out, one for each point before it: their error is within the bounds that a walker keeps it in
pub record MovesMade (major minor k m : ℕ) : Type 0 where
  pub few : m ≤ k
  pub low : 2 * major * m ≤ 2 * minor * k + (major - 1)
  pub due : 2 * minor * k ≤ 2 * major * m + major + 2 * minor

-- the walker that hands out the point of index i next
pub record NextAt (s e : Point) (i : ℕ) (w : Walker) : Type 0 where
  pub k : ℕ
  pub here : DueAt s e k w
  pub sum : k + here.m ≡ i

-- a walker of some connected line that has a point to hand out
pub record Connecting (w : Walker) : Type 0 where
  pub s : Point
  pub e : Point
  pub i : ℕ
  pub more : i ≤ last_index s e
  pub here : NextAt s e i w

-- the point of index i, whether it is an extra one, and the walker at the next
pub record HandedOut (s e : Point) (i : ℕ) (r : SteppedAll) : Type 0 where
  pub point : r.point ≡ connected_at s e i
  pub extra : r.extra ≡ is_extra s e i
  pub walker : NextAt s e (i + 1) r.walker
