-- The points of a connected line, from its start to its end (02, T-05): the points of the line (01, "Lines"), its normal points, and between those of steps k
-- and k + 1 an extra one exactly where m grows. It shares an edge with both. Two pixels do, one on each side of the line: it is the one on the right.
use Rattle.std.specs.Prelude.{◌≡◌, Bool, true, false, cond, not, ℕ, zero, suc, ◌+◌, ◌≤◌, leb, ltb, eqb}
use Rattle.whole.specs.Equal.{eq_z}
use Rattle.geometry.specs.declared.Point.{Point}
use Rattle.line.specs.Line.{toward, major, minor, moves, point_at, some_step}

-- the last of the steps 0 to n whose index, by f, is at most i
abbrev pub last_up_to : (ℕ → ℕ) → ℕ → ℕ → ℕ
last_up_to f i zero = 0
last_up_to f i (suc n) = cond (leb (f (suc n)) i) (suc n) (last_up_to f i n)

-- the two pixels that share an edge with both of two diagonal neighbours p and q: in the column of p, and in its row
abbrev pub beside_both : Bool → Point → Point → Point
beside_both true p q = (p.0, q.1)
beside_both false p q = (q.0, p.1)

module _ (s e : Point) where
  -- points are counted from 0, the start. The normal point of step k has this index: k normal points and m extra ones come before it
  unfoldable pub index_of : ℕ → ℕ
  index_of k = k + moves (major s e) (minor s e) k

  -- the index of the end, the last
  abbrev pub last_index : ℕ
  last_index = major s e + minor s e

  -- major + minor + 1 points
  abbrev pub connected_points : ℕ
  connected_points = last_index + 1

  -- the points before the normal point of step k: its index, or all of them for a step past the last
  abbrev pub points_before : ℕ → ℕ
  points_before k = cond (ltb (major s e) k) connected_points (index_of k)

  -- the step of the last normal point up to index i
  unfoldable pub step_of : ℕ → ℕ
  step_of i = last_up_to index_of i (major s e)

  -- the point of index i is an extra one: that normal point has another index
  unfoldable pub is_extra : ℕ → Bool
  is_extra i = not (eqb (index_of (step_of i)) i)

  -- both coordinates grow towards the end, or both fall
  abbrev pub alike : Bool
  alike = eq_z (toward s.0 e.0) (toward s.1 e.1)

  -- the extra point between those of steps k and k + 1, on the right of one who walks from s to e, rows being counted down. Seen from the point of step k it is
  -- the pixel below on the way right and down, and above on the way left and up: its own column. It is the pixel to the right on the way right and up, and to the left
  -- on the way left and down: its own row
  unfoldable pub extra_at : ℕ → Point
  extra_at k = beside_both alike (point_at s e k) (point_at s e (k + 1))

  -- the point of index i: a normal one, or the extra one after it
  unfoldable pub connected_at : ℕ → Point
  connected_at i = cond (is_extra i) (extra_at (step_of i)) (point_at s e (step_of i))

  -- p is a point of the connected line
  pub record HasConnected (p : Point) : Type 0 where
    pub index : ℕ
    pub walked : index ≤ last_index
    pub here : p ≡ connected_at index

-- the same as a yes or no that computes
unfoldable pub has_connected : Point → Point → Point → Bool
has_connected s e p = some_step (connected_at s e) p (connected_points s e)
