-- The points of a line, from its start to its end (01, "Lines").
use Rattle.std.specs.Prelude.{◌≡◌, Bool, false, cond, ◌&&◌, ◌||◌, ℕ, zero, suc, ◌+◌, ◌*◌, ◌-◌, ◌/◌, ◌≤◌, max, min, leb, eqb, ℤ, pos, negsuc, nat_abs, ◌+ℤ◌, ◌-ℤ◌, ◌*ℤ◌}
use Rattle.std.specs.Int.Signed.{le_z}
use Rattle.geometry.specs.declared.Point.{Point}
use Rattle.geometry.specs.Place.{same_place}

-- one place from a towards b
abbrev pub toward : ℤ → ℤ → ℤ
toward a b = cond (le_z a b) (pos 1) (negsuc 0)

-- m, the moves along the minor axis at step k: none for major 0
unfoldable pub moves : ℕ → ℕ → ℕ → ℕ
moves major minor k = cond (eqb major 0) 0 ((2 * minor * k + major - 1) / (2 * major))

module _ (s e : Point) where
  -- a and b, the absolute differences in x and y
  unfoldable pub wide : ℕ
  wide = nat_abs (e.0 -ℤ s.0)

  unfoldable pub high : ℕ
  high = nat_abs (e.1 -ℤ s.1)

  -- y is the major axis if b is at least a, else x
  abbrev pub steep : Bool
  steep = leb wide high

  -- the larger and the smaller difference
  unfoldable pub major : ℕ
  major = max wide high

  unfoldable pub minor : ℕ
  minor = min wide high

  -- the moves along x and along y at step k
  unfoldable pub x_moves : ℕ → ℕ
  x_moves k = cond steep (moves major minor k) k

  unfoldable pub y_moves : ℕ → ℕ
  y_moves k = cond steep k (moves major minor k)

  -- the point at step k
  unfoldable pub point_at : ℕ → Point
  point_at k = (s.0 +ℤ toward s.0 e.0 *ℤ pos (x_moves k), s.1 +ℤ toward s.1 e.1 *ℤ pos (y_moves k))

  -- the number of points: steps 0 to major
  abbrev pub points : ℕ
  points = major + 1

  -- p is a point of the line
  pub record HasPoint (p : Point) : Type 0 where
    pub step : ℕ
    pub walked : step ≤ major
    pub here : p ≡ point_at step

-- one of the steps below n leads to p
abbrev pub some_step : (ℕ → Point) → Point → ℕ → Bool
some_step f p zero = false
some_step f p (suc n) = same_place p (f n) || some_step f p n

-- the same as a yes or no that computes
unfoldable pub has_point : Point → Point → Point → Bool
has_point s e p = some_step (point_at s e) p (points s e)

-- u moves along x and v along y, from the start towards the end of a line that is w wide and h high, lead to a point of it: the moves along the
-- minor axis are m at the moves along the major one
abbrev pub on_line : ℕ → ℕ → ℤ → ℤ → Bool
on_line w h (pos u) (pos v) = cond (leb w h) (leb v h && eqb u (moves h w v)) (leb u w && eqb v (moves w h u))
on_line w h (pos u) (negsuc v) = false
on_line w h (negsuc u) y = false
