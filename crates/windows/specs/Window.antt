-- A rectangle that a painter stays within.
use Rattle.std.specs.Prelude.{Bool, cond, ◌&&◌, ℕ, ◌≤◌, ℤ, pos, nat_abs}
use Rattle.std.specs.Int.Signed.{lt_z}
use Rattle.whole.specs.Interval.{between}
use Rattle.windows.specs.declared.Window.{Window}

-- whether it holds a place
abbrev pub in_window : Window → ℤ → ℤ → Bool
in_window q x y = between (pos q.left) (pos q.right) x && between (pos q.top) (pos q.bottom) y

-- a figure, as far as the rectangle holds it
abbrev pub held_by : Window → (ℤ → ℤ → Bool) → ℤ → ℤ → Bool
held_by q figure x y = in_window q x y && figure x y

-- all of a width and a height
abbrev pub all_of : ℕ → ℕ → Window
all_of width height = record { left = 0; top = 0; right = width; bottom = height }

-- the nearest number of low to high
abbrev pub clipped : ℤ → ℕ → ℕ → ℕ
clipped x low high = cond (lt_z x (pos low)) low (cond (lt_z (pos high) x) high (nat_abs x))

-- a rectangle that ends within a width and a height
pub record Within (q : Window) (width height : ℕ) : Type 0 where
  pub across : q.left ≤ q.right
  pub down : q.top ≤ q.bottom
  pub right : q.right ≤ width
  pub bottom : q.bottom ≤ height

-- whose ends are in order, and few enough for a signed number
abbrev pub Small : Window → Type 0
Small q = (q.left ≤ q.right) × (q.right ≤ 2048) × (q.top ≤ q.bottom) × (q.bottom ≤ 2048)
