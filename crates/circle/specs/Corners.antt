-- The corners of a rectangle of a frame, whose columns and rows are numbered from 0, and a circle.
use Rattle.std.specs.Prelude.{Bool, ◌&&◌, ℕ, pos, ◌-ℤ◌}
use Rattle.geometry.specs.declared.Point.{Point}
use Rattle.circle.specs.Circle.{contained}

-- whether it contains the four of the rectangle from column l and row t to one before r and b
abbrev pub corners : Point → ℕ → ℕ → ℕ → ℕ → ℕ → Bool
corners c d l t r b =
    contained c d (pos l, pos t)
    && (contained c d (pos r -ℤ pos 1, pos t) && (contained c d (pos l, pos b -ℤ pos 1) && contained c d (pos r -ℤ pos 1, pos b -ℤ pos 1)))
