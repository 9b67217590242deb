-- Figures: whether a place, by its column and its row, is inside.
use Rattle.std.specs.Prelude.{Bool, true, ◌&&◌, ℤ}
use Rattle.whole.specs.Equal.{eq_z}
use Rattle.whole.specs.Interval.{between}

-- the one pixel in column x of row y
abbrev pub single : ℤ → ℤ → ℤ → ℤ → Bool
single x y u v = eq_z u x && eq_z v y

-- row y's columns from `start` to one before `end`
abbrev pub span_figure : ℤ → ℤ → ℤ → ℤ → ℤ → Bool
span_figure y start end u v = between start end u && eq_z v y

-- every pixel
abbrev pub everywhere : ℤ → ℤ → Bool
everywhere u v = true
