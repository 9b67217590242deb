-- The picture of a chart: its frame and its colours, where its axes stand, and the place of a second and a load on it.
use Rattle.std.specs.Prelude.{true, ℕ, ℤ, pos, ◌+ℤ◌, ◌-ℤ◌}
use Rattle.geometry.specs.declared.Point.{Point}
use Rattle.frames.specs.declared.Frame.{Frame}
use Rattle.frames.specs.Description.{packed}
use Rattle.charts.specs.declared.Extent.{Extent}
use Rattle.charts.specs.Scale.{scaled}

abbrev pub picture : Frame
picture = packed 640 360 24 true

-- the colours of the ground, the wedge, the axes, and of a sample that the wedge contains, and another
abbrev pub ground : ℕ
ground = 0xFFFFFF

abbrev pub filling : ℕ
filling = 0xD6E4F0

abbrev pub ink : ℕ
ink = 0x404040

abbrev pub inside : ℕ
inside = 0x0060A8

abbrev pub outside : ℕ
outside = 0xD04010

-- second 0 and load 0 meet at (24, 335); the axes are 600 pixels long, and 320
abbrev pub across : Extent → ℤ → ℤ
across e x = pos 24 +ℤ scaled e.second 600 x

abbrev pub down : Extent → ℤ → ℤ
down e y = pos 335 -ℤ scaled e.load 320 y

abbrev pub spot : Extent → Point → Point
spot e p = (across e p.0, down e p.1)
