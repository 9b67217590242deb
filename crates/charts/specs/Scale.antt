-- How far the axes of a chart reach, and where a number stands on a line of so many pixels.
use Rattle.std.specs.Prelude.{cond, List, ℕ, ◌*◌, ◌/◌, min, ℤ, pos, neg_ℤ, nat_abs}
use Rattle.std.specs.Option.{option_map_or}
use Rattle.std.specs.Int.Signed.{lt_z}
use Rattle.geometry.specs.declared.Point.{Point}
use Rattle.text.specs.Fields.{lines}
use Rattle.text.specs.Lines.{each}
use Rattle.readers.specs.declared.figures.Corners.{Corners}
use Rattle.readers.specs.Figures.{read_point}
use Rattle.reports.specs.Minutes.{wedge, behind_first}
use Rattle.charts.specs.declared.Extent.{Extent}

-- ---- the ends of the axes: "the largest second and the largest load of wedge and samples, at least 1"
abbrev pub larger : ℕ → ℤ → ℕ
larger n x = cond (lt_z (pos n) x) (nat_abs x) n

abbrev pub with_place : Extent → Point → Extent
with_place e p = record { second = larger e.second p.0; load = larger e.load p.1 }

abbrev pub least : Extent
least = record { second = 1; load = 1 }

unfoldable pub of_wedge : Corners → Extent
of_wedge t = with_place (with_place (with_place least t.a) t.b) t.c

unfoldable pub with_sample : Extent → List ℕ → Extent
with_sample e line = option_map_or (with_place e) (read_point line) e

abbrev pub extent : List ℕ → Extent
extent s = each with_sample (of_wedge (wedge s)) (lines (behind_first s))

-- ---- a number on a line of `size` pixels that ends at `most`: rounded towards 0, and held at 130,000 pixels, which are far outside every frame
unfoldable pub away : ℕ → ℕ → ℕ → ℕ
away most size n = min 130000 (n * size / most)

unfoldable pub scaled : ℕ → ℕ → ℤ → ℤ
scaled most size x = cond (lt_z x (pos 0)) (neg_ℤ (pos (away most size (nat_abs x)))) (pos (away most size (nat_abs x)))
