-- What the program says of an input: on standard output the day as an image file, or on standard error what `minutes` says of it.
use Rattle.std.specs.Prelude.{◌≡◌, Bool, true, false, cond, List, ℕ, ◌≤◌, length, take, replicate}
use Rattle.netpbm.specs.Image.{image_bytes}
use Rattle.reports.specs.Minutes.{counting, minutes, count_line}
use Rattle.charts.specs.Picture.{picture}
use Rattle.charts.specs.Day.{leaves, day}
use Rattle.chart.specs.declared.Told.{Told}
use Rattle.chart.specs.declared.Told.TheVariants.{Image, Line}

-- the bytes that the picture is drawn over
abbrev pub pane : List ℕ
pane = replicate 691200 0

abbrev pub said : List ℕ → List ℕ
said s = cond (counting (minutes s)) (image_bytes picture (leaves picture (day s) pane)) (count_line (minutes s))

-- where what was put there ends, and whether it is an image file
abbrev pub end : Told → ℕ
end (Image n) = n
end (Line n) = n

abbrev pub is_image : Told → Bool
is_image (Image n) = true
is_image (Line n) = false

-- the first bytes of the output are that, and it is known on which of the two they are to be written
pub record Handed (s : List ℕ) (t : Told) (out : List ℕ) : Type 0 where
  pub fits : end t ≤ length out
  pub good : is_image t ≡ counting (minutes s)
  pub bytes : take (end t) out ≡ said s
