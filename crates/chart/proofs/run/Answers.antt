-- `chart::run` lends the part of the input that was read. Assumes nothing.
use mathlib.Core.Path.{◌≡◌, sym}
use native.Mathlib.Omega.{arith}
use lib.ListN.{length, take}
use lib.Seq.{length-take-le}
use Rattle.chart.proofs.run.Goals as goal
use Rattle.chart.proofs.run.Goals.{Else-end-gt1048576}

-- what was read is a part of the buffer
part : (c : Else-end-gt1048576) → c.in-Ok.end ≡ length (take c.in-Ok.end c.read_all.new.input)
part c = sym (length-take-le c.in-Ok.end c.read_all.new.input (omega (arith, c.in-Ok.ensures, c.read_all.auto.input)))

pub slice_bounds-tell-end-2 : goal.slice_bounds-tell-end-2
slice_bounds-tell-end-2 c = part c

pub slice_bounds-say-end-2 : goal.slice_bounds-say-end-2
slice_bounds-say-end-2 c = part (goal.at.slice_bounds-say-end-2 c).Else-end-gt1048576
