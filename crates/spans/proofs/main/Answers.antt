-- `spans::main` lists the spans of what was read. Assumes nothing.
use mathlib.Core.Path.{sym}
use native.Mathlib.Omega.{arith}
use lib.Seq.{length-take-le}
use Rattle.spans.proofs.main.Goals as goal

pub slice_bounds-first_corners-end : goal.slice_bounds-first_corners-end
slice_bounds-first_corners-end c = sym (length-take-le _ _ (omega (arith, c.read_line-st.ensures.0.most)))
