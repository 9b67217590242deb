-- `clips::is_steep` compares both lengths. Assumes nothing.
use mathlib.Core.Path.{ap₂}
use lib.Dec.{leb}
use Rattle.line.proofs.Lengths.{wide_of, high_of}
use Rattle.clips.proofs.is_steep.Goals as goal

pub returns : goal.returns
returns c =
    let p = c.requires in
    ap₂ leb (wide_of p.0 p.1 c.abs_diff.ensures) (high_of p.0 p.1 c.abs_diff-2.ensures)
