-- `frames::has_no_distance` compares the distance with the bytes that a row takes, which are few. Assumes nothing.
use mathlib.Core.Path.{refl}
use Rattle.layout.specs.Packed.{row_bytes}
use Rattle.frames.proofs.has_no_distance.Goals as goal

pub returns : goal.returns
unfolding row_bytes
returns c = refl
