-- `lights::lit_run` has counted the ones of the blocks before those that are left. Assumes nothing.
use mathlib.Core.Path.{◌≡◌}
use Prim.Native.Nat.{◌+◌, ◌<◌, ◌≤◌}
use lib.Count.{ones}
use Rattle.std.specs.List.{sum_by}
use Rattle.std.specs.Slice.Iter.{chunks_rest, chunks_size}
use Rattle.lights.proofs.lit_run.Given as goal

abbrev pub invariant-loop-block : goal.invariant-loop-block
invariant-loop-block l = let left = l.block-iterator in (0 < chunks_size left) × (chunks_size left ≤ 4096) × (l.sum + sum_by ones (chunks_rest left) ≡ sum_by ones l.bytes)
