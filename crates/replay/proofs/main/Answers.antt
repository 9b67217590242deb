-- `replay::main` lends four buffers of 65,536 bytes. They are counted by a law, since computing their length is dear. Assumes nothing.
use mathlib.Core.Path.{◌≡◌, sym}
use Prim.Native.Nat.{ℕ}
use lib.ListN.{length, replicate, length-replicate}
use Rattle.replay.proofs.main.Goals as goal

counted : length (replicate {A = ℕ} 65536 0) ≡ 65536
counted = length-replicate {A = ℕ} 65536 0

pub slice_bounds-run-end : goal.slice_bounds-run-end
slice_bounds-run-end c = sym counted

pub slice_bounds-run-end-2 : goal.slice_bounds-run-end-2
slice_bounds-run-end-2 c = sym counted

pub slice_bounds-run-end-3 : goal.slice_bounds-run-end-3
slice_bounds-run-end-3 c = sym counted

pub slice_bounds-run-end-4 : goal.slice_bounds-run-end-4
slice_bounds-run-end-4 c = sym counted

pub run-requires : goal.run-requires
run-requires c = (counted, counted, counted, counted)

pub returns : goal.returns
returns c = tt
