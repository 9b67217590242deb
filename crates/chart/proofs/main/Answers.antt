-- `chart::main` lends its three arrays. They are counted by a law, since computing their length is dear. Assumes nothing.
use mathlib.Core.Path.{◌≡◌, refl, sym}
use Prim.Native.Nat.{ℕ}
use lib.ListN.{length, replicate, length-replicate}
use Rattle.chart.proofs.main.Goals as goal

counted : (n : ℕ) → length (replicate {A = ℕ} n 0) ≡ n
counted n = length-replicate {A = ℕ} n 0

pub slice_bounds-run-end : goal.slice_bounds-run-end
slice_bounds-run-end c = sym (counted 1048577)

pub slice_bounds-run-end-2 : goal.slice_bounds-run-end-2
slice_bounds-run-end-2 c = sym (counted 691200)

pub slice_bounds-run-end-3 : goal.slice_bounds-run-end-3
slice_bounds-run-end-3 c = sym (counted 691215)

pub run-requires : goal.run-requires
run-requires c = (refl, counted 691215)

pub returns : goal.returns
returns c = tt
