-- `packing::pixels` has stored k whole pixels after k turns. Assumes nothing.
use mathlib.Core.Path.{◌≡◌}
use Prim.Native.Nat.{◌*◌}
use Rattle.layout.specs.Digits.{set_run}
use Rattle.packing.specs.Words.{pixel_byte}
use Rattle.packing.proofs.pixels.Given as goal

abbrev pub invariant-loop-k : goal.invariant-loop-k
invariant-loop-k l = l.part ≡ set_run 0 (l.k * l.parts) (pixel_byte l.parts l.big l.colour) l.initial.part
