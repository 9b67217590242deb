-- `packing::repeat` has laid k whole blocks after k turns; the last call lays as much of one as is left. Assumes nothing.
use mathlib.Core.Path.{◌≡◌}
use Prim.Native.Nat.{◌*◌, ◌%◌}
use lib.ListN.{get_or}
use Rattle.layout.specs.Digits.{set_run}
use Rattle.packing.proofs.repeat.Given as goal

abbrev pub invariant-loop-k : goal.invariant-loop-k
invariant-loop-k g l = l.part ≡ set_run 0 (l.k * g.row.N) (λ j. get_or l.block (j % g.row.N) 0) l.initial.part
