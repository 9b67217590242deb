-- `packing::set_all` has set the bytes that it passed. Assumes nothing.
use mathlib.Core.Path.{◌≡◌}
use Rattle.layout.specs.Digits.{set_run}
use Rattle.packing.proofs.set_all.Given as goal

abbrev pub invariant-loop-byte : goal.invariant-loop-byte
invariant-loop-byte l = l.part ≡ set_run 0 l.byte-index (λ j. l.v) l.initial.part
