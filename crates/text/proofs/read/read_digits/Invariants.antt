-- `text::read::read_digits` goes digit by digit; what it has still to find is at each turn what it had to find at the start. Assumes nothing.
use mathlib.Core.Path.{◌≡◌}
use Prim.Native.Nat.{◌≤◌}
use lib.ListN.{drop}
use Rattle.text.proofs.Reading.{scanned}
use Rattle.text.proofs.read.read_digits.Given as goal

abbrev pub invariant-loop-b : goal.invariant-loop-b
invariant-loop-b l = (l.v ≤ l.most) × (scanned l.most l.v (drop l.b-index l.s) ≡ scanned l.most 0 l.s)
