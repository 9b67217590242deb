-- THE LOWEST NUMBER WINS, of the questions on a connected line too (02, T-05): each number is answered exactly when it applies and no lower one does, and 0 exactly
-- when none does. Assumes nothing.
use mathlib.Core.Path.{refl}
use Prim.Native.Nat.{ℕ}
use Rattle.refusals.proofs.Lowest.{Lowest, lowest_wins}
use Rattle.geometry.specs.declared.Point.{Point}
use Rattle.line.specs.Answer.{end_tests}
use Rattle.connected.specs.Answer.{index_tests}

-- its length, and whether a pixel is a point of it: 5
pub on_connected : (s e : Point) → Lowest (end_tests s e)
unfolding end_tests
on_connected s e = lowest_wins _ refl

-- its point at an index: 5, 7
pub connected_point : (s e : Point) (i : ℕ) → Lowest (index_tests s e i)
unfolding end_tests index_tests
connected_point s e i = lowest_wins _ refl
