-- `circle::accepted_covers` asks for the corners one by one: what is read back of each is the rectangle's. Assumes nothing.
use mathlib.Core.Path.{◌≡◌, ap₂}
use mathlib.Core.Bool.{Bool}
use Prim.Native.Nat.{ℕ, ◌≤◌}
use native.Mathlib.Omega.{arith}
use lib.IntN.{ℤ, pos, ◌-ℤ◌}
use mir.Syntax.{w32}
use mir.Val.{to_z, of_z}
use Rattle.std.proofs.lemmas.Grind.{common_steps}
use Rattle.whole.proofs.Machine.{back, lit, same_bits, minus}
use Rattle.circle.specs.Circle.{contained}
use Rattle.circle.proofs.accepted_covers.Goals as goal
use Rattle.circle.proofs.accepted_covers.Goals.{Start}

-- the first of the columns or rows, and the last of those before n
start : {n : ℕ} → n ≤ 2048 → to_z w32 n ≡ pos n
start few = (same_bits {w = w32} few tt).is

last : {n : ℕ} → n ≤ 2048 → to_z w32 (of_z w32 (to_z w32 n -ℤ pos 1)) ≡ pos n -ℤ pos 1
last few = (back {w = w32} (minus (same_bits few tt) (lit 1 tt) tt)).is

module _ (s : Start) where
  abbrev corner : ℤ → ℤ → Bool
  corner x y = contained s.args.topleft s.args.diameter (x, y)

  first : corner (to_z w32 s.args.left) (to_z w32 s.args.top) ≡ corner (pos s.args.left) (pos s.args.top)
  first = ap₂ corner (start s.requires.1) (start s.requires.2)

  second : corner (to_z w32 (of_z w32 (to_z w32 s.args.past -ℤ pos 1))) (to_z w32 s.args.top) ≡ corner (pos s.args.past -ℤ pos 1) (pos s.args.top)
  second = ap₂ corner (last s.requires.3) (start s.requires.2)

  third : corner (to_z w32 s.args.left) (to_z w32 (of_z w32 (to_z w32 s.args.end -ℤ pos 1))) ≡ corner (pos s.args.left) (pos s.args.end -ℤ pos 1)
  third = ap₂ corner (start s.requires.1) (last s.requires.4)

  fourth : corner (to_z w32 (of_z w32 (to_z w32 s.args.past -ℤ pos 1))) (to_z w32 (of_z w32 (to_z w32 s.args.end -ℤ pos 1)))
      ≡ corner (pos s.args.past -ℤ pos 1) (pos s.args.end -ℤ pos 1)
  fourth = ap₂ corner (last s.requires.3) (last s.requires.4)

pub returns-then-accepted_contains-3 : goal.returns-then-accepted_contains-3
returns-then-accepted_contains-3 c = let s = (goal.at.returns-then-accepted_contains-3 c).Start in grind (arith, common_steps, first s, second s, third s, fourth s)

pub returns-else-accepted_contains-3 : goal.returns-else-accepted_contains-3
returns-else-accepted_contains-3 c = let s = (goal.at.returns-else-accepted_contains-3 c).Start in grind (arith, common_steps, first s, second s, third s, fourth s)
