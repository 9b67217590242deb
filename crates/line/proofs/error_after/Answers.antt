-- `line::error_after` multiplies in 64 bits; the difference is small. Assumes nothing.
use Prim.Native.Nat.{ℕ, ◌≤◌}
use lib.IntN.{ℤ, pos, nat_abs, ◌-ℤ◌, ◌*ℤ◌}
use mir.Syntax.{w32, w64}
use mir.Val.{SFits, to_z, of_z}
use Rattle.whole.proofs.Machine.{Has, fits, back, at_most, wide, cast, same_bits, times, minus}
use Rattle.line.proofs.error_after.Goals as goal
use Rattle.line.proofs.error_after.Goals.{Start}

-- a change of the error, widened, by so many moves
product : {z : ℤ} {n : ℕ} → SFits w32 z → nat_abs z ≤ 524288 → n ≤ 262144 → Has w64 (to_z w64 (of_z w64 (to_z w32 (of_z w32 z))) *ℤ to_z w64 n) (z *ℤ pos n) 137438953472
product f h k = times (back (at_most 524288 (wide f) h tt)) (same_bits k tt) tt

module _ (c : Start) where
  up : Has w64 (to_z w64 (of_z w64 (to_z w32 (of_z w32 c.args.up))) *ℤ to_z w64 c.args.k) (c.args.up *ℤ pos c.args.k) 137438953472
  up = product c.ranges.up c.requires.rise c.requires.many

  down : Has w64 (to_z w64 (of_z w64 (to_z w32 (of_z w32 c.args.down))) *ℤ to_z w64 c.args.m) (c.args.down *ℤ pos c.args.m) 137438953472
  down = product c.ranges.down c.requires.fall c.requires.few

  off : Has w64 (to_z w64 (of_z w64 (to_z w64 (of_z w64 (to_z w32 (of_z w32 c.args.up))) *ℤ to_z w64 c.args.k)) -ℤ to_z w64 (of_z w64 (to_z w64 (of_z w64 (to_z w32 (of_z w32 c.args.down))) *ℤ to_z w64 c.args.m)))
      (c.args.up *ℤ pos c.args.k -ℤ c.args.down *ℤ pos c.args.m) 262144
  off = at_most 262144 (minus (back up) (back down) tt) c.requires.near tt

pub overflow_sub-result : goal.overflow_sub-result
overflow_sub-result c = fits (off (goal.at.overflow_sub-result c).Start)

pub overflow_cast-result-5 : goal.overflow_cast-result-5
overflow_cast-result-5 c = fits (cast {w' = w32} (off (goal.at.overflow_cast-result-5 c).Start) tt)

pub returns : goal.returns
returns c = (back (cast {w' = w32} (off (goal.at.returns c).Start) tt)).is
