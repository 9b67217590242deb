-- `line::course_of` gives the line's parameters: its test finds the major axis, and each arm lists the same numbers by that axis. Assumes nothing.
use mathlib.Core.Path.{◌≡◌, refl, sym, subst, ◌∙◌}
use mathlib.Core.Bool.{true, false}
use Prim.Native.Nat.{ℕ, ◌≤◌}
use native.Mathlib.Omega.{arith}
use lib.IntN.{ℤ, pos}
use lib.Signed.{le_z}
use mir.Syntax.{w32}
use mir.Val.{to_z}
use Rattle.whole.proofs.Machine.{Has, lit, times, back, same_bits, tests_le, at₂}
use Rattle.geometry.proofs.Bound.{coord_fits}
use Rattle.line.specs.Line.{toward, wide, high, steep}
use Rattle.line.proofs.Lengths.{wide_of, high_of, wide_size, high_size, toward_size}
use Rattle.line.proofs.Walk.{course_by}
use Rattle.line.proofs.course_of.Goals as goal
use Rattle.line.proofs.course_of.Goals.{After-direction-dy}

-- a length, as the code keeps it
length_has : {r n : ℕ} → r ≡ n → n ≤ 262144 → Has w32 (to_z w32 r) (pos n) 262144
length_has {n = n} e h = subst (λ (r : ℕ). Has w32 (to_z w32 r) (pos n) 262144) (sym e) (same_bits h tt)

-- what the four calls give, at the line's ends
module _ (c : After-direction-dy) where
  A : Has w32 (to_z w32 c.abs_diff-wide.result) (pos (wide c.args.start c.args.end)) 262144
  A = length_has (wide_of c.requires.0 c.requires.1 c.abs_diff-wide.ensures) (wide_size c.requires.0 c.requires.1)

  B : Has w32 (to_z w32 c.abs_diff-high.result) (pos (high c.args.start c.args.end)) 262144
  B = length_has (high_of c.requires.0 c.requires.1 c.abs_diff-high.ensures) (high_size c.requires.0 c.requires.1)

  DX : Has w32 c.direction-dx.result (toward c.args.start.0 c.args.end.0) 1
  DX =
      record {
        is = at₂ (coord_fits c.requires.0.x) (coord_fits c.requires.1.x) (λ (x y : ℤ). c.direction-dx.result ≡ toward x y) c.direction-dx.ensures;
        size = toward_size c.args.start.0 c.args.end.0;
        room = omega arith;
      }

  DY : Has w32 c.direction-dy.result (toward c.args.start.1 c.args.end.1) 1
  DY =
      record {
        is = at₂ (coord_fits c.requires.0.y) (coord_fits c.requires.1.y) (λ (x y : ℤ). c.direction-dy.result ≡ toward x y) c.direction-dy.ensures;
        size = toward_size c.args.start.1 c.args.end.1;
        room = omega arith;
      }

  -- the test is the rule's
  axis : le_z (to_z w32 c.abs_diff-wide.result) (to_z w32 c.abs_diff-high.result) ≡ steep c.args.start c.args.end
  axis = tests_le A B

two : Has w32 (pos 2) (pos 2) 2
two = lit 2 tt

pub returns-then-wide-high : goal.returns-then-wide-high
returns-then-wide-high c =
    let s = (goal.at.returns-then-wide-high c).After-direction-dy in
    course_by true (sym (axis s) ∙ c.if-wide-high.true) (B s).is (back (times two (A s) tt)).is (back (times two (B s) tt)).is refl (back (DY s)).is (back (DX s)).is refl

pub returns-else-wide-high : goal.returns-else-wide-high
returns-else-wide-high c =
    let s = (goal.at.returns-else-wide-high c).After-direction-dy in
    course_by false (sym (axis s) ∙ c.if-wide-high.false) (A s).is (back (times two (B s) tt)).is (back (times two (A s) tt)).is (back (DX s)).is refl refl (back (DY s)).is
