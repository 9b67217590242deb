-- `connected::points_before` adds the moves that come before a step, or counts all points. Assumes nothing.
use mathlib.Core.Path.{sym, ap, ◌∙◌}
use mathlib.Core.Bool.{Bool, cond}
use Prim.Native.Nat.{ℕ, ◌+◌}
use native.Mathlib.Omega.{arith}
use borrow.Author.Tests.{le-ltb}
use Rattle.line.specs.Line.{major, minor}
use Rattle.line.proofs.Lengths.{major_size, minor_size}
use Rattle.line.proofs.Moves.{moves_minor}
use Rattle.connected.specs.Connected.{index_of, connected_points}
use Rattle.connected.proofs.Indices.{last_size, index_is}
use Rattle.connected.proofs.points_before.Goals as goal

pub overflow_add-result : goal.overflow_add-result
overflow_add-result c = omega (arith, c.last_index.ensures, last_size c.requires.0 c.requires.1)

pub overflow_add-result-else-last_step-step : goal.overflow_add-result-else-last_step-step
overflow_add-result-else-last_step-step c =
    let M = major c.args.start c.args.end in
    omega (
      arith,
      c.last_step.ensures,
      c.if-last_step-step.false,
      major_size c.requires.0 c.requires.1,
      c.minor_moves.ensures,
      moves_minor M (minor c.args.start c.args.end) c.args.step (omega (arith, c.last_step.ensures, c.if-last_step-step.false)),
      minor_size c.requires.0 c.requires.1,
    )

pub returns-else-last_step-step : goal.returns-else-last_step-step
returns-else-last_step-step c =
    let a = c.args in
    ap (λ (n : ℕ). a.step + n) c.minor_moves.ensures ∙ sym (index_is a.start a.end a.step)
    ∙ sym (ap (λ (t : Bool). cond t (connected_points a.start a.end) (index_of a.start a.end a.step)) (le-ltb (major a.start a.end) a.step (omega (arith, c.last_step.ensures, c.if-last_step-step.false))))
