-- `line::moves_at` divides as the rule does; the quotient is at most the minor length. Assumes nothing.
use mathlib.Core.Path.{sym, ap, ◌∙◌}
use Prim.Native.Nat.{ℕ, ◌*◌, ◌/◌}
use native.Mathlib.Omega.{arith}
use Rattle.line.specs.Line.{moves}
use Rattle.line.proofs.Moves.{moves_none, moves_quotient}
use Rattle.line.proofs.moves_at.Goals as goal

pub returns-then-major-eq0 : goal.returns-then-major-eq0
returns-then-major-eq0 c = λ n e. sym (ap (λ (M : ℕ). moves M n c.args.k) c.if-major-eq0.true ∙ moves_none n c.args.k)

pub returns-else-major-eq0 : goal.returns-else-major-eq0
returns-else-major-eq0 c = λ n e.
    ap (λ (x : ℕ). x / (2 * c.args.major)) (omega (arith, ap (λ (x : ℕ). x * c.args.k) e)) ∙ sym (moves_quotient c.args.major n c.args.k (omega arith))
