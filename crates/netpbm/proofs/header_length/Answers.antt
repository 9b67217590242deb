-- `netpbm::header_length` counts the digits of both sides. Assumes nothing.
use Prim.Native.Nat.{◌+◌, ◌≤◌}
use native.Mathlib.Omega.{arith}
use Rattle.netpbm.proofs.Headers.{short_header, long_header, four_digits}
use Rattle.netpbm.proofs.header_length.Goals as goal
use Rattle.netpbm.proofs.header_length.Goals.{After-digit_count-2, then-frame-eq1, else-frame-eq1}

-- both together
few : (c : After-digit_count-2) → c.digit_count-2.result + c.digit_count.result ≤ 8
few c =
    let d = four_digits c.args.frame c.requires in
    omega (arith, c.digit_count-2.ensures, c.digit_count.ensures, d.0, d.1)

pub overflow_add-digits : goal.overflow_add-digits
overflow_add-digits c = omega (arith, few (goal.at.overflow_add-digits c).After-digit_count-2)

pub overflow_add-result : goal.overflow_add-result
overflow_add-result c = omega (arith, few (goal.at.overflow_add-result c).After-digit_count-2)

pub overflow_cast-result : goal.overflow_cast-result
overflow_cast-result c = omega (arith, few (goal.at.overflow_cast-result c).After-digit_count-2)

pub returns : goal.returns
returns c =
    elim c.if-frame-eq1.branch [
      | then-frame-eq1 w ↦ omega (arith, short_header c.args.frame w.if-frame-eq1.true)
      | else-frame-eq1 w ↦ omega (arith, long_header c.args.frame w.if-frame-eq1.false)
    ]
