-- `connected::crossings` is the quotient that leaves the error within its bounds. Assumes nothing.
use native.Mathlib.Omega.{arith}
use Rattle.connected.proofs.Made.{quotient_made}
use Rattle.connected.proofs.crossings.Goals as goal

pub returns-else-major-eq0 : goal.returns-else-major-eq0
returns-else-major-eq0 c = quotient_made c.args.major c.args.minor c.args.i (omega arith) (omega arith)
