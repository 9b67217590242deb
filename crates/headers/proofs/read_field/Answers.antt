-- `headers::read_field` makes the tests of a field in their order; it ends behind its start. Assumes nothing.
use mathlib.Core.Bool.{false}
use Prim.Native.Nat.{◌≤◌}
use native.Mathlib.Omega.{arith}
use Rattle.headers.proofs.Parsing.{past_from}
use Rattle.headers.proofs.read_field.Goals as goal
use Rattle.headers.proofs.read_field.Goals.{After-past_bytes-end}

ordered : (c : After-past_bytes-end) → c.past_bytes-start.result ≤ c.past_bytes-end.result
ordered c = omega (arith, c.past_bytes-end.ensures, past_from false c.args.file.now c.past_bytes-start.result)

pub slice_bounds-read_digits-count : goal.slice_bounds-read_digits-count
slice_bounds-read_digits-count c = ordered (goal.at.slice_bounds-read_digits-count c).After-past_bytes-end

pub slice_bounds-read_digits-start : goal.slice_bounds-read_digits-start
slice_bounds-read_digits-start c = ordered (goal.at.slice_bounds-read_digits-start c).After-past_bytes-end
