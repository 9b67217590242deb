-- `connected::last_index` adds both differences: one is the major length and one the minor. Assumes nothing.
use native.Mathlib.Omega.{arith}
use Rattle.line.proofs.Lengths.{lengths_sum, wide_of, high_of, wide_size, high_size}
use Rattle.connected.proofs.last_index.Goals as goal

pub overflow_add-result : goal.overflow_add-result
overflow_add-result c =
    let s = c.requires.0 in
    let e = c.requires.1 in
    omega (arith, wide_of s e c.abs_diff.ensures, wide_size s e, high_of s e c.abs_diff-2.ensures, high_size s e)

pub returns : goal.returns
returns c =
    omega (arith, wide_of c.requires.0 c.requires.1 c.abs_diff.ensures, high_of c.requires.0 c.requires.1 c.abs_diff-2.ensures, lengths_sum c.args.start c.args.end)
