-- `text::parts::first_numbers` reads what stands before the first LF. Assumes nothing.
use mathlib.Core.Path.{sym}
use native.Mathlib.Omega.{arith}
use lib.Seq.{length-take-le}
use Rattle.text.proofs.Parting.{until_within}
use Rattle.text.proofs.parts.first_numbers.Goals as goal

pub slice_bounds-read_numbers-end : goal.slice_bounds-read_numbers-end
slice_bounds-read_numbers-end g c =
    let s = c.args.input.now in
    sym (length-take-le c.find-end.result s (omega (arith, c.find-end.ensures, until_within 10 s)))
