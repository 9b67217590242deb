-- `lights::lit_rows` has counted the rows above y after y turns. Assumes nothing.
use Prim.Native.Nat.{◌+◌, ◌*◌, ◌≤◌}
use native.Mathlib.Omega.{arith}
use lib.ListN.{length, length-take, length-drop}
use Rattle.lights.proofs.Rows.{row_bits, row_ends, rows_few, row_more, rows_lit}
use Rattle.lights.proofs.lit_rows.Goals as goal
use Rattle.lights.proofs.lit_rows.Goals.{After-lit_row-sum, In-loop-y}

room : (c : In-loop-y)
    → (let a = c.args in c.loop-y.y * a.frame.distance + a.frame.distance ≤ length a.buf.now)
room c = row_ends c.args.frame c.args.buf.now c.requires.0 c.requires.1 c.loop-y.y (omega arith)

pub slice_bounds-lit_row-count : goal.slice_bounds-lit_row-count
slice_bounds-lit_row-count c = omega (arith, room (goal.at.slice_bounds-lit_row-count c).In-loop-y)

pub slice_bounds-lit_row-start : goal.slice_bounds-lit_row-start
slice_bounds-lit_row-start c = omega (arith, room (goal.at.slice_bounds-lit_row-start c).In-loop-y)

pub lit_row-sum-requires : goal.lit_row-sum-requires
lit_row-sum-requires c =
    let r = room (goal.at.lit_row-sum-requires c).In-loop-y in
    let d = row_bits c.args.frame c.args.buf.now c.requires.0 c.requires.1 in
    let w = c.requires.0.described.width in
    (w, simp (length-take, length-drop) (omega arith))

-- a row more. What is counted is few, so that the sum fits
pub loop-y-preserved : goal.loop-y-preserved
loop-y-preserved c = row_more c.args.frame c.args.buf.now c.requires.0 c.requires.1 c.loop-y.y c.loop-y.invariant c.lit_row-sum.ensures

pub overflow_add-sum : goal.overflow_add-sum
overflow_add-sum c =
    omega (arith, rows_few c.args.frame c.args.buf.now c.requires.0 c.requires.1 (c.loop-y.y + 1) (omega arith) (loop-y-preserved (goal.at.overflow_add-sum c).After-lit_row-sum))

pub returns : goal.returns
returns c =
    rows_lit c.args.frame c.args.buf.now c.requires.0 c.requires.1 c.loop-y.y (omega arith) c.loop-y.invariant
