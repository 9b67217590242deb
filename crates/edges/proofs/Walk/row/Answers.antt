-- `edges::Walk::row` hands out the points of the three edges on row y. Assumes nothing.
use mathlib.Core.Path.{◌≡◌}
use mir.Syntax.{w32}
use mir.Val.{to_z, of_z}
use mir.Facts.{to_z-of_z}
use borrow.Author.Rules.{rules}
use Rattle.edges.proofs.Rows.{row_done}
use Rattle.edges.proofs.Walk.row.Goals as goal

pub returns : goal.returns
returns c =
    let w = c.args.self in
    let first = c.on_row-first.result in
    let second = c.on_row-second.result in
    let third = c.on_row-third.result in
    let y : to_z w32 (of_z w32 c.args.y) ≡ c.args.y = to_z-of_z c.ranges.y in
    let low : to_z w32 (of_z w32 third.met.low) ≡ third.met.low = search rules in
    let high : to_z w32 (of_z w32 third.met.high) ≡ third.met.high = search rules in
    λ t solid at.
    rw (low, high)
    (row_done w c.args.y first second third (rw y at c.on_row-first.ensures) (rw y at c.on_row-second.ensures) (rw y at c.on_row-third.ensures) t solid at)
