-- `painting::fill_each_row` has painted the rows above y. Assumes nothing.
use mathlib.Core.Path.{sym, ap, ◌∙◌}
use native.Mathlib.Omega.{arith}
use Rattle.layout.specs.Layout.{painted}
use Rattle.layout.proofs.Placing.{Placing}
use Rattle.layout.proofs.Spans.{columns}
use Rattle.layout.proofs.Painted.{rows_start, rows_then, rows_end}
use Rattle.frames.specs.Description.{raster}
use Rattle.frames.proofs.Refusals.{sound}
use Rattle.painting.proofs.fill_each_row.Goals as goal
use Rattle.painting.proofs.fill_each_row.Goals.{Start}

-- what the call may lean on
ok : (c : Start) → Placing (raster c.args.frame)
ok c = sound c.args.frame c.requires.0.accepted.described

pub loop-y-init : goal.loop-y-init
loop-y-init c = let a = c.args in sym (rows_start (raster a.frame) (ok (goal.at.loop-y-init c).Start) a.colour a.buf.now)

pub loop-y-preserved : goal.loop-y-preserved
loop-y-preserved c =
    let a = c.args in
    let l = c.loop-y in
    c.paint_columns.ensures
    ∙ ap (painted (raster a.frame) (columns l.y 0 a.frame.width) a.colour) l.invariant
    ∙ rows_then (raster a.frame) (ok (goal.at.loop-y-preserved c).Start) a.colour a.buf.now l.y

pub returns : goal.returns
returns c =
    let l = c.loop-y in
    l.invariant ∙ rows_end (raster c.args.frame) (ok (goal.at.returns c).Start) c.args.colour c.args.buf.now l.y (omega arith)
