-- `netpbm::transfer_row` copies the row, or turns its pixels. Assumes nothing.
use mathlib.Core.Path.{sym, ◌∙◌}
use native.Mathlib.Omega.{arith}
use Rattle.layout.specs.Packed.{row_bytes}
use Rattle.netpbm.proofs.Rows.{Transfer, source_end, target_end, both_long, some_long, row_copied, row_turned}
use Rattle.netpbm.proofs.transfer_row.Goals as goal
use Rattle.netpbm.proofs.transfer_row.Goals.{After-source_row-1}

pub slice_bounds-source_row-end : goal.slice_bounds-source_row-end
unfolding row_bytes
slice_bounds-source_row-end c = omega (arith, source_end c.requires.0 c.args.y c.requires.1)

pub slice_bounds-target_row-end : goal.slice_bounds-target_row-end
unfolding row_bytes
slice_bounds-target_row-end c = omega (arith, target_end c.requires.0 c.args.y c.requires.1)

-- what is known of both buffers
transfer : (c : After-source_row-1) → (let a = c.args in Transfer a.source a.from.now a.target a.to.now)
transfer c = record { frames = c.requires.0; from = λ i. (c.type_inv.from i).fits; to = λ i. (c.type_inv.to i).fits }

pub turn_row-requires : goal.turn_row-requires
unfolding row_bytes
turn_row-requires c = both_long (transfer (goal.at.turn_row-requires c).After-source_row-1) c.args.kept c.args.y c.requires.1

pub copy_row-requires : goal.copy_row-requires
unfolding row_bytes
copy_row-requires c =
    let T = transfer (goal.at.copy_row-requires c).After-source_row-1 in
    (both_long T c.args.kept c.args.y c.requires.1, some_long T c.args.kept c.args.y c.requires.1)

pub returns-then-is_turned : goal.returns-then-is_turned
unfolding row_bytes
returns-then-is_turned c =
    row_turned (transfer (goal.at.returns-then-is_turned c).After-source_row-1) c.args.kept (sym c.is_turned.ensures ∙ c.if-is_turned.true) c.args.y c.requires.1 c.turn_row.ensures

pub returns-else-is_turned : goal.returns-else-is_turned
unfolding row_bytes
returns-else-is_turned c =
    row_copied (transfer (goal.at.returns-else-is_turned c).After-source_row-1) c.args.kept (sym c.is_turned.ensures ∙ c.if-is_turned.false) c.args.y c.requires.1 c.copy_row.ensures
