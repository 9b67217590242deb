-- `netpbm::transfer_rows` copies the rows as one run where it may, else has taken the first y rows over after y turns. Assumes nothing.
use mathlib.Core.Path.{◌≡◌, sym, ap, ◌∙◌}
use mathlib.Core.List.{List, ◌++◌}
use Prim.Native.Nat.{ℕ, ◌*◌, ◌≤◌}
use native.Mathlib.Omega.{arith}
use lib.ListN.{length, take, drop}
use lib.Seq.{length-take-le}
use Rattle.frames.specs.Description.{size}
use Rattle.netpbm.proofs.Formats.{same_size}
use Rattle.netpbm.proofs.Rows.{Transfer, copied_front, run_copied, rows, one_row, all_rows}
use Rattle.netpbm.proofs.transfer_rows.Goals as goal
use Rattle.netpbm.proofs.transfer_rows.Goals.{After-is_run, Then-is_run}

-- what is known of both buffers
transfer : (c : After-is_run) → (let a = c.args in Transfer a.source a.from.now a.target a.to.now)
transfer c = record { frames = c.requires; from = λ i. (c.type_inv.from i).fits; to = λ i. (c.type_inv.to i).fits }

-- the bytes of a run lie within both buffers
module _ (c : Then-is_run) where
  abbrev bytes : ℕ
  bytes = c.args.target.distance * c.args.target.height

  room : (bytes ≤ length c.args.from.now) × (bytes ≤ length c.args.to.now)
  unfolding size
  room =
      let A = c.requires in
      (omega (arith, A.source.room, same_size c.args.source c.args.target (sym c.is_run.ensures ∙ c.if-is_run.true) A.height), A.target.accepted.room)

  source_long : bytes ≡ length (take bytes c.args.from.now)
  source_long = sym (length-take-le bytes c.args.from.now room.0)

  target_long : bytes ≡ length (take bytes c.args.to.now)
  target_long = sym (length-take-le bytes c.args.to.now room.1)

pub slice_bounds-copy_run-end : goal.slice_bounds-copy_run-end
slice_bounds-copy_run-end c = source_long (goal.at.slice_bounds-copy_run-end c).Then-is_run

pub slice_bounds-copy_run-end-then-is_run : goal.slice_bounds-copy_run-end-then-is_run
slice_bounds-copy_run-end-then-is_run c = (room (goal.at.slice_bounds-copy_run-end-then-is_run c).Then-is_run).1

pub slice_bounds-copy_run-end-then-is_run-2 : goal.slice_bounds-copy_run-end-then-is_run-2
slice_bounds-copy_run-end-then-is_run-2 c = target_long (goal.at.slice_bounds-copy_run-end-then-is_run-2 c).Then-is_run

pub copy_run-requires : goal.copy_run-requires
copy_run-requires c = let s = (goal.at.copy_run-requires c).Then-is_run in sym (source_long s) ∙ target_long s

pub returns-then-is_run : goal.returns-then-is_run
unfolding size
returns-then-is_run c =
    let a = c.args in
    let s = (goal.at.returns-then-is_run c).Then-is_run in
    ap (λ (l : List ℕ). l ++ drop (bytes s) a.to.now) c.copy_run.ensures
    ∙ copied_front (bytes s) a.from.now a.to.now (room s).0 (room s).1
    ∙ run_copied (transfer (goal.at.returns-then-is_run c).After-is_run) a.kept (sym c.is_run.ensures ∙ c.if-is_run.true)

pub loop-y-preserved : goal.loop-y-preserved
loop-y-preserved c =
    c.transfer_row.ensures ∙ one_row (transfer (goal.at.loop-y-preserved c).After-is_run) c.args.kept c.loop-y.y c.loop-y-test.true c.loop-y.invariant

pub returns-after-loop-y : goal.returns-after-loop-y
returns-after-loop-y c =
    let a = c.args in
    let e : c.loop-y.y ≡ a.target.height = omega arith in
    c.loop-y.invariant ∙ ap (rows a.source a.from.now a.target a.kept a.to.now) e ∙ all_rows (transfer (goal.at.returns-after-loop-y c).After-is_run) a.kept
