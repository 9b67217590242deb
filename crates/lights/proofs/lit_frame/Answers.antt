-- `lights::lit_frame` counts the frame's bits as one run, or row by row. Assumes nothing.
use mathlib.Core.Path.{◌≡◌, sym, ◌∙◌}
use Prim.Native.Nat.{ℕ, ◌*◌, ◌≤◌}
use native.Mathlib.Omega.{arith}
use lib.ListN.{length, take}
use lib.Seq.{length-take-le}
use Rattle.lights.proofs.Ones.{ones_lit}
use Rattle.lights.proofs.Rows.{run_room, run_lit}
use Rattle.lights.proofs.lit_frame.Goals as goal
use Rattle.lights.proofs.lit_frame.Goals.{Then-frame}

module _ (c : Then-frame) where
  -- as one run all rows are few bytes, and in the buffer
  abbrev bytes : ℕ
  bytes = c.args.frame.distance * c.args.frame.height

  room : (bytes ≤ 524288) × (bytes ≤ length c.args.buf.now)
  room = run_room c.args.frame c.args.buf.now c.requires.0 c.requires.1 c.if-frame.true

  lent : bytes ≡ length (take bytes c.args.buf.now)
  lent = sym (length-take-le bytes c.args.buf.now room.1)

pub slice_bounds-lit_run-end : goal.slice_bounds-lit_run-end
slice_bounds-lit_run-end c = lent (goal.at.slice_bounds-lit_run-end c).Then-frame

pub lit_run-requires : goal.lit_run-requires
lit_run-requires c = let s = (goal.at.lit_run-requires c).Then-frame in omega (arith, room s, lent s)

pub returns-then-frame : goal.returns-then-frame
returns-then-frame c =
    let f = c.args.frame in
    let b = c.args.buf.now in
    let s = (goal.at.returns-then-frame c).Then-frame in
    c.lit_run.ensures
    ∙ ones_lit b (λ i. (c.type_inv.buf i).fits) (bytes s) (room s).1
    ∙ run_lit f b c.requires.0 c.requires.1 c.if-frame.true
