-- `netpbm::accept_writing` asks the frame, the format and the room, in this order. Assumes nothing.
use Rattle.frames.specs.Description.{frame_tests}
use Rattle.refusals.proofs.Numbers.{refused_with}
use Rattle.netpbm.specs.Written.{write_tests}
use Rattle.netpbm.proofs.accept_writing.Goals as goal

pub returns-in_err-accept_frame-clause-number : goal.returns-in_err-accept_frame-clause-number
unfolding write_tests
returns-in_err-accept_frame-clause-number c = refused_with _ _ c.from_residual.ensures (frame_tests c.args.frame c.args.len) _ c.in_err-accept_frame.ensures.number
