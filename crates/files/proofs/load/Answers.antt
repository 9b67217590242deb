-- `files::load` hands on what the library answers and leaves of the frame, where the line is the number of bytes alone. Assumes nothing.
use Rattle.readers.proofs.Readings.{unanswered, answered}
use Rattle.calls.proofs.Calls.{said_beside}
use Rattle.files.specs.Files.{load_call}
use Rattle.files.proofs.Turns.{part_count, load_said_lem}
use Rattle.files.proofs.load.Goals as goal

pub returns-in_err-length : goal.returns-in_err-length
unfolding load_call
returns-in_err-length c = unanswered _ _ (said_beside _ c.from_residual.ensures) c.in_err-length.ensures

pub slice_bounds-read_image-end : goal.slice_bounds-read_image-end
slice_bounds-read_image-end c = part_count c.args.said.now c.args.at c.in_ok-length.length c.args.file.now c.requires c.in_ok-length.ensures

pub returns : goal.returns
unfolding load_call
returns c = answered _ _ c.in_ok-length.ensures (load_said_lem _ c.into.ensures c.read_image.ensures)
