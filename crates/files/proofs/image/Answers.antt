-- `files::image` hands on what the library answers and leaves of the first bytes, where the line is their number alone. Assumes nothing.
use Rattle.readers.proofs.Readings.{unanswered, answered}
use Rattle.calls.proofs.Calls.{said_beside}
use Rattle.files.specs.Files.{image_call}
use Rattle.files.proofs.Turns.{part_within, part_count, image_said_lem}
use Rattle.files.proofs.image.Goals as goal

pub returns-in_err-room : goal.returns-in_err-room
unfolding image_call
returns-in_err-room c = unanswered _ _ (said_beside _ c.from_residual.ensures) c.in_err-room.ensures

pub slice_bounds-write_image-end : goal.slice_bounds-write_image-end
slice_bounds-write_image-end c = part_within c.args.said.now c.args.at c.in_ok-room.room c.args.file.now c.requires c.in_ok-room.ensures

pub slice_bounds-write_image-end-2 : goal.slice_bounds-write_image-end-2
slice_bounds-write_image-end-2 c = part_count c.args.said.now c.args.at c.in_ok-room.room c.args.file.now c.requires c.in_ok-room.ensures

pub returns : goal.returns
unfolding image_call
returns c = answered _ _ c.in_ok-room.ensures (image_said_lem c.args.file.now c.in_ok-room.room _ c.into.ensures c.write_image.ensures)
