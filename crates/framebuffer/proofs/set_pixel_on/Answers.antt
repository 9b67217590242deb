-- `framebuffer::set_pixel_on` where it is not refused puts the pixel within the rectangle. Assumes nothing.
use Rattle.painting.proofs.Brushes.{calls}
use Rattle.framebuffer.proofs.set_pixel_on.Goals as goal

pub returns-in_err-accept_colour : goal.returns-in_err-accept_colour
returns-in_err-accept_colour c = search (calls, c.in_err-accept_colour.ensures)

pub returns : goal.returns
returns c = search (calls, c.in_ok-accept_colour.ensures)
