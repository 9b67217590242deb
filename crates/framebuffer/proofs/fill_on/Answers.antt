-- `framebuffer::fill_on` where it is not refused fills the rectangle, the whole frame at once. Assumes nothing.
use mathlib.Core.Path.{refl, sym, ◌∙◌}
use borrow.Author.Tests.{not-false}
use Rattle.painting.proofs.Brushes.{calls}
use Rattle.frames.proofs.Calls.{filled_on}
use Rattle.framebuffer.proofs.fill_on.Goals as goal

-- refused
pub returns-in_err-accept_colour : goal.returns-in_err-accept_colour
returns-in_err-accept_colour c = search (calls, c.in_err-accept_colour.ensures)

pub returns-then-not-is_whole : goal.returns-then-not-is_whole
returns-then-not-is_whole c = search (calls, c.in_ok-accept_colour.ensures)

pub returns : goal.returns
returns c =
    let a = c.args in
    filled_on a.canvas a.colour a.buf.now c.in_ok-accept_colour.ensures c.requires (sym c.is_whole.ensures ∙ not-false _ c.if-not-is_whole.false-raw) refl
    c.fill_frame.ensures
