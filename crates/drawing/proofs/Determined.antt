-- Each public contract determines its answer and every byte of the buffer: any two outcomes that it allows of the same arguments are equal. `Post`
-- is the contract as the source states it. Assumes nothing.
use Rattle.whole.proofs.Determined.{OneBuffer, same}
use Rattle.frames.proofs.Answer.{same_drawn}
use Rattle.drawing.proofs.draw_line.Reads as draw_line
use Rattle.drawing.proofs.draw_connected_line.Reads as draw_connected_line
use Rattle.drawing.proofs.draw_triangle.Reads as draw_triangle
use Rattle.drawing.proofs.draw_outline.Reads as draw_outline
use Rattle.drawing.proofs.draw_circle.Reads as draw_circle

pub calls_one :
    OneBuffer draw_line.Post × OneBuffer draw_connected_line.Post × OneBuffer draw_triangle.Post × OneBuffer draw_outline.Post × OneBuffer draw_circle.Post
calls_one = (
  (λ κs args r q s t h k. same_drawn (same h k)),
  (λ κs args r q s t h k. same_drawn (same h k)),
  (λ κs args r q s t h k. same_drawn (same h k)),
  (λ κs args r q s t h k. same_drawn (same h k)),
  (λ κs args r q s t h k. same_drawn (same h k)),
)
