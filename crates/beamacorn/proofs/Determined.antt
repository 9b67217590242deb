-- Each contract of this crate, and so each exported one, determines its answer and every byte: any two results that it allows of the same arguments are equal. `Post` is the
-- contract as the source states it; the buffer, which comes first, is at exit the first of s. Assumes nothing.
use mathlib.Core.Path.{◌≡◌}
use mathlib.Core.List.{List}
use Prim.Native.Nat.{ℕ}
use Rattle.frames.specs.declared.Size.{Size}
use Rattle.whole.proofs.Determined.{One, OneBuffer, same}
use Rattle.beamacorn.proofs.beamacorn_line_length.Reads as line_length
use Rattle.beamacorn.proofs.beamacorn_line_point.Reads as line_point
use Rattle.beamacorn.proofs.beamacorn_line_has_point.Reads as line_has_point
use Rattle.beamacorn.proofs.beamacorn_connected_length.Reads as connected_length
use Rattle.beamacorn.proofs.beamacorn_connected_point.Reads as connected_point
use Rattle.beamacorn.proofs.beamacorn_connected_has_point.Reads as connected_has_point
use Rattle.beamacorn.proofs.beamacorn_triangle_contains.Reads as triangle_contains
use Rattle.beamacorn.proofs.beamacorn_triangle_rows.Reads as triangle_rows
use Rattle.beamacorn.proofs.beamacorn_triangle_row_span.Reads as triangle_row_span
use Rattle.beamacorn.proofs.beamacorn_circle_contains.Reads as circle_contains
use Rattle.beamacorn.proofs.beamacorn_circle_row_span.Reads as circle_row_span
use Rattle.beamacorn.proofs.beamacorn_frame_size.Reads as frame_size
use Rattle.beamacorn.proofs.beamacorn_pixel.Reads as pixel
use Rattle.beamacorn.proofs.beamacorn_set_pixel.Reads as set_pixel
use Rattle.beamacorn.proofs.beamacorn_fill.Reads as fill
use Rattle.beamacorn.proofs.beamacorn_draw_line.Reads as draw_line
use Rattle.beamacorn.proofs.beamacorn_draw_connected_line.Reads as draw_connected_line
use Rattle.beamacorn.proofs.beamacorn_draw_triangle.Reads as draw_triangle
use Rattle.beamacorn.proofs.beamacorn_draw_outline.Reads as draw_outline
use Rattle.beamacorn.proofs.beamacorn_draw_circle.Reads as draw_circle
use Rattle.beamacorn.proofs.beamacorn_lit.Reads as lit
use Rattle.beamacorn.proofs.beamacorn_image_size.Reads as image_size
use Rattle.beamacorn.proofs.beamacorn_write_image.Reads as write_image
use Rattle.beamacorn.proofs.beamacorn_read_image.Reads as read_image

-- ---- questions
pub questions_one :
    One line_length.Post × One line_point.Post × One line_has_point.Post × One connected_length.Post × One connected_point.Post
    × One connected_has_point.Post × One triangle_contains.Post × One triangle_rows.Post × One triangle_row_span.Post × One circle_contains.Post
    × One circle_row_span.Post × One frame_size.Post × One pixel.Post × One lit.Post × One image_size.Post
questions_one = search same

-- ---- calls that draw, and reading an image file: the answer, and the bytes that it leaves
pub calls_one :
    OneBuffer set_pixel.Post × OneBuffer fill.Post × OneBuffer draw_line.Post × OneBuffer draw_connected_line.Post
    × OneBuffer draw_triangle.Post × OneBuffer draw_outline.Post × OneBuffer draw_circle.Post × OneBuffer read_image.Post
calls_one = search same

-- writing an image file: the output is lent last
pub write_image_one : (κs : _) (args : _) (r q : _) (s t : _) → write_image.Post κs args r s → write_image.Post κs args q t
    → ◌≡◌ {A = Size × List ℕ} (r, s.1.1.1.1.1.1.0.now) (q, t.1.1.1.1.1.1.0.now)
write_image_one κs args r q s t = same
