-- Each exported function promises what the function of `beamacorn` that has its name promises, position by position, and asks what that asks, which is nothing: so what is proved of
-- those, as what each position of a call means and the runs of the crate `mission`, holds of what C and Rust call. `Post` and `Pre` are a contract as its source states it. Assumes
-- nothing.
use mathlib.Core.Path.{◌≡◌, refl}
use Rattle.beamacorn.proofs.beamacorn_line_length.Reads as line_length
use Rattle.beamacorn_c.proofs.beamacorn_line_length.Reads as exported_line_length
use Rattle.beamacorn.proofs.beamacorn_line_point.Reads as line_point
use Rattle.beamacorn_c.proofs.beamacorn_line_point.Reads as exported_line_point
use Rattle.beamacorn.proofs.beamacorn_line_has_point.Reads as line_has_point
use Rattle.beamacorn_c.proofs.beamacorn_line_has_point.Reads as exported_line_has_point
use Rattle.beamacorn.proofs.beamacorn_connected_length.Reads as connected_length
use Rattle.beamacorn_c.proofs.beamacorn_connected_length.Reads as exported_connected_length
use Rattle.beamacorn.proofs.beamacorn_connected_point.Reads as connected_point
use Rattle.beamacorn_c.proofs.beamacorn_connected_point.Reads as exported_connected_point
use Rattle.beamacorn.proofs.beamacorn_connected_has_point.Reads as connected_has_point
use Rattle.beamacorn_c.proofs.beamacorn_connected_has_point.Reads as exported_connected_has_point
use Rattle.beamacorn.proofs.beamacorn_triangle_contains.Reads as triangle_contains
use Rattle.beamacorn_c.proofs.beamacorn_triangle_contains.Reads as exported_triangle_contains
use Rattle.beamacorn.proofs.beamacorn_triangle_rows.Reads as triangle_rows
use Rattle.beamacorn_c.proofs.beamacorn_triangle_rows.Reads as exported_triangle_rows
use Rattle.beamacorn.proofs.beamacorn_triangle_row_span.Reads as triangle_row_span
use Rattle.beamacorn_c.proofs.beamacorn_triangle_row_span.Reads as exported_triangle_row_span
use Rattle.beamacorn.proofs.beamacorn_circle_contains.Reads as circle_contains
use Rattle.beamacorn_c.proofs.beamacorn_circle_contains.Reads as exported_circle_contains
use Rattle.beamacorn.proofs.beamacorn_circle_row_span.Reads as circle_row_span
use Rattle.beamacorn_c.proofs.beamacorn_circle_row_span.Reads as exported_circle_row_span
use Rattle.beamacorn.proofs.beamacorn_frame_size.Reads as frame_size
use Rattle.beamacorn_c.proofs.beamacorn_frame_size.Reads as exported_frame_size
use Rattle.beamacorn.proofs.beamacorn_set_pixel.Reads as set_pixel
use Rattle.beamacorn_c.proofs.beamacorn_set_pixel.Reads as exported_set_pixel
use Rattle.beamacorn.proofs.beamacorn_pixel.Reads as pixel
use Rattle.beamacorn_c.proofs.beamacorn_pixel.Reads as exported_pixel
use Rattle.beamacorn.proofs.beamacorn_fill.Reads as fill
use Rattle.beamacorn_c.proofs.beamacorn_fill.Reads as exported_fill
use Rattle.beamacorn.proofs.beamacorn_draw_line.Reads as draw_line
use Rattle.beamacorn_c.proofs.beamacorn_draw_line.Reads as exported_draw_line
use Rattle.beamacorn.proofs.beamacorn_draw_connected_line.Reads as draw_connected_line
use Rattle.beamacorn_c.proofs.beamacorn_draw_connected_line.Reads as exported_draw_connected_line
use Rattle.beamacorn.proofs.beamacorn_draw_triangle.Reads as draw_triangle
use Rattle.beamacorn_c.proofs.beamacorn_draw_triangle.Reads as exported_draw_triangle
use Rattle.beamacorn.proofs.beamacorn_draw_outline.Reads as draw_outline
use Rattle.beamacorn_c.proofs.beamacorn_draw_outline.Reads as exported_draw_outline
use Rattle.beamacorn.proofs.beamacorn_draw_circle.Reads as draw_circle
use Rattle.beamacorn_c.proofs.beamacorn_draw_circle.Reads as exported_draw_circle
use Rattle.beamacorn.proofs.beamacorn_lit.Reads as lit
use Rattle.beamacorn_c.proofs.beamacorn_lit.Reads as exported_lit
use Rattle.beamacorn.proofs.beamacorn_image_size.Reads as image_size
use Rattle.beamacorn_c.proofs.beamacorn_image_size.Reads as exported_image_size
use Rattle.beamacorn.proofs.beamacorn_write_image.Reads as write_image
use Rattle.beamacorn_c.proofs.beamacorn_write_image.Reads as exported_write_image
use Rattle.beamacorn.proofs.beamacorn_read_image.Reads as read_image
use Rattle.beamacorn_c.proofs.beamacorn_read_image.Reads as exported_read_image

-- ---- what is promised
pub same_line_length : exported_line_length.Post ≡ line_length.Post
same_line_length = refl

pub same_line_point : exported_line_point.Post ≡ line_point.Post
same_line_point = refl

pub same_line_has_point : exported_line_has_point.Post ≡ line_has_point.Post
same_line_has_point = refl

pub same_connected_length : exported_connected_length.Post ≡ connected_length.Post
same_connected_length = refl

pub same_connected_point : exported_connected_point.Post ≡ connected_point.Post
same_connected_point = refl

pub same_connected_has_point : exported_connected_has_point.Post ≡ connected_has_point.Post
same_connected_has_point = refl

pub same_triangle_contains : exported_triangle_contains.Post ≡ triangle_contains.Post
same_triangle_contains = refl

pub same_triangle_rows : exported_triangle_rows.Post ≡ triangle_rows.Post
same_triangle_rows = refl

pub same_triangle_row_span : exported_triangle_row_span.Post ≡ triangle_row_span.Post
same_triangle_row_span = refl

pub same_circle_contains : exported_circle_contains.Post ≡ circle_contains.Post
same_circle_contains = refl

pub same_circle_row_span : exported_circle_row_span.Post ≡ circle_row_span.Post
same_circle_row_span = refl

pub same_frame_size : exported_frame_size.Post ≡ frame_size.Post
same_frame_size = refl

pub same_set_pixel : exported_set_pixel.Post ≡ set_pixel.Post
same_set_pixel = refl

pub same_pixel : exported_pixel.Post ≡ pixel.Post
same_pixel = refl

pub same_fill : exported_fill.Post ≡ fill.Post
same_fill = refl

pub same_draw_line : exported_draw_line.Post ≡ draw_line.Post
same_draw_line = refl

pub same_draw_connected_line : exported_draw_connected_line.Post ≡ draw_connected_line.Post
same_draw_connected_line = refl

pub same_draw_triangle : exported_draw_triangle.Post ≡ draw_triangle.Post
same_draw_triangle = refl

pub same_draw_outline : exported_draw_outline.Post ≡ draw_outline.Post
same_draw_outline = refl

pub same_draw_circle : exported_draw_circle.Post ≡ draw_circle.Post
same_draw_circle = refl

pub same_lit : exported_lit.Post ≡ lit.Post
same_lit = refl

pub same_image_size : exported_image_size.Post ≡ image_size.Post
same_image_size = refl

pub same_write_image : exported_write_image.Post ≡ write_image.Post
same_write_image = refl

pub same_read_image : exported_read_image.Post ≡ read_image.Post
same_read_image = refl

-- ---- what is asked
pub asks_line_length : exported_line_length.Pre ≡ line_length.Pre
asks_line_length = refl

pub asks_line_point : exported_line_point.Pre ≡ line_point.Pre
asks_line_point = refl

pub asks_line_has_point : exported_line_has_point.Pre ≡ line_has_point.Pre
asks_line_has_point = refl

pub asks_connected_length : exported_connected_length.Pre ≡ connected_length.Pre
asks_connected_length = refl

pub asks_connected_point : exported_connected_point.Pre ≡ connected_point.Pre
asks_connected_point = refl

pub asks_connected_has_point : exported_connected_has_point.Pre ≡ connected_has_point.Pre
asks_connected_has_point = refl

pub asks_triangle_contains : exported_triangle_contains.Pre ≡ triangle_contains.Pre
asks_triangle_contains = refl

pub asks_triangle_rows : exported_triangle_rows.Pre ≡ triangle_rows.Pre
asks_triangle_rows = refl

pub asks_triangle_row_span : exported_triangle_row_span.Pre ≡ triangle_row_span.Pre
asks_triangle_row_span = refl

pub asks_circle_contains : exported_circle_contains.Pre ≡ circle_contains.Pre
asks_circle_contains = refl

pub asks_circle_row_span : exported_circle_row_span.Pre ≡ circle_row_span.Pre
asks_circle_row_span = refl

pub asks_frame_size : exported_frame_size.Pre ≡ frame_size.Pre
asks_frame_size = refl

pub asks_set_pixel : exported_set_pixel.Pre ≡ set_pixel.Pre
asks_set_pixel = refl

pub asks_pixel : exported_pixel.Pre ≡ pixel.Pre
asks_pixel = refl

pub asks_fill : exported_fill.Pre ≡ fill.Pre
asks_fill = refl

pub asks_draw_line : exported_draw_line.Pre ≡ draw_line.Pre
asks_draw_line = refl

pub asks_draw_connected_line : exported_draw_connected_line.Pre ≡ draw_connected_line.Pre
asks_draw_connected_line = refl

pub asks_draw_triangle : exported_draw_triangle.Pre ≡ draw_triangle.Pre
asks_draw_triangle = refl

pub asks_draw_outline : exported_draw_outline.Pre ≡ draw_outline.Pre
asks_draw_outline = refl

pub asks_draw_circle : exported_draw_circle.Pre ≡ draw_circle.Pre
asks_draw_circle = refl

pub asks_lit : exported_lit.Pre ≡ lit.Pre
asks_lit = refl

pub asks_image_size : exported_image_size.Pre ≡ image_size.Pre
asks_image_size = refl

pub asks_write_image : exported_write_image.Pre ≡ write_image.Pre
asks_write_image = refl

pub asks_read_image : exported_read_image.Pre ≡ read_image.Pre
asks_read_image = refl
