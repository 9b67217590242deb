-- Calls as they are made: each by one of the library's functions or of those of `beamacorn`, which `beamacorn_c` exports to C and Rust, whose contract is all that is known of it.
use Rattle.std.specs.Prelude.{false, cond, List, [], ◌∷◌, ℕ}
use Rattle.frames.specs.declared.Frame.{Frame}
use Rattle.frames.specs.declared.Size.{Size}
use Rattle.drawing.specs.declared.Figure.TheVariants.{Fill, Pixel, Line, Connected, Triangle, Outline, Circle}
use Rattle.picture.specs.Calls.{Call, draw, read_image}
use Rattle.framebuffer.proofs.set_pixel.Reads as set_pixel
use Rattle.framebuffer.proofs.fill.Reads as fill
use Rattle.drawing.proofs.draw_line.Reads as draw_line
use Rattle.drawing.proofs.draw_connected_line.Reads as draw_connected_line
use Rattle.drawing.proofs.draw_triangle.Reads as draw_triangle
use Rattle.drawing.proofs.draw_outline.Reads as draw_outline
use Rattle.drawing.proofs.draw_circle.Reads as draw_circle
use Rattle.netpbm.proofs.read_image.Reads as image_read
use Rattle.netpbm.proofs.write_image.Reads as write_image
use Rattle.beamacorn.proofs.beamacorn_set_pixel.Reads as exported_set_pixel
use Rattle.beamacorn.proofs.beamacorn_fill.Reads as exported_fill
use Rattle.beamacorn.proofs.beamacorn_draw_line.Reads as exported_draw_line
use Rattle.beamacorn.proofs.beamacorn_draw_connected_line.Reads as exported_draw_connected_line
use Rattle.beamacorn.proofs.beamacorn_draw_triangle.Reads as exported_draw_triangle
use Rattle.beamacorn.proofs.beamacorn_draw_outline.Reads as exported_draw_outline
use Rattle.beamacorn.proofs.beamacorn_draw_circle.Reads as exported_draw_circle
use Rattle.beamacorn.proofs.beamacorn_read_image.Reads as exported_read_image
use Rattle.beamacorn.proofs.beamacorn_write_image.Reads as exported_write_image
use Rattle.mission.specs.Arguments.{one, two, three, framed, behind}
use Rattle.mission.specs.Results.{as_number, value_or, as_size}

-- a call made on a frame over some bytes: the number that it answers, the count, and the bytes afterwards. For a pixel inside stands 1, and 0 for none; a read answers no count, and 0 stands for it
pub data Made : Frame → Call → List ℕ → ℕ → ℕ → List ℕ → Type 0 where
  by_set_pixel : (κs : _) (a : _) (r : _) (s : _) → set_pixel.Post κs a r s
      → Made a.1.0 (draw (Pixel a.1.1.0) a.1.1.1.0) a.0.now (as_number r) (cond (value_or false r) 1 0) s.0.now
  by_fill : (κs : _) (a : _) (r : _) (s : _) → fill.Post κs a r s → Made a.1.0 (draw Fill a.1.1.0) a.0.now (as_number r) (value_or 0 r) s.0.now
  by_draw_line : (κs : _) (a : _) (r : _) (s : _) → draw_line.Post κs a r s
      → Made a.1.0 (draw (Line a.1.1.0 a.1.1.1.0) a.1.1.1.1.0) a.0.now (as_number r) (value_or 0 r) s.0.now
  by_draw_connected_line : (κs : _) (a : _) (r : _) (s : _) → draw_connected_line.Post κs a r s
      → Made a.1.0 (draw (Connected a.1.1.0 a.1.1.1.0) a.1.1.1.1.0) a.0.now (as_number r) (value_or 0 r) s.0.now
  by_draw_triangle : (κs : _) (a : _) (r : _) (s : _) → draw_triangle.Post κs a r s
      → Made a.1.0 (draw (Triangle a.1.1.0 a.1.1.1.0 a.1.1.1.1.0) a.1.1.1.1.1.0) a.0.now (as_number r) (value_or 0 r) s.0.now
  by_draw_outline : (κs : _) (a : _) (r : _) (s : _) → draw_outline.Post κs a r s
      → Made a.1.0 (draw (Outline a.1.1.0 a.1.1.1.0 a.1.1.1.1.0) a.1.1.1.1.1.0) a.0.now (as_number r) (value_or 0 r) s.0.now
  by_draw_circle : (κs : _) (a : _) (r : _) (s : _) → draw_circle.Post κs a r s
      → Made a.1.0 (draw (Circle a.1.1.0 a.1.1.1.0) a.1.1.1.1.0) a.0.now (as_number r) (value_or 0 r) s.0.now
  by_read_image : (κs : _) (a : _) (r : _) (s : _) → image_read.Post κs a r s → Made a.1.0 (read_image a.1.1.0.now) a.0.now (as_number r) 0 s.0.now
  by_exported_set_pixel : (κs : _) (a : _) (r : _) (s : _) → exported_set_pixel.Post κs a r s
      → Made (framed a.1) (draw (Pixel (one (behind a.1))) (behind a.1).1.1.0) a.0.now r.number (cond r.inside 1 0) s.0.now
  by_exported_fill : (κs : _) (a : _) (r : _) (s : _) → exported_fill.Post κs a r s
      → Made (framed a.1) (draw Fill (behind a.1).0) a.0.now r.number r.count s.0.now
  by_exported_draw_line : (κs : _) (a : _) (r : _) (s : _) → exported_draw_line.Post κs a r s
      → Made (framed a.1) (draw (Line (one (behind a.1)) (two (behind a.1))) (behind a.1).1.1.1.1.0) a.0.now r.number r.count s.0.now
  by_exported_draw_connected_line : (κs : _) (a : _) (r : _) (s : _) → exported_draw_connected_line.Post κs a r s
      → Made (framed a.1) (draw (Connected (one (behind a.1)) (two (behind a.1))) (behind a.1).1.1.1.1.0) a.0.now r.number r.count s.0.now
  by_exported_draw_triangle : (κs : _) (a : _) (r : _) (s : _) → exported_draw_triangle.Post κs a r s
      → Made (framed a.1) (draw (Triangle (one (behind a.1)) (two (behind a.1)) (three (behind a.1))) (behind a.1).1.1.1.1.1.1.0) a.0.now r.number r.count s.0.now
  by_exported_draw_outline : (κs : _) (a : _) (r : _) (s : _) → exported_draw_outline.Post κs a r s
      → Made (framed a.1) (draw (Outline (one (behind a.1)) (two (behind a.1)) (three (behind a.1))) (behind a.1).1.1.1.1.1.1.0) a.0.now r.number r.count s.0.now
  by_exported_draw_circle : (κs : _) (a : _) (r : _) (s : _) → exported_draw_circle.Post κs a r s
      → Made (framed a.1) (draw (Circle (one (behind a.1)) (behind a.1).1.1.0) (behind a.1).1.1.1.0) a.0.now r.number r.count s.0.now
  by_exported_read_image : (κs : _) (a : _) (r : _) (s : _) → exported_read_image.Post κs a r s
      → Made (framed a.1) (read_image (behind a.1).0.now) a.0.now r 0 s.0.now

-- calls made one after the other on one frame, from the bytes at the start to those at the end
pub data Run (f : Frame) : List Call → List ℕ → List ℕ → Type 0 where
  ended : {b : List ℕ} → Run f [] b b
  call : {o : Call} {os : List Call} {b c e : List ℕ} {number count : ℕ} → Made f o b number count c → Run f os c e → Run f (o ∷ os) b e

-- a frame written as an image file into an output: the answer, and the output afterwards
pub data Written : Frame → List ℕ → List ℕ → Size → List ℕ → Type 0 where
  by_write_image : (κs : _) (a : _) (r : _) (s : _) → write_image.Post κs a r s → Written a.1.0 a.0.now a.1.1.0.now (as_size r) s.1.1.0.now
  by_exported_write_image : (κs : _) (a : _) (r : _) (s : _) → exported_write_image.Post κs a r s
      → Written (framed a.1) a.0.now (behind a.1).0.now r (behind s.1).0.now
