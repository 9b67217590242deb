-- The theorem about runs of the code: a run is a list of calls and of reads, each made by the compiled function, whose contract is all that is known of it.
-- Assumes nothing.
use mathlib.Core.Path.{◌≡◌, refl, sym, ap, ◌∙◌}
use mathlib.Core.List.{List, [], ◌∷◌}
use mathlib.Core.Logic.{◌↔◌}
use Prim.Native.Nat.{ℕ, ◌<◌}
use Rattle.refusals.specs.Refusal.{as_number}
use Rattle.frames.specs.Answer.{as_drawn, as_placed}
use Rattle.frames.specs.declared.Frame.{Frame}
use Rattle.framebuffer.proofs.set_pixel.Reads as set_pixel
use Rattle.framebuffer.proofs.fill.Reads as fill
use Rattle.drawing.proofs.draw_line.Reads as draw_line
use Rattle.drawing.proofs.draw_triangle.Reads as draw_triangle
use Rattle.drawing.proofs.draw_outline.Reads as draw_outline
use Rattle.drawing.proofs.draw_circle.Reads as draw_circle
use Rattle.drawing.proofs.draw_connected_line.Reads as draw_connected_line
use Rattle.netpbm.proofs.read_image.Reads as image_read
use Rattle.drawing.specs.declared.Figure.TheVariants.{Fill, Pixel, Line, Connected, Triangle, Outline, Circle}
use Rattle.picture.specs.Calls.{Call, draw, read_image, blank, picture_after, after_calls}
use Rattle.picture.proofs.Picture.{zeros, one_picture_one_frame}
use Rattle.picture.proofs.Ties.{Does, counts_does, places_does, loads_does}

-- a call made by its function: the arguments, the answer, whose number is kept, and the bytes afterwards are as the function's contract says
pub data Made : Frame → Call → List ℕ → ℕ → List ℕ → Type 0 where
  by_set_pixel : (κs : _) (a : _) (r : _) (s : _) → set_pixel.Post κs a r s → Made a.1.0 (draw (Pixel a.1.1.0) a.1.1.1.0) a.0.now (as_placed r).number s.0.now
  by_fill : (κs : _) (a : _) (r : _) (s : _) → fill.Post κs a r s → Made a.1.0 (draw Fill a.1.1.0) a.0.now (as_drawn r).number s.0.now
  by_draw_line : (κs : _) (a : _) (r : _) (s : _) → draw_line.Post κs a r s
      → Made a.1.0 (draw (Line a.1.1.0 a.1.1.1.0) a.1.1.1.1.0) a.0.now (as_drawn r).number s.0.now
  by_draw_triangle : (κs : _) (a : _) (r : _) (s : _) → draw_triangle.Post κs a r s
      → Made a.1.0 (draw (Triangle a.1.1.0 a.1.1.1.0 a.1.1.1.1.0) a.1.1.1.1.1.0) a.0.now (as_drawn r).number s.0.now
  by_draw_outline : (κs : _) (a : _) (r : _) (s : _) → draw_outline.Post κs a r s
      → Made a.1.0 (draw (Outline a.1.1.0 a.1.1.1.0 a.1.1.1.1.0) a.1.1.1.1.1.0) a.0.now (as_drawn r).number s.0.now
  by_draw_circle : (κs : _) (a : _) (r : _) (s : _) → draw_circle.Post κs a r s
      → Made a.1.0 (draw (Circle a.1.1.0 a.1.1.1.0) a.1.1.1.1.0) a.0.now (as_drawn r).number s.0.now
  by_draw_connected_line : (κs : _) (a : _) (r : _) (s : _) → draw_connected_line.Post κs a r s
      → Made a.1.0 (draw (Connected a.1.1.0 a.1.1.1.0) a.1.1.1.1.0) a.0.now (as_drawn r).number s.0.now
  by_read_image : (κs : _) (a : _) (r : _) (s : _) → image_read.Post κs a r s → Made a.1.0 (read_image a.1.1.0.now) a.0.now (as_number r) s.0.now

-- calls made one after the other on one frame, from the bytes at the start to those at the end
pub data Run (f : Frame) : List Call → List ℕ → List ℕ → Type 0 where
  ended : {b : List ℕ} → Run f [] b b
  call : {o : Call} {os : List Call} {b c e : List ℕ} {n : ℕ} → Made f o b n c → Run f os c e → Run f (o ∷ os) b e

pub made_does : {f : Frame} {o : Call} {b c : List ℕ} {n : ℕ} → Made f o b n c → Does f o b n c
made_does (by_set_pixel κs a r s h) = places_does _ _ _ _ h
made_does (by_fill κs a r s h) = counts_does _ _ _ _ h
made_does (by_draw_line κs a r s h) = counts_does _ _ _ _ h
made_does (by_draw_triangle κs a r s h) = counts_does _ _ _ _ h
made_does (by_draw_outline κs a r s h) = counts_does _ _ _ _ h
made_does (by_draw_circle κs a r s h) = counts_does _ _ _ _ h
made_does (by_draw_connected_line κs a r s h) = counts_does _ _ _ _ h
made_does (by_read_image κs a r s h) = loads_does _ _ _ h

-- a run leaves what its list of calls leaves
pub run_leaves : {f : Frame} {os : List Call} {b c : List ℕ} → Run f os b c → c ≡ after_calls f os b
run_leaves ended = refl
run_leaves {f} (call {os = os} m r) = run_leaves r ∙ ap (after_calls f os) (made_does m).bytes

-- ONE PICTURE, ONE FRAME, of any two runs of the code from zero-filled buffers of one length
pub one_picture_one_run : (f : Frame) (n : ℕ) {xs ys : List Call} {b c : List ℕ} → Run f xs (zeros n) b → Run f ys (zeros n) c
    → (b ≡ c) ↔ ((x y : ℕ) → x < f.width → y < f.height → picture_after f n xs blank x y ≡ picture_after f n ys blank x y)
one_picture_one_run f n {xs} {ys} p q =
    let h = one_picture_one_frame f n xs ys in
    (λ e. h.0 (sym (run_leaves p) ∙ e ∙ run_leaves q), λ a. run_leaves p ∙ h.1 a ∙ sym (run_leaves q))
