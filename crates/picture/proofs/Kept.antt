-- Reading and padding after any run of the code, on an accepted frame: what `pixel` answers, and what no call changes. Assumes nothing.
use mathlib.Core.Path.{◌≡◌, refl, sym, ap, subst, ◌∙◌}
use mathlib.Core.Bool.{true, not}
use mathlib.Core.List.{List, []}
use Prim.Native.Nat.{ℕ, ◌+◌, ◌-◌, ◌*◌, ◌≤◌, ◌<◌}
use native.Mathlib.Omega.{arith}
use lib.IntN.{pos}
use lib.ListN.{length, get_or, length-replicate}
use Rattle.refusals.specs.First.{first}
use Rattle.refusals.proofs.First.{passed, goes_on}
use Rattle.layout.specs.Digits.{digit}
use Rattle.layout.specs.Layout.{Picture, shown, rendered}
use Rattle.layout.specs.Packed.{row_bytes}
use Rattle.layout.proofs.Padding.{padding_stays, gap_stays, tail_stays}
use Rattle.layout.proofs.Pictures.{rendered_length, shown_rendered, shown_colour, shown_zeros}
use Rattle.frames.specs.declared.Frame.{Frame}
use Rattle.std.specs.Prelude.{Ok}
use Rattle.frames.specs.Answer.{read}
use Rattle.frames.proofs.Answer.{same_read}
use Rattle.frames.specs.Description.{arranged, raster, size, is_outside, frame_tests, read_tests, colour_at, whole_window}
use Rattle.frames.specs.Judged.{Accepted}
use Rattle.frames.proofs.Refusals.{is_accepted, frame_numbered, spaced, sound}
use Rattle.windows.proofs.Windows.{in_window_lem}
use Rattle.framebuffer.proofs.pixel.Reads as pixel
use Rattle.picture.specs.Calls.{Call, blank, picture_after}
use Rattle.picture.proofs.Picture.{zeros, bytes_after, colours_after_calls}
use Rattle.picture.proofs.Runs.{Run, run_leaves}

-- a place of the frame is not refused with 8
inside_frame : (f : Frame) (x y : ℕ) → x < f.width → y < f.height → is_outside f (pos x, pos y) ≡ not true
inside_frame f x y hx hy = ap not (in_window_lem (whole_window f) x y (omega arith) hx (omega arith) hy)

module _ (f : Frame) (n : ℕ) (ok : first (frame_tests f n) ≡ 0) {os : List Call} {b c : List ℕ} (e : length b ≡ n) (run : Run f os b c) where
  A : Accepted f n
  A = is_accepted f n ok

  -- the bytes at the end are those of the picture at the end, over the bytes at the start
  leaves : c ≡ rendered (raster f) (picture_after f n os (shown (raster f) b)) b
  leaves = run_leaves run ∙ bytes_after f n A os b e

  same_length : length c ≡ n
  same_length = ap length leaves ∙ rendered_length (raster f) (sound f A.described) _ b ∙ e

  room : (raster f).size ≤ length b
  unfolding size
  room = subst (λ (k : ℕ). (raster f).size ≤ k) (sym e) A.room

  -- every pixel of the frame shows the picture's colour
  pub run_shows : (x y : ℕ) → x < f.width → y < f.height → shown (raster f) c x y ≡ picture_after f n os (shown (raster f) b) x y
  run_shows x y hx hy =
      let P = sound f A.described in
      ap (λ (a : List ℕ). shown (raster f) a x y) leaves
      ∙ shown_rendered (raster f) P (picture_after f n os (shown (raster f) b)) b room x y hx hy
      (colours_after_calls f n A os (shown (raster f) b) (λ u v hu hv. shown_colour (raster f) P b u v) x y hx hy)

  number : (x y : ℕ) → x < f.width → y < f.height → 0 ≡ first (read_tests f (length c) (pos x, pos y))
  unfolding read_tests
  number x y hx hy =
      let z : 0 ≡ first (frame_tests f (length c)) = sym (ap (λ (k : ℕ). first (frame_tests f k)) same_length ∙ ok) in
      passed (frame_tests f (length c)) _ (frame_numbered f (length c)) z refl (goes_on 8 _ [] (inside_frame f x y hx hy) refl)

  -- "Reading returns the last colour written": whatever `pixel` answers by its contract, asked of these bytes, is the picture's colour
  pub pixel_answers : (x y : ℕ) → x < f.width → y < f.height → (κs : _) (a : _) (r : _) (s : _) → pixel.Post κs a r s
      → a.0.now ≡ c → a.1.0 ≡ f → a.1.1.0 ≡ (pos x, pos y) → r ≡ Ok (picture_after f n os (shown (raster f) b) x y)
  pixel_answers x y hx hy κs a r s h p q w =
      same_read
      (h
      ∙ (λ i. read (first (read_tests (q i) (length (p i)) (w i))) (colour_at (q i) (w i) (p i)))
      ∙ ap (λ (k : ℕ). read k (shown (raster f) c x y)) (sym (number x y hx hy))
      ∙ ap (read 0) (run_shows x y hx hy))

  -- "Row padding .. never change": bit t of byte j of row y, the lowest being bit 0, where it stands behind the row's last pixel
  pub padding_kept : (y j t : ℕ) → j < f.distance → t < 8 → f.width * f.depth ≤ 8 * j + (7 - t)
      → digit 2 t (get_or c (y * f.distance + j) 0) ≡ digit 2 t (get_or b (y * f.distance + j) 0)
  padding_kept y j t hj ht past =
      ap (λ (a : List ℕ). digit 2 t (get_or a (y * f.distance + j) 0)) leaves ∙ padding_stays (arranged f) (spaced f A.described) y j t hj ht past _ b

  -- "Everything between the rows is padding and never changes" (02, T-07): byte j of row y, where it stands behind the row's last byte
  pub gap_kept : (y j : ℕ) → row_bytes f.width f.depth ≤ j → j < f.distance → get_or c (y * f.distance + j) 0 ≡ get_or b (y * f.distance + j) 0
  gap_kept y j hr hj = ap (λ (a : List ℕ). get_or a (y * f.distance + j) 0) leaves ∙ gap_stays (arranged f) (spaced f A.described) y j hr hj _ b

  -- "and bytes past the frame never change"
  pub tail_kept : (i : ℕ) → size f ≤ i → get_or c i 0 ≡ get_or b i 0
  unfolding size
  tail_kept i h = ap (λ (a : List ℕ). get_or a i 0) leaves ∙ tail_stays (arranged f) (spaced f A.described) i h _ b

-- from a zero-filled buffer: the colour of the last accepted call whose figure contains the pixel, or 0 if none
pub pixel_answers_last : (f : Frame) (n : ℕ) → first (frame_tests f n) ≡ 0 → {os : List Call} {c : List ℕ} → Run f os (zeros n) c → (x y : ℕ) → x < f.width → y < f.height
    → (κs : _) (a : _) (r : _) (s : _) → pixel.Post κs a r s → a.0.now ≡ c → a.1.0 ≡ f → a.1.1.0 ≡ (pos x, pos y) → r ≡ Ok (picture_after f n os blank x y)
pixel_answers_last f n ok {os} run x y hx hy κs a r s h p q w =
    pixel_answers f n ok (length-replicate n 0) run x y hx hy κs a r s h p q w
    ∙ ap (λ (g : Picture). Ok (picture_after f n os g x y)) (λ i u v. shown_zeros (raster f) n u v i)
