-- IMAGE FILES: what is written is what T-01 says, and reads back (T-06); padding in a file and bytes behind it are ignored. Of the compiled functions, those of `beamacorn` too. Assumes nothing.
use mathlib.Core.Path.{◌≡◌, refl, sym, ap, subst, ◌∙◌}
use mathlib.Core.Bool.{true}
use mathlib.Core.List.{List, [], ◌∷◌, ◌++◌, append_assoc}
use Prim.Native.Nat.{ℕ, zero, suc, ◌+◌, ◌*◌, ◌-◌, ◌/◌, ◌≤◌, ◌<◌}
use native.Mathlib.Omega.{arith}
use lib.ListN.{length, drop, get_or, replicate}
use lib.Seq.{sets, sets-eq, get_or-append-add, get_or-drop}
use borrow.Author.Tests.{ltb-false}
use Rattle.refusals.specs.First.{Tests, first}
use Rattle.refusals.proofs.First.{exactly_0, both_pass}
use Rattle.layout.specs.Digits.{digit}
use Rattle.layout.specs.Layout.{shown}
use Rattle.layout.specs.Packed.{good_depth, row_bytes}
use Rattle.layout.proofs.Padding.{padding_stays}
use Rattle.layout.proofs.Pictures.{rendered_cong}
use Rattle.frames.specs.declared.Frame.{Frame}
use Rattle.frames.specs.declared.Size.{Size}
use Rattle.frames.specs.Description.{described, packed_distance, arranged, raster, size, frame_tests}
use Rattle.frames.specs.Judged.{Described}
use Rattle.frames.proofs.Refusals.{is_accepted, frame_numbered, packed_apart, spaced, sound}
use Rattle.headers.specs.Header.{header_bytes}
use Rattle.netpbm.specs.Image.{header, big_first, pixels, image_bytes, image_length}
use Rattle.netpbm.specs.Reading.{file_tests, load_tests, file_picture, loaded}
use Rattle.netpbm.specs.Written.{no_format, no_room, write_tests, written}
use Rattle.netpbm.proofs.Images.{file_length}
use Rattle.netpbm.proofs.Reading.{loaded_bytes, more_behind}
use Rattle.netpbm.proofs.RoundTrip.{same_colour, writes_reads}
use Rattle.netpbm.proofs.Transfers.{big_described, pixels_length}
use Rattle.picture.specs.Calls.{read_image}
use Rattle.mission.specs.Answers.{Image, ImageWritten}
use Rattle.mission.specs.Bytes.{row_takes, byte, colour_in, colour_of}
use Rattle.mission.specs.Calls.{Gives}
use Rattle.mission.specs.Numbers.{done, frame}
use Rattle.mission.specs.Runs.{Made, Written, by_write_image, by_exported_write_image}
use Rattle.mission.proofs.Answered.{answered_both}
use Rattle.mission.proofs.Bytes.{pixel_place, bit_is}
use Rattle.mission.proofs.Drawing.{file_gives, file_pixel, made_does}
use Rattle.mission.proofs.Headers.{HasFormat, header_text}
use Rattle.mission.proofs.Results.{size_is}
use Rattle.mission.proofs.Numbers.{asked, format_decides, has_format, frame_asked, frame_accepted, pixels_take, room_decides}

get_d_zeros : (n i : ℕ) → ◌≡◌ {A = ℕ} (get_or (replicate n 0) i 0) 0
get_d_zeros zero i = refl
get_d_zeros (suc n) zero = refl
get_d_zeros (suc n) (suc i) = get_d_zeros n i

digit_zero : (t : ℕ) → digit 2 t 0 ≡ 0
digit_zero zero = refl
digit_zero (suc t) = digit_zero t

-- ---- THE FILE: the header, the pixels, and behind them what was there
module _ (f : Frame) (b out : List ℕ) (D : Described f) (g : HasFormat f.depth) (room : image_length f ≤ length out) where
  row_is : packed_distance f.width f.depth ≡ row_takes f
  unfolding row_bytes
  row_is = (packed_apart f.width f.depth D.depth D.width).0

  shows : (x y : ℕ) → x < f.width → y < f.height → colour_in f.depth true (pixels f b) (y * row_takes f) x ≡ colour_of f b x y
  shows x y hx hy =
      sym (pixel_place (big_first f) D.depth (pixels f b) x y ∙ ap (λ (d : ℕ). colour_in f.depth true (pixels f b) (y * d) x) row_is)
      ∙ same_colour f D b x y hx hy
      ∙ pixel_place f D.depth b x y

  long : image_length f ≡ length (header_bytes f.depth f.width f.height) + length (pixels f b)
  unfolding image_length header
  long = ap (λ (n : ℕ). length (header_bytes f.depth f.width f.height) + n) (sym (pixels_length f b D))

  file : sets out 0 (image_bytes f b) ≡ header_bytes f.depth f.width f.height ++ (pixels f b ++ drop (image_length f) out)
  unfolding image_bytes header
  file =
      sets-eq (image_bytes f b) out 0 (omega (arith, file_length f b D, room))
      ∙ ap (λ (n : ℕ). image_bytes f b ++ drop n out) (let e : 0 + length (image_bytes f b) ≡ image_length f = omega (arith, file_length f b D) in e)
      ∙ append_assoc (header f) (pixels f b) (drop (image_length f) out)

  image : Image f b out (image_length f) (sets out 0 (image_bytes f b))
  unfolding pixels size image_bytes
  image =
      record {
        text = header_bytes f.depth f.width f.height;
        pixels = pixels f b;
        header = header_text g;
        bytes = file;
        all = long;
        rows = pixels_length f b D ∙ pixels_take f D;
        past = past;
        shows = shows;
        red = λ e x y hx hy. high_byte (pixels f b) (y * row_takes f + 3 * x) (subst (λ (d : ℕ). colour_in d true (pixels f b) (y * row_takes f) x ≡ colour_of f b x y) e (shows x y hx hy));
        padding = λ y j t hj ht past.
            sym (bit_is (pixels f b) (y * row_takes f + j) t)
            ∙ ap (λ (d : ℕ). digit 2 t (get_or (pixels f b) (y * d + j) 0)) (sym row_is)
            ∙ padding_stays (arranged (big_first f)) (spaced (big_first f) (big_described f D)) y j t (subst (λ (d : ℕ). j < d) (sym row_is) hj) ht past (shown (raster f) b) (replicate (size (big_first f)) 0)
            ∙ ap (digit 2 t) (get_d_zeros (size (big_first f)) (y * (big_first f).distance + j)) ∙ digit_zero t;
      }
    where
      high_byte : (p : List ℕ) (i : ℕ) {c : ℕ} → byte p i * 65536 + byte p (i + 1) * 256 + byte p (i + 2) ≡ c → byte p i ≡ c / 65536
      high_byte p i e = omega (arith, e)

      past : (i : ℕ) → image_length f ≤ i → get_or (sets out 0 (image_bytes f b)) i 0 ≡ get_or out i 0
      past i l =
          ap (λ (s : List ℕ). get_or s i 0) (sets-eq (image_bytes f b) out 0 (omega (arith, file_length f b D, room)))
          ∙ ap (λ (k : ℕ). get_or (image_bytes f b ++ drop (0 + length (image_bytes f b)) out) k 0) (let e : i ≡ length (image_bytes f b) + (i - length (image_bytes f b)) = omega (arith, file_length f b D, l) in e)
          ∙ get_or-append-add (image_bytes f b) (drop (0 + length (image_bytes f b)) out) (i - length (image_bytes f b)) 0
          ∙ get_or-drop (0 + length (image_bytes f b)) out (i - length (image_bytes f b)) 0
          ∙ ap (λ (k : ℕ). get_or out k 0) (let e : 0 + length (image_bytes f b) + (i - length (image_bytes f b)) ≡ i = omega (arith, file_length f b D, l) in e)

written_is : (f : Frame) (b out : List ℕ) {r : Size} {after : List ℕ} → ◌≡◌ {A = Size × List ℕ} (r, after) (written f b out) → ImageWritten f b out r after
unfolding written write_tests
written_is f b out h =
    subst (λ (p : Size × List ℕ). ImageWritten f b out p.0 p.1) (sym h)
    (answered_both (frame_asked f rest (length b) (λ A. asked _ _ (format_decides f) (λ e. asked _ _ (room_decides f A.described (has_format f e) (length out)) (λ z. refl)))) (λ y z. (y, z))
    (λ z v w.
    let p = both_pass (frame_tests f (length b)) rest (frame_numbered f (length b)) z in
    let t = (exactly_0 rest refl).0 p.1 in
    let i = image f b out (is_accepted f (length b) p.0).described (has_format f t.0) (ltb-false _ _ t.1.0) in
    subst (λ (q : ℕ × List ℕ). Image f b out q.0 q.1) (λ i. (sym v i, sym w i)) i))
  where
    rest : Tests
    rest = (10, no_format f) ∷ (9, no_room f (length out)) ∷ []

of_written : {f : Frame} {b out after : List ℕ} {r : Size} → Written f b out r after → ◌≡◌ {A = Size × List ℕ} (r, after) (written f b out)
of_written (by_write_image κs a r s h) = ap (λ (q : Size). (q, s.1.1.0.now)) (size_is r) ∙ h
of_written (by_exported_write_image κs a r s h) = h

-- T-01
pub writes : {f : Frame} {b out after : List ℕ} {r : Size} → Written f b out r after → ImageWritten f b out r after
writes {f} {b} {out} m = written_is f b out (of_written m)

-- ---- T-06: "What T-01 writes must read back to the same picture": whatever was left of an output is taken into any accepted frame of that size and depth, in either order of bytes and
-- at any distance, and shows the same colours
of_read : {f : Frame} {s b c : List ℕ} {n count : ℕ} → Made f (read_image s) b n count c → (n ≡ (loaded f s b).0) × (c ≡ (loaded f s b).1)
unfolding loaded load_tests
of_read m = let d = made_does m in (d.number, d.bytes)

pub reads_back : {f g : Frame} {b out file c after : List ℕ} {r : Size} {n count : ℕ} → Written f b out r file → r.number ≡ 0 → f.width ≡ g.width → f.height ≡ g.height → f.depth ≡ g.depth
    → frame g (length c) done 0 → Made g (read_image file) c n count after
    → (n ≡ 0) × ((x y : ℕ) → x < g.width → y < g.height → colour_of g after x y ≡ colour_of f b x y)
reads_back {f} {g} {b} {out} {file} {c} {after} m z ew eh ed ok read =
    let h = of_written m in
    let A = frame_accepted g (length c) ok in
    let same : described g.width g.height g.depth f.big f.distance ≡ f = λ i. described (sym ew i) (sym eh i) (sym ed i) f.big f.distance in
    let w = writes_reads g.width g.height g.depth f.big g.big f.distance g.distance b out c
    (ap (λ (f : Frame). (written f b out).0.number) same ∙ sym (ap (λ (p : Size × List ℕ). p.0.number) h) ∙ z) A in
    let text : file ≡ (written (described g.width g.height g.depth f.big f.distance) b out).1 = ap (λ (p : Size × List ℕ). p.1) h ∙ ap (λ (f : Frame). (written f b out).1) (sym same) in (
      (of_read read).0 ∙ ap (λ (s : List ℕ). (loaded g s c).0) text ∙ w.0,
      λ x y hx hy.
          sym (pixel_place g A.described.depth after x y)
          ∙ ap (λ (a : List ℕ). shown (raster g) a x y) ((of_read read).1 ∙ ap (λ (s : List ℕ). (loaded g s c).1) text)
          ∙ w.1 x y hx hy
          ∙ ap (λ (f : Frame). shown (raster f) b x y) same
          ∙ pixel_place f (subst (λ (d : ℕ). good_depth d ≡ true) (sym ed) A.described.depth) b x y,
    )

-- ---- "Padding in the file is ignored": two files that are taken and give every pixel of the frame the same colour leave the same bytes
pub file_padding_ignored : {f : Frame} {s u b c e : List ℕ} {n k count more : ℕ} → Made f (read_image s) b n count c → n ≡ 0 → Made f (read_image u) b k more e → k ≡ 0
    → ((x y v : ℕ) → x < f.width → y < f.height → Gives f (read_image s) x y v → Gives f (read_image u) x y v) → c ≡ e
unfolding loaded load_tests
file_padding_ignored {f} {s} {u} {b} m y l z same =
    let ok = sym (of_read m).0 ∙ y in
    let D = (is_accepted f (length b) (both_pass (frame_tests f (length b)) (file_tests f s) (frame_numbered f (length b)) ok).0).described in
    (of_read m).1 ∙ loaded_bytes f s b ok
    ∙ rendered_cong (raster f) (sound f D) (file_picture f s) (file_picture f u) b
    (λ x y hx hy. let p = file_gives f (length b) x y s ok in file_pixel f D x y s p.1 ∙ sym (file_pixel f D x y u (same x y p.0 hx hy p.1)))
    ∙ sym (loaded_bytes f u b (sym (of_read l).0 ∙ z)) ∙ sym (of_read l).1

-- "bytes after the pixels ignored": a file that is taken is taken with anything behind it, and leaves the same
pub bytes_behind_ignored : {f : Frame} {s b c e : List ℕ} (t : List ℕ) {n k count more : ℕ} → Made f (read_image s) b n count c → n ≡ 0 → Made f (read_image (s ++ t)) b k more e → (k ≡ 0) × (e ≡ c)
unfolding loaded
bytes_behind_ignored {f} {s} {b} t m z l =
    let same = more_behind f s t b (loaded_0 f s b (sym (of_read m).0 ∙ z)) in
    ((of_read l).0 ∙ ap (λ (p : ℕ × List ℕ). p.0) same ∙ sym (of_read m).0 ∙ z, (of_read l).1 ∙ ap (λ (p : ℕ × List ℕ). p.1) same ∙ sym (of_read m).1)
  where
    loaded_0 : (f : Frame) (s b : List ℕ) → (loaded f s b).0 ≡ 0 → first (load_tests f (length b) s) ≡ 0
    loaded_0 f s b z = z
