-- WHAT IS WRITTEN IS READ BACK (02, T-06: "What T-01 writes must read back to the same picture"): into a frame of that size and depth in either order, with rows at
-- any distance, over any bytes that are enough, whatever stood in the output and stands behind the file. Assumes nothing.
use mathlib.Core.Path.{◌≡◌, refl, sym, ap, subst, ◌∙◌}
use mathlib.Core.Bool.{Bool}
use mathlib.Core.List.{List, [], ◌∷◌, ◌++◌, append_assoc}
use Prim.Native.Nat.{ℕ, ◌+◌, ◌≤◌, ◌<◌}
use native.Mathlib.Nat.{le_refl}
use native.Mathlib.Omega.{arith}
use lib.ListN.{length, drop, replicate, length-append, length-replicate}
use lib.Seq.{sets-eq, drop-append_seam}
use borrow.Author.Tests.{ltb-false}
use Rattle.std.specs.Prelude.{Some}
use Rattle.refusals.specs.First.{Tests, first}
use Rattle.refusals.proofs.First.{exactly_0, both_pass}
use Rattle.headers.specs.declared.Header.{Header}
use Rattle.headers.specs.Header.{headed, header_of, header_said}
use Rattle.headers.proofs.Forms.{header_is, said_header}
use Rattle.layout.specs.Layout.{shown}
use Rattle.layout.proofs.Pictures.{shown_rendered, shown_colour}
use Rattle.frames.specs.declared.Frame.{Frame}
use Rattle.frames.specs.declared.Size.{Size}
use Rattle.frames.specs.Answer.{sized}
use Rattle.frames.specs.Description.{described, arranged, raster, size, frame_tests}
use Rattle.frames.specs.Judged.{Described, Accepted}
use Rattle.frames.proofs.Refusals.{frame_numbered, is_accepted, spaced, sound}
use Rattle.netpbm.specs.Image.{header, big_first, pixels, image_bytes, image_length}
use Rattle.netpbm.specs.Written.{no_format, no_room, write_tests, written, Writable}
use Rattle.netpbm.specs.Reading.{loaded}
use Rattle.netpbm.proofs.Answers.{accepted_written}
use Rattle.netpbm.proofs.Headers.{header_says}
use Rattle.netpbm.proofs.Images.{file_length}
use Rattle.netpbm.proofs.Transfers.{big_described, pixels_length}
use Rattle.netpbm.proofs.Reading.{accepts, accepted_exactly, shown_append, reading_sets_exactly_the_pixels}

-- the file's pixels show the frame's picture
pub same_colour : (f : Frame) → Described f → (a : List ℕ) (x y : ℕ) → x < f.width → y < f.height → shown (raster (big_first f)) (pixels f a) x y ≡ shown (raster f) a x y
unfolding pixels size
same_colour f D a x y hx hy =
    shown_rendered (raster (big_first f)) (sound (big_first f) (big_described f D)) (shown (raster f) a) (replicate (size (big_first f)) 0)
    (subst (λ (n : ℕ). size (big_first f) ≤ n) (sym (length-replicate (size (big_first f)) 0)) (le_refl (size (big_first f)))) x y hx hy
    (shown_colour (raster f) (sound f D) a x y)

-- ---- a frame in the order i with rows m bytes apart over a, and one in the order j with rows n bytes apart over c; anything may stand behind the file
module _ (w h d : ℕ) (i j : Bool) (m n : ℕ) (a c rest : List ℕ) where
  abbrev f : Frame
  f = described w h d i m

  abbrev g : Frame
  g = described w h d j n

  abbrev file : List ℕ
  file = image_bytes f a ++ rest

  parted : file ≡ header f ++ (pixels f a ++ rest)
  unfolding image_bytes
  parted = append_assoc (header f) (pixels f a) rest

  module _ (W : Writable f (length a)) (A : Accepted g (length c)) where
    abbrev D : Described f
    D = W.accepted.described

    says : header_of d file ≡ Some (headed w h (length (header f)))
    says = ap (header_of d) parted ∙ header_says f D (pixels f a ++ rest)

    file_accepted : accepts g (length c) file
    unfolding image_length
    file_accepted =
        (accepted_exactly g (length c) file).1 (
          record { accepted = A; format = W.format },
          record {
            width = w;
            height = h;
            start = length (header f);
            formed = (header_is d file w h (length (header f))).0 says;
            is = ((refl, refl), omega (arith, length-append (image_bytes f a) rest, file_length f a D));
          },
        )

    pub file_reads : ((loaded g file c).0 ≡ 0) × ((x y : ℕ) → x < w → y < h → shown (raster g) (loaded g file c).1 x y ≡ shown (raster f) a x y)
    unfolding size loaded
    file_reads = (
      file_accepted,
      λ x y hx hy.
          (reading_sets_exactly_the_pixels g file c file_accepted).pixels x y hx hy
          ∙ ap (λ (u : List ℕ). shown (raster (big_first g)) u x y) behind
          ∙ shown_append (arranged (big_first f)) (spaced (big_first f) (big_described f D)) (pixels f a) rest (omega (arith, pixels_length f a D)) x y hx hy
          ∙ same_colour f D a x y hx hy,
    )
      where
        behind : drop (header_said d file).start file ≡ pixels f a ++ rest
        behind = ap (λ (H : Header). drop H.start file) (said_header d file says) ∙ ap (drop (length (header f))) parted ∙ drop-append_seam (header f) (pixels f a ++ rest)

-- ---- from `write_image` to `read_image`
-- an accepted write: the frame, and the output afterwards
module _ (f : Frame) (a out : List ℕ) (z : (written f a out).0.number ≡ 0) where
  passed : first (write_tests f (length a) (length out)) ≡ 0
  unfolding written
  passed = z

  wrote : Writable f (length a) × (image_length f ≤ length out)
  unfolding write_tests
  wrote =
      let rest : Tests = (10, no_format f) ∷ (9, no_room f (length out)) ∷ [] in
      let p = both_pass (frame_tests f (length a)) rest (frame_numbered f (length a)) passed in
      let t = (exactly_0 rest refl).0 p.1 in
      (record { accepted = is_accepted f (length a) p.0; format = t.0 }, ltb-false _ _ t.1.0)

  output : (written f a out).1 ≡ image_bytes f a ++ drop (length (image_bytes f a)) out
  output =
      let l = file_length f a wrote.0.accepted.described in
      let n : 0 + length (image_bytes f a) ≡ length (image_bytes f a) = omega arith in
      ap (λ (p : Size × List ℕ). p.1) (sym (accepted_written f a out refl {r = sized (first (write_tests f (length a) (length out))) (image_length f)} refl passed refl))
      ∙ sets-eq (image_bytes f a) out 0 (omega (arith, l, wrote.1)) ∙ ap (λ (n : ℕ). image_bytes f a ++ drop n out) n

-- a frame in the order i with rows m bytes apart, and one in the order j with rows n bytes apart
module _ (w h d : ℕ) (i j : Bool) (m n : ℕ) (a out c : List ℕ) where
  abbrev source : Frame
  source = described w h d i m

  abbrev target : Frame
  target = described w h d j n

  abbrev back : List ℕ → ℕ × List ℕ
  back s = loaded target s c

  pub writes_reads : (written source a out).0.number ≡ 0 → Accepted target (length c)
      → ((back (written source a out).1).0 ≡ 0)
      × ((x y : ℕ) → x < w → y < h → shown (raster target) (back (written source a out).1).1 x y ≡ shown (raster source) a x y)
  writes_reads z A =
      subst (λ (s : List ℕ). ((back s).0 ≡ 0) × ((x y : ℕ) → x < w → y < h → shown (raster target) (back s).1 x y ≡ shown (raster source) a x y))
      (sym (output source a out z)) (file_reads w h d i j m n a c (drop (length (image_bytes source a)) out) (wrote source a out z).0 A)
