-- ONE PICTURE, ONE FILE: two frames of one size and depth have equal files exactly if they show the same picture, whatever their byte order, row distance, padding and
-- tail; and equal files have one size and depth, since the header is read back. Assumes nothing.
use mathlib.Core.Path.{◌≡◌, refl, sym, ap, ap₂, subst, ◌∙◌}
use mathlib.Core.Bool.{Bool, cond}
use mathlib.Core.List.{List, ◌++◌}
use mathlib.Core.Logic.{◌↔◌, ⊎_elim}
use Prim.Native.Nat.{ℕ, ◌+◌, ◌≤◌, ◌<◌}
use native.Mathlib.Nat.{le_refl}
use lib.Dec.{eqb}
use lib.ListN.{length, drop, get_or, replicate, length-append, length-replicate}
use lib.Seq.{drop-append_seam}
use Rattle.headers.specs.declared.Header.{Header}
use Rattle.headers.specs.Header.{kind, header_said}
use Rattle.headers.proofs.Forms.{said_header}
use Rattle.layout.specs.Layout.{shown}
use Rattle.layout.proofs.Pictures.{Agree, one_picture, shown_colour}
use Rattle.frames.specs.declared.Frame.{Frame}
use Rattle.frames.specs.Description.{described, raster, size}
use Rattle.frames.specs.Judged.{Described}
use Rattle.frames.proofs.Refusals.{sound}
use Rattle.netpbm.specs.Image.{header, big_first, pixels, image_bytes, image_length}
use Rattle.netpbm.specs.Written.{Writable}
use Rattle.netpbm.proofs.Transfers.{big_described, pixels_length}
use Rattle.netpbm.proofs.Formats.{formats}
use Rattle.netpbm.proofs.Headers.{header_says}

-- a frame in the order i with rows m bytes apart, and one in the order j with rows n bytes apart
module _ (w h d : ℕ) (i j : Bool) (m n : ℕ) where
  abbrev f : Frame
  f = described w h d i m

  abbrev g : Frame
  g = described w h d j n

  module _ (F : Described f) (G : Described g) (a b : List ℕ) where
    same_pixels : (pixels f a ≡ pixels g b) ↔ Agree (raster (big_first f)) (shown (raster f) a) (shown (raster g) b)
    unfolding pixels size
    same_pixels =
        one_picture (raster (big_first f)) (sound (big_first f) (big_described f F)) (shown (raster f) a) (shown (raster g) b) (replicate (size (big_first f)) 0)
        (subst (λ (n : ℕ). size (big_first f) ≤ n) (sym (length-replicate (size (big_first f)) 0)) (le_refl (size (big_first f))))
        (λ x y hx hy. shown_colour (raster f) (sound f F) a x y)
        (λ x y hx hy. shown_colour (raster g) (sound g G) b x y)

    pub one_picture_one_file : (image_bytes f a ≡ image_bytes g b) ↔ ((x y : ℕ) → x < w → y < h → shown (raster f) a x y ≡ shown (raster g) b x y)
    unfolding image_bytes header
    one_picture_one_file = (
      λ e. same_pixels.0 (sym (drop-append_seam (header f) (pixels f a)) ∙ ap (drop (length (header f))) e ∙ drop-append_seam (header g) (pixels g b)),
      λ s. ap (λ (p : List ℕ). header f ++ p) (same_pixels.1 s),
    )

-- ---- ONE FILE, ONE SIZE AND DEPTH
abbrev depth_of : ℕ → ℕ
depth_of k = cond (eqb k 52) 1 (cond (eqb k 53) 8 24)

depth_back : (f : Frame) {len : ℕ} → Writable f len → depth_of (kind f.depth) ≡ f.depth
depth_back f W = ⊎_elim (⊎_elim (λ e. back 1 e refl) (λ e. back 8 e refl)) (λ e. back 24 e refl) (formats f W)
  where
    back : (n : ℕ) → f.depth ≡ n → depth_of (kind n) ≡ n → depth_of (kind f.depth) ≡ f.depth
    back n e h = ap (λ (d : ℕ). depth_of (kind d)) e ∙ h ∙ sym e

pub one_file_one_size : (f g : Frame) {m n : ℕ} → Writable f m → Writable g n → (a b : List ℕ) → image_bytes f a ≡ image_bytes g b
    → (f.width ≡ g.width) × (f.height ≡ g.height) × (f.depth ≡ g.depth)
unfolding image_bytes header
one_file_one_size f g F G a b e =
    let same : kind f.depth ≡ kind g.depth = ap (λ (s : List ℕ). get_or s 1 0) e in
    let d : f.depth ≡ g.depth = sym (depth_back f F) ∙ ap depth_of same ∙ depth_back g G in
    let h = sym (said_header f.depth (image_bytes f a) (header_says f F.accepted.described (pixels f a))) ∙ ap₂ header_said d e ∙ said_header g.depth (image_bytes g b) (header_says g G.accepted.described (pixels g b)) in
    (ap (λ (H : Header). H.width) h, ap (λ (H : Header). H.height) h, d)

-- ---- a file is as long as is said beforehand, whatever the buffer holds
pub file_length : (f : Frame) (b : List ℕ) → Described f → length (image_bytes f b) ≡ image_length f
unfolding image_bytes image_length
file_length f b D = length-append (header f) (pixels f b) ∙ ap (λ (n : ℕ). length (header f) + n) (pixels_length f b D)
