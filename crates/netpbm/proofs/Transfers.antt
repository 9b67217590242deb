-- A frame and the file's frame of the same size and depth, and what it is to take a picture over from the one into the other: over zeros, and over a frame's own bytes.
-- Assumes nothing.
use mathlib.Core.Path.{◌≡◌, refl, sym, ap, ◌∙◌}
use mathlib.Core.Bool.{Bool, true, false, cond}
use mathlib.Core.List.{List}
use Prim.Native.Nat.{ℕ, ◌%◌, ◌≤◌, ◌<◌}
use native.Mathlib.Nat.{mod-lt, mod-eq_of_lt}
use native.Mathlib.Omega.{arith}
use lib.Bits.{bit_and, and_mask, and_zero_r}
use lib.Dec.{ltb}
use lib.ListN.{length, get_or, replicate, length-replicate}
use borrow.Author.Tests.{lt-ltb}
use Rattle.layout.specs.Layout.{shown}
use Rattle.layout.specs.Packed.{row_bytes}
use Rattle.layout.proofs.Runs.{run_cong, run_is, run_over}
use Rattle.layout.proofs.Bytes.{Bytes}
use Rattle.layout.proofs.Pictures.{rendered_length, get_d_zeros}
use Rattle.frames.specs.declared.Frame.{Frame}
use Rattle.frames.specs.Description.{raster, size}
use Rattle.frames.specs.Judged.{Described}
use Rattle.frames.proofs.Refusals.{packed_apart, sound}
use Rattle.netpbm.specs.Image.{big_first, pixels}
use Rattle.netpbm.specs.Written.{Writable}
use Rattle.netpbm.specs.Words.{Alike, transferred, masked_rows}
use Rattle.netpbm.proofs.Formats.{row_pos}

pub big_described : (f : Frame) → Described f → Described (big_first f)
big_described f D =
    let p = packed_apart f.width f.depth D.depth D.width in
    record { depth = D.depth; width = D.width; height = D.height; apart = omega (arith, p.0); near = omega (arith, p.0, p.1) }

pub pixels_length : (f : Frame) (a : List ℕ) → Described f → length (pixels f a) ≡ size (big_first f)
unfolding pixels
pixels_length f a D =
    rendered_length (raster (big_first f)) (sound (big_first f) (big_described f D)) (shown (raster f) a) (replicate (size (big_first f)) 0)
    ∙ length-replicate (size (big_first f)) 0

-- ---- into a file
pub into_file : (f : Frame) {len n : ℕ} → Writable f len → size (big_first f) ≤ n → Alike f len (big_first f) n
into_file f W o =
    record {
      source = W.accepted;
      target = record { accepted = record { described = big_described f W.accepted.described; room = o }; format = W.format };
      width = refl;
      height = refl;
      depth = refl;
    }

-- no bit of the output is kept, since nothing lies between the rows
pub over_zeros : (f : Frame) (a part : List ℕ) → Described f → length part ≡ size (big_first f) → transferred f a (big_first f) (masked_rows (big_first f) 0 part) ≡ pixels f a
unfolding pixels
over_zeros f a part D e =
    let n = size (big_first f) in
    ap (transferred f a (big_first f)) (sym (run_is n _ part (replicate n 0) e (length-replicate n 0) (λ j h. get_d_zeros n j ∙ sym (none j h))))
  where
    none : (j : ℕ) → j < size (big_first f) → cond (ltb (j % (big_first f).distance) (row_bytes f.width f.depth)) (bit_and (get_or part j 0) 0) (get_or part j 0) ≡ 0
    none j h =
        let l = mod-lt j (row_pos (big_first f) h) in
        let p = (packed_apart f.width f.depth D.depth D.width).0 in
        ap (λ (t : Bool). cond t (bit_and (get_or part j 0) 0) (get_or part j 0)) (lt-ltb _ (row_bytes f.width f.depth) (omega (arith, l, p))) ∙ and_zero_r (get_or part j 0)

-- ---- out of a file
pub out_of_file : (f : Frame) {len n : ℕ} → Writable f len → size (big_first f) ≤ n → Alike (big_first f) n f len
out_of_file f W o =
    record {
      source = record { described = big_described f W.accepted.described; room = o };
      target = W;
      width = refl;
      height = refl;
      depth = refl;
    }

-- every bit of the frame is kept
pub over_own : (f : Frame) (b : List ℕ) → size f ≤ length b → Bytes b → masked_rows f 255 b ≡ b
over_own f b o v =
    run_cong 0 (size f) _ _ b (λ j h. same j (ltb (j % f.distance) (row_bytes f.width f.depth))) ∙ run_over (size f) b b o refl (λ j h. refl)
  where
    same : (j : ℕ) (t : Bool) → cond t (bit_and (get_or b j 0) 255) (get_or b j 0) ≡ get_or b j 0
    same j true = and_mask (get_or b j 0) 8 ∙ mod-eq_of_lt (v j)
    same j false = refl
