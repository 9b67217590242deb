-- The tests of a frame: what it says that none of them holds, and what comes with it. Assumes nothing.
use mathlib.Core.Path.{◌≡◌, refl, sym, ap, subst, ◌∙◌}
use mathlib.Core.Bool.{Bool, true, false, cond}
use mathlib.Core.List.{[], ◌∷◌}
use Prim.Native.Nat.{ℕ, zero, suc, ◌+◌, ◌*◌, ◌/◌, ◌%◌, ◌^◌, ◌≤◌, ◌<◌}
use native.Mathlib.Nat.{mul-le-mul, mul-zero, mod-eq_of_lt, mul-le-mul_right}
use native.Mathlib.Omega.{arith}
use lib.Pow.{pow_mono}
use borrow.Author.Tests.{ltb-false, le-leb, not-false}
use Rattle.whole.proofs.Tests.{or_false}
use Rattle.refusals.specs.First.{first, numbered}
use Rattle.refusals.proofs.First.{exactly_0, both_pass, fails_alone}
use Rattle.layout.specs.Packed.{good_depth, row_bytes, parts}
use Rattle.layout.proofs.Placing.{Placing}
use Rattle.layout.proofs.Places.{Sound, placing, depth_le, pixel_in}
use Rattle.frames.specs.declared.Canvas.{Canvas}
use Rattle.frames.specs.declared.Frame.{Frame}
use Rattle.frames.specs.Description.{at_depth, packed_distance, arranged, raster, size, no_distance, too_short, size_tests, description_tests, frame_tests}
use Rattle.frames.specs.Judged.{Described, Accepted, OverBytes, Over}
use Rattle.windows.specs.Window.{Within, Small}
use Rattle.windows.specs.declared.Window.{Window}

-- ---- no number is 0
pub description_numbered : (f : Frame) → numbered (description_tests f) ≡ true
unfolding description_tests
description_numbered f = refl

pub frame_numbered : (f : Frame) (len : ℕ) → numbered (frame_tests f len) ≡ true
unfolding description_tests frame_tests
frame_numbered f len = refl

-- ---- a frame that was judged over len bytes
pub judged : (f : Frame) (len : ℕ) {c : Canvas} → OverBytes c f len → Over c len
judged f len {c} R = subst (λ (g : Frame). OverBytes c g len) (sym R.frame) R

-- ---- at the depth that it has
pub same_depth : (f : Frame) {d : ℕ} → d ≡ f.depth → at_depth d f ≡ f
same_depth f e = λ i. at_depth (e i) f

-- ---- a depth that is none of the seven
pub no_depth_lem : (f : Frame) (len : ℕ) → good_depth f.depth ≡ false → 1 ≡ first (frame_tests f len)
unfolding description_tests frame_tests
no_depth_lem f len e = simp e

-- ---- what 0 says
-- the depth and the size are good
pub is_sized : (f : Frame) → first (size_tests f) ≡ 0 → (good_depth f.depth ≡ true) × (f.width ≤ 2048) × (f.height ≤ 2048)
is_sized f z =
    let t = (exactly_0 (size_tests f) refl).0 z in
    let w = or_false _ _ t.1.0 in
    (not-false _ t.0, ltb-false _ _ w.0, ltb-false _ _ w.1)

pub is_described : (f : Frame) → first (description_tests f) ≡ 0 → Described f
unfolding description_tests
is_described f z =
    let p = both_pass (size_tests f) ((14, no_distance f) ∷ []) refl z in
    let s = is_sized f p.0 in
    let n = or_false _ _ (fails_alone 13 (no_distance f) p.1) in
    record { depth = s.0; width = s.1; height = s.2; apart = ltb-false _ _ n.0; near = ltb-false _ _ n.1 }

pub is_accepted : (f : Frame) (len : ℕ) → first (frame_tests f len) ≡ 0 → Accepted f len
unfolding frame_tests
is_accepted f len z =
    let p = both_pass (description_tests f) ((3, too_short f len) ∷ []) (description_numbered f) z in
    record { described = is_described f p.0; room = ltb-false _ _ (fails_alone _ _ p.1) }

-- ---- what comes with an accepted description
-- its rows are far enough apart
pub spaced : (f : Frame) → Described f → Sound (arranged f)
spaced f D = record { depth = D.depth; apart = D.apart }

pub sound : (f : Frame) → Described f → Placing (raster f)
sound f D = placing (arranged f) (spaced f D)

pub product : (f : Frame) → Described f → f.width * f.depth ≤ 65536
product f D = mul-le-mul D.width (depth_le f.depth D.depth)

-- a rectangle within it is small
pub within_small : {q : Window} {f : Frame} → Within q f.width f.height → Described f → Small q
within_small W D = let r = W.right in let b = W.bottom in let w = D.width in let h = D.height in (W.across, omega arith, W.down, omega arith)

-- so that a row is short, and 32 bits hold the distance of rows without a gap
pub packed_apart : (w d : ℕ) → good_depth d ≡ true → w ≤ 2048 → (packed_distance w d ≡ row_bytes w d) × (row_bytes w d ≤ 8192)
unfolding packed_distance row_bytes
packed_apart w d G hw =
    let m : w * d ≤ 2048 * 32 = mul-le-mul hw (depth_le d G) in
    (ap (λ (t : Bool). cond t (row_bytes w d) 0) (le-leb (row_bytes w d) 4294967295 (omega arith)), omega arith)

pub size_fits : (f : Frame) → Described f → size f ≤ 33554432
unfolding size
size_fits f D = let p : f.distance * f.height ≤ 16384 * 2048 = mul-le-mul D.near D.height in omega arith

-- a pixel's bytes are in the buffer, and the numbers of its place are small
module _ (f : Frame) (len x y : ℕ) (A : Accepted f len) (hx : x < f.width) (hy : y < f.height) where
  pub pixel_room : {at : ℕ} → at ≡ y * f.distance + x * f.depth / 8 → at + parts f.depth ≤ len
  unfolding size
  pixel_room e =
      let r = A.room in
      let p = pixel_in (arranged f) (spaced f A.described) x y hx hy in
      omega arith

  pub pixel_small : (x ≤ 2048) × (y ≤ 2048)
  pixel_small = let w = A.described.width in let h = A.described.height in (omega arith, omega arith)

-- a place in a row, or at its end, as a painter may ask for its byte
pub place_small : (f : Frame) {x y : ℕ} → Described f → x ≤ f.width → y < f.height → Described f × (x ≤ 2048) × (y ≤ 2048)
place_small f D hx hy =
    let w = D.width in
    let h = D.height in
    (D, omega arith, omega arith)

-- a span ends in its row, or with it
pub along_row : (f : Frame) (x : ℕ) → Described f → x ≤ f.width → x * f.depth / 8 ≤ f.distance
unfolding row_bytes
along_row f x D hx =
    let m : x * f.depth ≤ f.width * f.depth = mul-le-mul_right f.depth hx in
    let a = (spaced f D).apart in
    omega arith

-- and so in the buffer, or with it
pub end_room : (f : Frame) (len x y : ℕ) → Accepted f len → x ≤ f.width → y < f.height → y * f.distance + x * f.depth / 8 ≤ len
unfolding size
end_room f len x y A hx hy =
    let a = along_row f x A.described hx in
    let l : (y + 1) * f.distance ≤ f.height * f.distance = mul-le-mul_right f.distance (omega arith) in
    let r = A.room in
    omega arith

-- a row ends within the frame
pub row_room : (f : Frame) (y : ℕ) → y < f.height → y * f.distance + f.distance ≤ size f
unfolding size
row_room f y h = let l : (y + 1) * f.distance ≤ f.height * f.distance = mul-le-mul_right f.distance (omega arith) in omega arith

-- rows without padding that take bytes take those of a pixel
pub one_pixel : (f : Frame) → f.distance * 8 ≡ f.width * f.depth → 0 < size f → parts f.depth ≤ size f
unfolding size parts
one_pixel f e h = go f.distance f.width f.height e h
  where
    go : (d w t : ℕ) → d * 8 ≡ w * f.depth → 0 < d * t → (f.depth + 7) / 8 ≤ d * t
    go d w zero e l = absurd (let z : d * 0 ≡ 0 = mul-zero d in omega arith)
    go d zero (suc t) e l = absurd (let z : d ≡ 0 = omega arith in let k : d * suc t ≡ 0 * suc t = ap (λ (n : ℕ). n * suc t) z in omega arith)
    go d (suc w) (suc t) e l = let a : f.depth ≤ suc w * f.depth = omega arith in let b : d * 1 ≤ d * suc t = omega arith in omega arith

-- a power of two, as the machine makes it
pub one_shifted : (d : ℕ) → d ≤ 32 → (1 * 2 ^ d) % 18446744073709551616 ≡ 2 ^ d
one_shifted d h =
    let m : 2 ^ d ≤ 4294967296 = pow_mono {i = d} {j = 32} h in
    ap (λ (x : ℕ). x % 18446744073709551616) (omega arith) ∙ mod-eq_of_lt (omega arith)
