-- The bytes of a pixel of an accepted frame, and what is put there and read there. Assumes nothing.
use mathlib.Core.Path.{◌≡◌, refl, sym, ap, subst, ◌∙◌}
use mathlib.Core.List.{List, ◌++◌}
use Prim.Native.Nat.{ℕ, ◌+◌, ◌-◌, ◌*◌, ◌/◌, ◌^◌, ◌≤◌, ◌<◌}
use native.Mathlib.Nat.{le_of_lt}
use native.Mathlib.Omega.{arith}
use lib.ListN.{length, get_or, set, take, drop}
use lib.Pow.{pow_pos}
use Rattle.layout.specs.Digits.{digit, replaced, value, set_run}
use Rattle.layout.specs.Layout.{put_pixel, get_pixel}
use Rattle.layout.specs.Packed.{field, parts, per, turned, slot_of}
use Rattle.layout.proofs.Places.{small, large, depth_pos, parts_pos}
use Rattle.layout.proofs.Bytes.{Bytes, pixel_set, pixel_get, pixel_stored, pixel_loaded}
use Rattle.frames.specs.declared.Frame.{Frame}
use Rattle.frames.specs.Description.{arranged, raster}
use Rattle.frames.specs.Judged.{Accepted}
use Rattle.frames.proofs.Refusals.{spaced, pixel_room}

module _ (f : Frame) (b : List ℕ) (A : Accepted f (length b)) (x y : ℕ) (hx : x < f.width) (hy : y < f.height) {at : ℕ} (e : at ≡ y * f.distance + x * f.depth / 8) where
  pub byte_room : at < length b
  byte_room = omega (arith, pixel_room f (length b) x y A hx hy e, parts_pos f.depth A.described.depth)

  -- a depth below a byte: a field of one
  module _ (thin : f.depth < 8) where
    one : (field f.depth ≡ f.depth) × (parts f.depth ≡ 1)
    one = small f.depth (le_of_lt thin) (depth_pos f.depth A.described.depth)

    pub field_put : (c v : ℕ) → c < 2 ^ f.depth → v ≡ replaced (2 ^ field f.depth) (slot_of f.depth x) c (get_or b at 0) → set b at v ≡ put_pixel (raster f) x y c b
    field_put c v h ev =
        ap (set b at) ev
        ∙ ap (λ (i : ℕ). set b i (replaced (2 ^ field f.depth) (slot_of f.depth x) c (get_or b i 0))) e
        ∙ sym (pixel_set (arranged f) (spaced f A.described) c one.1 (subst (λ (k : ℕ). c < 2 ^ k) (sym one.0) h) x y b)

    pub field_got : (v : ℕ) → v ≡ digit (2 ^ field f.depth) (slot_of f.depth x) (get_or b at 0) → v ≡ get_pixel (raster f) x y b
    field_got v ev =
        ev
        ∙ ap (λ (i : ℕ). digit (2 ^ field f.depth) (slot_of f.depth x) (get_or b i 0)) e
        ∙ sym (pixel_get (arranged f) (spaced f A.described) 0 one.1 (pow_pos (field f.depth)) x y b)

  -- a depth from a byte on: whole bytes, as a part of the buffer
  module _ (thick : 8 ≤ f.depth) where
    whole : (per f.depth ≡ 1) × (parts f.depth ≡ f.depth / 8)
    whole = let l = large f.depth A.described.depth thick in (l.1, l.2)

    pub bytes_room : at + f.depth / 8 ≤ length b
    bytes_room = let p = whole.1 in omega (arith, pixel_room f (length b) x y A hx hy e)

    module _ (v : Bytes b) where
      abbrev k : ℕ
      k = at + f.depth / 8 - at

      abbrev part : List ℕ
      part = take k (drop at b)

      as_many : k ≡ parts f.depth
      as_many = let p = whole.1 in omega arith

      inside : at + k ≤ length b
      inside = omega (arith, bytes_room)

      pub bytes_put : (c : ℕ) (after : List ℕ) → after ≡ set_run 0 (length part) (λ j. digit 256 (turned f.big (length part) j) c) part
          → take at b ++ (after ++ drop k (drop at b)) ≡ put_pixel (raster f) x y c b
      bytes_put c after = pixel_stored (arranged f) (spaced f A.described) c whole.0 x y b part at k e as_many inside v refl after

      pub bytes_got : (c : ℕ) → c ≡ value 256 (length part) (λ i. get_or part (turned f.big (length part) i) 0) → c ≡ get_pixel (raster f) x y b
      bytes_got c ec = ec ∙ pixel_loaded (arranged f) (spaced f A.described) 0 whole.0 x y b part at k e as_many inside v refl
