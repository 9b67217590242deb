-- The lit pixels of a one-bit frame are the ones among the bits of its rows: row after row, and as one run where no row has padding. Assumes nothing.
use mathlib.Core.Path.{◌≡◌, sym, ap, ap₂, ◌∙◌}
use mathlib.Core.Bool.{Bool}
use mathlib.Core.List.{List}
use Prim.Native.Nat.{ℕ, ◌+◌, ◌-◌, ◌*◌, ◌/◌, ◌%◌, ◌^◌, ◌≤◌, ◌<◌}
use native.Mathlib.Nat.{le_of_eq, div-add-mod', mul-one, mul-le-mul, mul-le-mul_right}
use native.Mathlib.Omega.{arith}
use lib.Arith.{digits_div, digits_mod}
use lib.Dec.{eqb}
use lib.ListN.{length, get_or, take, drop, length-drop}
use lib.Pow.{pow_pos}
use lib.Seq.{get_or-drop, take_all}
use Rattle.layout.specs.Digits.{digit}
use Rattle.layout.specs.Layout.{get_no, get_pixel}
use Rattle.layout.specs.Packed.{row_bytes, field, parts, per, slot_of}
use Rattle.layout.specs.Count.{how_many, lit_in}
use Rattle.layout.proofs.Counts.{many_cong, many_le, many_then}
use Rattle.layout.proofs.Bytes.{pixel_get}
use Rattle.frames.specs.declared.Frame.{Frame}
use Rattle.frames.specs.Description.{arranged, raster, size}
use Rattle.frames.specs.Judged.{Accepted}
use Rattle.frames.proofs.Refusals.{spaced}
use Rattle.lights.specs.Bits.{bit_at, lit_bits}

-- whether pixel p of the frame is lit
abbrev pub is_lit : Frame → List ℕ → ℕ → Bool
is_lit f b p = eqb (get_no (raster f) p b) 1

-- of the first n pixels of the frame, those that are lit
abbrev pub lit_up_to : Frame → ℕ → List ℕ → ℕ
lit_up_to f n b = how_many n (is_lit f b)

module _ (f : Frame) (b : List ℕ) (A : Accepted f (length b)) (one : f.depth ≡ 1) where
  -- ---- what fits
  pub row_bits : f.width ≤ f.distance * 8
  unfolding row_bytes
  row_bits = let e : (f.width * f.depth + 7) / 8 ≡ (f.width * 1 + 7) / 8 = ap (λ (d : ℕ). (f.width * d + 7) / 8) one in omega (arith, A.described.apart)

  -- a row ends within the buffer
  pub row_ends : (y : ℕ) → y < f.height → y * f.distance + f.distance ≤ length b
  unfolding size
  row_ends y l =
      let m : (y + 1) * f.distance ≤ f.height * f.distance = mul-le-mul_right f.distance (omega arith) in
      let r = A.room in
      omega arith

  -- all rows do, and as one run they are few bytes
  pub run_room : f.distance * 8 ≡ f.width → (f.distance * f.height ≤ 524288) × (f.distance * f.height ≤ length b)
  unfolding size
  run_room d =
      let w = A.described.width in
      let few : f.distance ≤ 256 = omega arith in
      let r = A.room in
      (mul-le-mul few A.described.height, omega arith)

  pub rows_few : (y : ℕ) → y ≤ f.height → {sum : ℕ} → sum ≡ lit_up_to f (y * f.width) b → sum ≤ 4194304
  rows_few y l e =
      let h : y ≤ 2048 = omega (arith, A.described.height) in
      let m : y * f.width ≤ 2048 * 2048 = mul-le-mul h A.described.width in
      omega (arith, e, many_le (y * f.width) (is_lit f b))

  -- ---- row after row
  -- a pixel is a bit of its row
  bit_is : (x y : ℕ) → eqb (get_pixel (raster f) x y b) 1 ≡ bit_at (drop (y * f.distance) b) x
  unfolding field parts per slot_of
  bit_is x y =
      let at = y * f.distance in
      ap (λ (n : ℕ). eqb n 1) (pixel_get (arranged f) (spaced f A.described) 0 (ap parts one) (pow_pos (field f.depth)) x y b)
      ∙ ap (λ (d : ℕ). eqb (digit (2 ^ field d) (slot_of d x) (get_or b (at + x * d / 8) 0)) 1) one
      ∙ ap (λ (n : ℕ). eqb (digit 2 (7 - x % 8) (get_or b (at + n / 8) 0)) 1) (mul-one x)
      ∙ ap (λ (n : ℕ). eqb (digit 2 (7 - x % 8) n) 1) (sym (get_or-drop at b (x / 8) 0))

  -- row y, which is lent with all that follows it, behind the rows above it
  pub row_more : (y : ℕ) {sum k : ℕ} → sum ≡ lit_up_to f (y * f.width) b
      → k ≡ lit_bits f.width (take (length b - y * f.distance) (drop (y * f.distance) b)) → sum + k ≡ lit_up_to f ((y + 1) * f.width) b
  unfolding lit_bits
  row_more y a c =
      let w = f.width in
      let at = y * f.distance in
      let n : y * w + w ≡ (y + 1) * w = omega arith in
      ap₂ (λ (i j : ℕ). i + j) a
      (c ∙ ap (lit_bits w) (take_all (length b - at) (drop at b) (le_of_eq (length-drop at b)))
      ∙ many_cong w _ _ (λ x l. sym (ap₂ (λ (i j : ℕ). eqb (get_pixel (raster f) i j b) 1) (digits_mod y l) (digits_div y l) ∙ bit_is x y)))
      ∙ sym (many_then (y * w) w (is_lit f b))
      ∙ ap (λ (i : ℕ). lit_up_to f i b) n

  -- all rows are the frame
  pub rows_lit : (y : ℕ) → y ≡ f.height → {sum : ℕ} → sum ≡ lit_up_to f (y * f.width) b → sum ≡ lit_in (raster f) b
  unfolding lit_in
  rows_lit y e a = a ∙ ap (λ (n : ℕ). lit_up_to f (n * f.width) b) e

  -- ---- without padding they are one run
  pub run_lit : f.distance * 8 ≡ f.width → lit_bits (f.distance * f.height * 8) b ≡ lit_in (raster f) b
  unfolding lit_bits lit_in
  run_lit d =
      let w = f.width in
      let n : f.distance * f.height * 8 ≡ f.height * (f.distance * 8) = omega arith in
      ap (λ (n : ℕ). how_many n (bit_at b)) (n ∙ ap (λ (w : ℕ). f.height * w) d)
      ∙ many_cong (f.height * w) _ _ (λ p l. sym (bit_is (p % w) (p / w) ∙ same p))
    where
      same : (p : ℕ) → bit_at (drop (p / f.width * f.distance) b) (p % f.width) ≡ bit_at b p
      same p =
          let y = p / f.width in
          let x = p % f.width in
          let n = f.distance in
          let e : y * (n * 8) + x ≡ p = ap (λ (w : ℕ). y * w + x) d ∙ div-add-mod' p f.width in
          let bit : x % 8 ≡ p % 8 = omega arith in
          let byte : y * n + x / 8 ≡ p / 8 = omega arith in
          ap (λ (v : ℕ). eqb (digit 2 (7 - x % 8) v) 1) (get_or-drop (y * n) b (x / 8) 0)
          ∙ ap₂ (λ (i j : ℕ). eqb (digit 2 (7 - i) (get_or b j 0)) 1) bit byte
