-- The numbers that the code works out on its way to the bytes: masks of pixels in a byte, and a byte changed where a mask has ones.
use Rattle.std.specs.Prelude.{◌≡◌, Bool, true, cond, List, ℕ, ◌+◌, ◌-◌, ◌*◌, ◌%◌, ◌^◌, ◌≤◌, ◌<◌, eqb, get_or, set}
use Rattle.std.specs.Int.Bits.{bit_and, bit_or}
use Rattle.layout.specs.Digits.{digit, value}
use Rattle.layout.specs.Packed.{good_depth, field, per, turned, slot_of}

-- pixel x is a part of a byte: at depths 1, 2 and 4, in a row or at its end
pub record Part (depth x : ℕ) : Type 0 where
  pub good : good_depth depth ≡ true
  pub small : depth < 8
  pub near : x ≤ 2048

-- the bits of pixel x in its byte; its bits with those of the pixels after it; and with those of the pixels before it
abbrev pub pixel_mask : ℕ → ℕ → ℕ
pixel_mask depth x = (2 ^ field depth - 1) * 2 ^ (field depth * slot_of depth x)

abbrev pub bits_from : ℕ → ℕ → ℕ
bits_from depth x = 2 ^ (field depth * (slot_of depth x + 1)) - 1

abbrev pub bits_to : ℕ → ℕ → ℕ
bits_to depth x = 255 - (2 ^ (field depth * slot_of depth x) - 1)

-- 02, T-03, "a constant table of fourteen masks": the bits of a pixel at each position in its byte, 8 at depth 1, 4 at depth 2, 2 at depth 4. A depth's masks stand
-- beside one another in one number, the first pixel's the highest
abbrev pub masks_of : ℕ → ℕ
masks_of depth = value 256 (per depth) (λ j. pixel_mask depth (per depth - 1 - j))

-- the byte p where the mask m has ones, and else v
abbrev pub merged : ℕ → ℕ → ℕ → ℕ
merged v p m = bit_or (bit_and v (255 - m)) (bit_and p m)

-- the byte at a place so changed
abbrev pub merged_at : ℕ → ℕ → ℕ → List ℕ → List ℕ
merged_at at p m b = set b at (merged (get_or b at 0) p m)

-- byte j of pixels side by side that all have the colour, each of `parts` bytes
abbrev pub pixel_byte : ℕ → Bool → ℕ → ℕ → ℕ
pixel_byte parts big colour j = digit 256 (turned big parts (j % parts)) colour

-- the bytes of a block: a line of the cache, or at 24 bits as many as hold whole pixels
abbrev pub block_size : ℕ → ℕ
block_size depth = cond (eqb depth 24) 48 64
