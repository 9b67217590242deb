-- 01, "Packed frames": where the pixels of a frame are kept, row by row, once for every depth.
use Rattle.std.specs.Prelude.{Bool, true, false, ◌||◌, ℕ, ◌+◌, ◌-◌, ◌*◌, ◌/◌, ◌%◌, ◌^◌, min, eqb}
use Rattle.layout.specs.Digits.{digit, value}
use Rattle.layout.specs.Layout.{Layout}

-- depths 1, 2, 4, 8, 16, 24 and 32
abbrev pub good_depth : ℕ → Bool
good_depth d = eqb d 1 || eqb d 2 || eqb d 4 || eqb d 8 || eqb d 16 || eqb d 24 || eqb d 32

-- "A row takes floor((width·depth + 7) / 8) bytes"
unfoldable pub row_bytes : ℕ → ℕ → ℕ
row_bytes width depth = (width * depth + 7) / 8

-- pixels in rows whose first bytes lie `distance` bytes apart; `big`: the big end of a colour comes first
pub record Packed : Type 0 where
  pub width : ℕ
  pub height : ℕ
  pub depth : ℕ
  pub distance : ℕ
  pub big : Bool

-- ---- a colour has `parts` digits of `field` bits, one for each byte that its pixel has bits in
-- bits of a pixel in one byte; bytes of a pixel; pixels in one byte
unfoldable pub field : ℕ → ℕ
field depth = min depth 8

unfoldable pub parts : ℕ → ℕ
parts depth = (depth + 7) / 8

unfoldable pub per : ℕ → ℕ
per depth = 8 / field depth

-- "little or big end first": digit k of a colour is in byte k of its pixel's, or in byte parts - 1 - k
abbrev pub turned : Bool → ℕ → ℕ → ℕ
turned true n k = n - 1 - k
turned false n k = k

-- "pixel x is in byte floor(x·depth / 8) of its row": the byte of digit k
unfoldable pub byte_of : Packed → ℕ → ℕ → ℕ → ℕ
byte_of r x y k = y * r.distance + x * r.depth / 8 + turned r.big (parts r.depth) k

-- "first pixel in the high bits": the field of that byte, the lowest being field 0
unfoldable pub slot_of : ℕ → ℕ → ℕ
slot_of depth x = per depth - 1 - x % per depth

-- the layout; "the frame takes that times height"
abbrev pub laid : Packed → Layout
laid r =
    record {
      width = r.width;
      height = r.height;
      size = r.distance * r.height;
      base = 2 ^ field r.depth;
      parts = parts r.depth;
      byte = byte_of r;
      slot = λ x y k. slot_of r.depth x;
    }

-- byte j of pixels that all have the colour, counted from the first byte of one of them
unfoldable pub full_byte : ℕ → Bool → ℕ → ℕ → ℕ
full_byte depth big colour j = value (2 ^ field depth) (per depth) (λ k. digit (2 ^ field depth) (turned big (parts depth) (j % parts depth)) colour)
