-- Where a frame keeps its pixels, straight from 01, "Packed frames", and 02, T-07: for each of the seven depths and both orders, written out.
use Rattle.std.specs.Prelude.{◌≡◌, Bool, cond, List, ℕ, ◌+◌, ◌*◌, ◌-◌, ◌/◌, ◌%◌, ◌^◌, ◌≤◌, ◌<◌, eqb, ltb, get_or}
use Rattle.frames.specs.declared.Frame.{Frame}

-- "A row takes floor((width·depth + 7) / 8) bytes"
abbrev pub row_takes : Frame → ℕ
row_takes f = (f.width * f.depth + 7) / 8

-- byte i. A buffer's elements are below 256; of a larger number only the lowest eight bits would count, here and below
abbrev pub byte : List ℕ → ℕ → ℕ
byte b i = get_or b i 0 % 256

-- bit t of byte i, the lowest being bit 0
abbrev pub bit : List ℕ → ℕ → ℕ → ℕ
bit b i t = get_or b i 0 / 2 ^ t % 2

-- "Depths 1, 2, 4: pixel x is in byte floor(x·depth / 8) of its row, first pixel in the high bits": of that byte's eight bits x·depth mod 8 come before the pixel's
abbrev pub small : ℕ → List ℕ → ℕ → ℕ → ℕ
small depth b row x = get_or b (row + x * depth / 8) 0 / 2 ^ (8 - depth - x * depth % 8) % 2 ^ depth

-- "Depths 16, 24, 32: 2, 3, 4 bytes, little or big end first as the description says"
abbrev pub two : Bool → List ℕ → ℕ → ℕ
two big b i = cond big (byte b i * 256 + byte b (i + 1)) (byte b i + byte b (i + 1) * 256)

abbrev pub three : Bool → List ℕ → ℕ → ℕ
three big b i = cond big (byte b i * 65536 + byte b (i + 1) * 256 + byte b (i + 2)) (byte b i + byte b (i + 1) * 256 + byte b (i + 2) * 65536)

abbrev pub four : Bool → List ℕ → ℕ → ℕ
four big b i =
    cond big (byte b i * 16777216 + byte b (i + 1) * 65536 + byte b (i + 2) * 256 + byte b (i + 3))
    (byte b i + byte b (i + 1) * 256 + byte b (i + 2) * 65536 + byte b (i + 3) * 16777216)

-- the colour of pixel x of the row that starts at a byte. "Depth 8: one byte"; "order has no effect at 8 and below"
abbrev pub colour_in : ℕ → Bool → List ℕ → ℕ → ℕ → ℕ
colour_in depth big b row x =
    cond (ltb depth 8) (small depth b row x)
    (cond (eqb depth 8) (byte b (row + x)) (cond (eqb depth 16) (two big b (row + 2 * x)) (cond (eqb depth 24) (three big b (row + 3 * x)) (four big b (row + 4 * x)))))

-- of pixel (x, y) of a frame. T-07: rows start "a row distance in bytes" apart
abbrev pub colour_of : Frame → List ℕ → ℕ → ℕ → ℕ
colour_of f b x y = colour_in f.depth f.big b (y * f.distance) x

-- "Row padding and bytes past the frame never change", and T-07: "Everything between the rows is padding": every bit behind the last pixel of row y, which are those of its bytes j to the
-- next row, and every byte behind the frame
pub record KeepsTheRest (f : Frame) (before after : List ℕ) : Type 0 where
  pub padding : (y j t : ℕ) → j < f.distance → t < 8 → f.width * f.depth ≤ 8 * j + (7 - t) → bit after (y * f.distance + j) t ≡ bit before (y * f.distance + j) t
  pub tail : (i : ℕ) → f.distance * f.height ≤ i → get_or after i 0 ≡ get_or before i 0
