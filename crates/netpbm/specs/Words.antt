-- What it leaves of a buffer to take rows of bytes over from one frame into another, and when all rows are one run of bytes.
use Rattle.std.specs.Prelude.{◌≡◌, Bool, cond, ◌&&◌, not, List, ℕ, ◌+◌, ◌*◌, ◌-◌, ◌/◌, ◌%◌, eqb, ltb, get_or, set}
use Rattle.std.specs.Bool.{beq}
use Rattle.std.specs.Int.Bits.{bit_and}
use Rattle.layout.specs.Digits.{set_run}
use Rattle.layout.specs.Layout.{shown, rendered}
use Rattle.layout.specs.Packed.{row_bytes}
use Rattle.packing.specs.Words.{merged}
use Rattle.frames.specs.declared.Frame.{Frame}
use Rattle.frames.specs.Description.{raster, size}
use Rattle.frames.specs.Judged.{Accepted}
use Rattle.netpbm.specs.Written.{Writable}

-- two frames of one size and depth that has a format, over m and n bytes
pub record Alike (f : Frame) (m : ℕ) (g : Frame) (n : ℕ) : Type 0 where
  pub source : Accepted f m
  pub target : Writable g n
  pub width : f.width ≡ g.width
  pub height : f.height ≡ g.height
  pub depth : f.depth ≡ g.depth

-- the picture that the frame f has over a, in the frame g over b
abbrev pub transferred : Frame → List ℕ → Frame → List ℕ → List ℕ
transferred f a g b = rendered (raster g) (shown (raster f) a) b

-- the bytes of each row with the bits alone that `kept` has, and those between the rows as they are
abbrev pub masked_rows : Frame → ℕ → List ℕ → List ℕ
masked_rows g kept b = set_run 0 (size g) (λ k. cond (ltb (k % g.distance) (row_bytes g.width g.depth)) (bit_and (get_or b k 0) kept) (get_or b k 0)) b

-- the n bytes from `at` on, at `start`
abbrev pub copied : List ℕ → ℕ → ℕ → ℕ → List ℕ → List ℕ
copied a at start n b = set_run start n (λ k. get_or a (at + k) 0) b

-- these, and in the byte behind them the bits that the mask has
abbrev pub copied_row : List ℕ → ℕ → ℕ → ℕ → ℕ → ℕ → List ℕ → List ℕ
copied_row a at start n mask kept b =
    set (copied a at start n b) (start + n) (merged (bit_and (get_or b (start + n) 0) kept) (get_or a (at + n) 0) mask)

-- n pixels of three bytes from `at` on, each from its last byte to its first, at `start`
abbrev pub turned_row : List ℕ → ℕ → ℕ → ℕ → List ℕ → List ℕ
turned_row a at start n b = set_run start (n * 3) (λ k. get_or a (at + k / 3 * 3 + (2 - k % 3)) 0) b

-- a pixel has three bytes, and the orders differ
abbrev pub is_turned : Frame → Frame → Bool
is_turned f g = eqb g.depth 24 && not (beq f.big g.big)

-- no row has padding or a gap behind it, and no pixel's bytes are turned round
abbrev pub is_run : Frame → Frame → Bool
is_run f g = let bits = g.width * g.depth in eqb (f.distance * 8) bits && eqb (g.distance * 8) bits && not (is_turned f g)
