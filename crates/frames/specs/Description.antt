-- 01, "Packed frames" and "Numbers an operation may answer", and 02, T-07: what a description says, and the tests of the operations on a frame, in their order.
use Rattle.std.specs.Prelude.{Bool, cond, not, ◌||◌, List, [], ◌∷◌, ◌++◌, ℕ, ◌^◌, leb, ltb, nat_abs}
use Rattle.refusals.specs.First.{Tests}
use Rattle.geometry.specs.declared.Point.{Point}
use Rattle.layout.specs.Layout.{Layout, shown}
use Rattle.layout.specs.Packed.{Packed, good_depth, row_bytes, laid}
use Rattle.frames.specs.declared.Frame.{Frame}
use Rattle.windows.specs.Window.{in_window, all_of}
use Rattle.windows.specs.declared.Window.{Window}

-- 02, T-07: "The frame description gains a row distance in bytes"
abbrev pub described : ℕ → ℕ → ℕ → Bool → ℕ → Frame
described w h d big distance = record { width = w; height = h; depth = d; big = big; distance = distance }

-- the same at a depth
abbrev pub at_depth : ℕ → Frame → Frame
at_depth d f = described f.width f.height d f.big f.distance

-- rows without a gap: the distance is "the bytes a row now takes", or 0 where 32 bits do not hold them, which 1 or 2 refuses
unfoldable pub packed_distance : ℕ → ℕ → ℕ
packed_distance w d = let n = row_bytes w d in cond (leb n 4294967295) n 0

abbrev pub packed : ℕ → ℕ → ℕ → Bool → Frame
packed w h d big = described w h d big (packed_distance w d)

-- how its pixels are arranged in rows
abbrev pub arranged : Frame → Packed
arranged f = record { width = f.width; height = f.height; depth = f.depth; distance = f.distance; big = f.big }

-- where the frame keeps its pixels
abbrev pub raster : Frame → Layout
raster f = laid (arranged f)

-- the bytes that it takes
unfoldable pub size : Frame → ℕ
size f = (raster f).size

-- the rectangle of all its pixels
abbrev pub whole_window : Frame → Window
whole_window f = all_of f.width f.height

-- ---- the tests
-- 1: the depth is not one of the seven
abbrev pub no_depth : Frame → Bool
no_depth f = not (good_depth f.depth)

-- 2: the width or the height is above 2,048
abbrev pub too_large : Frame → Bool
too_large f = ltb 2048 f.width || ltb 2048 f.height

-- 14: "a row distance in bytes, at most 16,384, at least the bytes a row now takes"
abbrev pub no_distance : Frame → Bool
no_distance f = ltb f.distance (row_bytes f.width f.depth) || ltb 16384 f.distance

-- 3: the buffer of len bytes is shorter than the frame needs
abbrev pub too_short : Frame → ℕ → Bool
too_short f len = ltb len (size f)

-- 4: the colour is 2^depth or more
abbrev pub no_colour : Frame → ℕ → Bool
no_colour f colour = leb (2 ^ f.depth) colour

-- 8: the pixel is outside the frame
abbrev pub is_outside : Frame → Point → Bool
is_outside f p = not (in_window (whole_window f) p.0 p.1)

-- "Size of a frame: 1, 2"
abbrev pub size_tests : Frame → Tests
size_tests f = (1, no_depth f) ∷ (2, too_large f) ∷ []

-- and "14 for a bad distance, between 2 and 3"
unfoldable pub description_tests : Frame → Tests
description_tests f = size_tests f ++ ((14, no_distance f) ∷ [])

-- a frame over len bytes: 1, 2, 14, 3
unfoldable pub frame_tests : Frame → ℕ → Tests
frame_tests f len = description_tests f ++ ((3, too_short f len) ∷ [])

-- "Reading: 1 to 3, 8", and 14 behind 2
unfoldable pub read_tests : Frame → ℕ → Point → Tests
read_tests f len p = frame_tests f len ++ ((8, is_outside f p) ∷ [])

-- the colour at a place of the frame
abbrev pub colour_at : Frame → Point → List ℕ → ℕ
colour_at f p b = shown (raster f) b (nat_abs p.0) (nat_abs p.1)
