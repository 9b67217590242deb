-- 02, T-01: the Netpbm file of a frame: "depth 1 as P4, depth 8 as P5 with maximum 255, depth 24 as P6, red in the colour's high byte whatever the byte
-- order".
use Rattle.std.specs.Prelude.{true, List, ◌++◌, ℕ, ◌+◌, length, replicate}
use Rattle.headers.specs.Header.{header_bytes}
use Rattle.layout.specs.Layout.{shown, rendered}
use Rattle.frames.specs.declared.Frame.{Frame}
use Rattle.frames.specs.Description.{packed, raster, size}

-- "magic, LF, width, space, height, LF, and for P5 and P6 `255`, LF"
unfoldable pub header : Frame → List ℕ
header f = header_bytes f.depth f.width f.height

-- a frame of that size and depth with its big end first and no gap between its rows, as the file keeps its pixels
abbrev pub big_first : Frame → Frame
big_first f = packed f.width f.height f.depth true

-- the picture in that frame, over zeros: red comes first, and "row padding is written as 0"
unfoldable pub pixels : Frame → List ℕ → List ℕ
pixels f b = rendered (raster (big_first f)) (shown (raster f) b) (replicate (size (big_first f)) 0)

-- the file
unfoldable pub image_bytes : Frame → List ℕ → List ℕ
image_bytes f b = header f ++ pixels f b

-- how long it is, whatever the buffer holds
unfoldable pub image_length : Frame → ℕ
image_length f = length (header f) + size (big_first f)
