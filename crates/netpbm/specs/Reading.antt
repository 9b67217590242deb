-- 02, T-06: when a file is read into a frame, and what a call answers and leaves.
use Rattle.std.specs.Prelude.{Bool, not, ◌&&◌, List, [], ◌∷◌, ◌++◌, ℕ, ◌+◌, eqb, ltb, length, drop, is_none}
use Rattle.refusals.specs.Answer.{if_done}
use Rattle.refusals.specs.First.{Tests, first}
use Rattle.headers.specs.declared.Header.{Header}
use Rattle.headers.specs.Header.{header_of, header_said}
use Rattle.layout.specs.Layout.{Picture, shown, rendered}
use Rattle.frames.specs.declared.Frame.{Frame}
use Rattle.frames.specs.Description.{raster, size, frame_tests}
use Rattle.netpbm.specs.Image.{big_first}
use Rattle.netpbm.specs.Written.{no_format}

-- 13: "another size"
abbrev pub other_size : Frame → Header → Bool
other_size f h = not (eqb h.width f.width && eqb h.height f.height)

-- 12: "too few pixel bytes", in a file of so many
abbrev pub few_pixels : Frame → ℕ → Header → Bool
few_pixels f bytes h = ltb bytes (h.start + size (big_first f))

-- "in this order, 10 for a depth without a format or a zero side, 11 for a bad header .., 13 for another size, 12 for too few pixel bytes"
unfoldable pub file_tests : Frame → List ℕ → Tests
file_tests f s =
    let h = header_said f.depth s in
    (10, no_format f) ∷ (11, is_none (header_of f.depth s)) ∷ (13, other_size f h) ∷ (12, few_pixels f (length s) h) ∷ []

-- a file read into a frame over len bytes: 1, 2, 14, 3, "after 3" those of the file
unfoldable pub load_tests : Frame → ℕ → List ℕ → Tests
load_tests f len s = frame_tests f len ++ file_tests f s

-- the picture behind the header; "padding in the file is ignored", "bytes after the pixels ignored"
abbrev pub file_picture : Frame → List ℕ → Picture
file_picture f s = shown (raster (big_first f)) (drop (header_said f.depth s).start s)

-- the number, and the frame's bytes: with a refusal as they were, else with every pixel set, "padding in the frame kept"
unfoldable pub loaded : Frame → List ℕ → List ℕ → ℕ × List ℕ
loaded f s b = let n = first (load_tests f (length b) s) in (n, if_done n (rendered (raster f) (file_picture f s) b) b)
