-- 01's frames as they were before rows had a distance (02, T-07): each row follows the one before, and no number stands between 2 and 3.
use Rattle.std.specs.Prelude.{Bool, not, ◌&&◌, ◌||◌, List, [], ◌∷◌, ◌++◌, ℕ, ◌*◌, ◌^◌, leb, ltb, pos, nat_abs, length}
use Rattle.refusals.specs.First.{Tests, first}
use Rattle.refusals.specs.Answer.{if_done}
use Rattle.geometry.specs.declared.Point.{Point}
use Rattle.whole.specs.Interval.{between}
use Rattle.layout.specs.Layout.{Layout, shown}
use Rattle.layout.specs.Count.{marked}
use Rattle.layout.specs.Packed.{good_depth, row_bytes, laid}
use Rattle.frames.specs.declared.Drawn.{Drawn}
use Rattle.frames.specs.declared.Read.{Read}
use Rattle.frames.specs.declared.Size.{Size}
use Rattle.frames.specs.Answer.{sized, drawn, read}
use Rattle.frames.specs.Drawing.{Drawing}

module _ (width height depth : ℕ) where
  -- "A row takes floor((width·depth + 7) / 8) bytes; the frame takes that times height"
  abbrev pub size_before : ℕ
  size_before = row_bytes width depth * height

  -- 1, 2; and with a buffer of len bytes 3
  abbrev pub description_before : Tests
  description_before = (1, not (good_depth depth)) ∷ (2, ltb 2048 width || ltb 2048 height) ∷ []

  abbrev pub frame_before : ℕ → Tests
  frame_before len = description_before ++ ((3, ltb len size_before) ∷ [])

  -- what asking for the size answered
  abbrev pub sized_before : Size
  sized_before = sized (first description_before) size_before

  -- whether the frame has a pixel
  abbrev in_frame : Point → Bool
  in_frame p = between (pos 0) (pos width) p.0 && between (pos 0) (pos height) p.1

  module _ (big : Bool) where
    -- where the pixels were
    abbrev pub raster_before : Layout
    raster_before = laid (record { width = width; height = height; depth = depth; distance = row_bytes width depth; big = big })

    -- what a call that draws answered and left
    abbrev pub outcome_before : Drawing → List ℕ → Drawn × List ℕ
    outcome_before d b =
        let n = first (frame_before (length b) ++ ((4, leb (2 ^ depth) d.colour) ∷ d.own)) in
        let m = marked raster_before d.figure d.colour b in
        (drawn n m.0, if_done n m.1 b)

    -- what reading a pixel answered
    abbrev pub read_before : Point → List ℕ → Read
    read_before p b = read (first (frame_before (length b) ++ ((8, not (in_frame p)) ∷ []))) (shown raster_before b (nat_abs p.0) (nat_abs p.1))
