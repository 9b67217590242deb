-- What the operations on a frame answered and left before rows had a distance (02, T-07): each row follows the one before, and no number stands between 2 and 3. Nothing here looks at the
-- frame's distance.
use Rattle.std.specs.Prelude.{◌≡◌, List, ℕ, ◌*◌, ◌<◌, nat_abs, length}
use Rattle.geometry.specs.declared.Point.{Point}
use Rattle.frames.specs.declared.Frame.{Frame}
use Rattle.frames.specs.declared.Read.{Read}
use Rattle.frames.specs.declared.Size.{Size}
use Rattle.lights.specs.declared.Lights.{Lights}
use Rattle.picture.specs.Calls.{Call}
use Rattle.mission.specs.Answers.{Answered, Image, Seen, Leaves}
use Rattle.mission.specs.Bytes.{row_takes, colour_of}
use Rattle.mission.specs.Counts.{Many}
use Rattle.mission.specs.Numbers.{NoDepth, TooLarge, InFrame, NoFormat, FileTakes, NoRoom, Test, done, behind_frame}

module _ (f : Frame) where
  -- "the distance equal to the old row size", of a frame that 1 and 2 do not refuse
  abbrev pub Gapless : Type 0
  Gapless = (NoDepth f → ⊥) → (TooLarge f → ⊥) → f.distance ≡ row_takes f

  -- rows one behind the other
  abbrev pub gapless : Frame
  gapless = record { width = f.width; height = f.height; depth = f.depth; big = f.big; distance = row_takes f }

  -- "Size of a frame: 1, 2"; over n bytes 3, where "the frame takes that times height", of the bytes of a row
  abbrev pub description_before : (ℕ → Type 0) → ℕ → Type 0
  description_before rest = Test 1 (NoDepth f) (Test 2 (TooLarge f) rest)

  abbrev pub frame_before : ℕ → (ℕ → Type 0) → ℕ → Type 0
  frame_before n rest = description_before (Test 3 (n < row_takes f * f.height) rest)

  -- the operations
  abbrev pub FrameSizeBefore : Size → Type 0
  FrameSizeBefore r = Answered (description_before done) r.number (r.bytes ≡ 0) (r.bytes ≡ row_takes f * f.height)

  abbrev pub PixelReadBefore : List ℕ → Point → Read → Type 0
  PixelReadBefore b p r =
      Answered (frame_before (length b) (Test 8 (InFrame f p → ⊥) done)) r.number (r.colour ≡ 0) (r.colour ≡ colour_of gapless b (nat_abs p.0) (nat_abs p.1))

  abbrev pub PixelsLitBefore : List ℕ → Lights → Type 0
  PixelsLitBefore b r =
      Answered (frame_before (length b) (Test 10 (f.depth ≡ 1 → ⊥) done)) r.number (r.count ≡ 0)
      (Many (λ x y. (x < f.width) × (y < f.height) × (colour_of gapless b x y ≡ 1)) r.count)

  abbrev pub ImageSizeBefore : Size → Type 0
  ImageSizeBefore r = Answered (description_before (Test 10 (NoFormat f) done)) r.number (r.bytes ≡ 0) (FileTakes gapless r.bytes)

  abbrev pub ImageWrittenBefore : List ℕ → List ℕ → Size → List ℕ → Type 0
  ImageWrittenBefore b out r after =
      Answered (frame_before (length b) (Test 10 (NoFormat f) (Test 9 (NoRoom gapless (length out)) done))) r.number ((r.bytes ≡ 0) × (after ≡ out))
      (Image gapless b out r.bytes after)

  abbrev pub CalledBefore : Call → List ℕ → ℕ → ℕ → List ℕ → Type 0
  CalledBefore o before number count after =
      Answered (frame_before (length before) (behind_frame gapless o)) number ((count ≡ 0) × (after ≡ before)) (Seen gapless o count × Leaves gapless o before after)
