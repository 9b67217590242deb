-- What each operation answers and leaves: the number that the table gives; with a refusal zeros, and every byte as it was; else what 01's and 02's arithmetic fixes.
use Rattle.std.specs.Prelude.{◌≡◌, Bool, true, false, List, ◌++◌, ◌⊎◌, ◌↔◌, ℕ, ◌+◌, ◌*◌, ◌-◌, ◌/◌, ◌≤◌, ◌<◌, ℤ, pos, nat_abs, ◌-ℤ◌, length, drop, get_or, ◌<ℤ◌}
use Rattle.geometry.specs.declared.Point.{Point}
use Rattle.geometry.specs.declared.Verdict.{Verdict}
use Rattle.geometry.specs.declared.Span.{Span}
use Rattle.line.specs.declared.Length.{Length}
use Rattle.triangle.specs.declared.RowRange.{RowRange}
use Rattle.frames.specs.declared.Frame.{Frame}
use Rattle.frames.specs.declared.Size.{Size}
use Rattle.frames.specs.declared.Read.{Read}
use Rattle.frames.specs.declared.Placed.{Placed}
use Rattle.lights.specs.declared.Lights.{Lights}
use Rattle.picture.specs.Calls.{Call, draw, read_image}
use Rattle.mission.specs.Bytes.{row_takes, byte, bit, colour_in, colour_of, KeepsTheRest}
use Rattle.mission.specs.Calls.{Gives}
use Rattle.mission.specs.Counts.{Many}
use Rattle.mission.specs.Figures.{larger, smaller, m, at_step, OnLine, area, Sorting, InTriangle, RowSpan, InCircle, CircleSpan, MinorStep, in_column, in_row, OnTrace, Contains}
use Rattle.mission.specs.Files.{HeaderText}
use Rattle.mission.specs.Numbers.{InFrame, NoFormat, FileTakes, NoRoom, Test, done, description, frame, ends, vertices, circle, of_call}

-- an answer with the number n: "With a refusal every returned number is 0, every yes or no is no, and each buffer byte is unchanged"
pub record Answered (table : ℕ → Type 0) (n : ℕ) (zeros values : Type 0) : Type 0 where
  pub number : table n
  pub refused : (n ≡ 0 → ⊥) → zeros
  pub accepted : n ≡ 0 → values

-- a yes or no
abbrev pub Decided : (ℕ → Type 0) → Verdict → Type 0 → Type 0
Decided table r P = Answered table r.number (r.yes ≡ false) ((r.yes ≡ true) ↔ P)

-- a row's columns
abbrev pub Spanned : (ℕ → Type 0) → Span → (ℤ → ℤ → Type 0) → Type 0
Spanned table r P = Answered table r.number ((r.start ≡ pos 0) × (r.end ≡ pos 0)) (P r.start r.end)

-- ---- lines
module _ (s e : Point) where
  abbrev pub LineLength : Length → Type 0
  LineLength r = Answered (ends s e done) r.number (r.points ≡ 0) (r.points ≡ larger s e + 1)

  -- 7: "a point of a line is asked at a step past its last"
  abbrev pub LinePoint : ℕ → ℕ → Point → Type 0
  LinePoint k number p = Answered (ends s e (Test 7 (larger s e < k) done)) number (p ≡ (pos 0, pos 0)) (p ≡ at_step s e k)

  abbrev pub LineHas : Point → Verdict → Type 0
  LineHas p r = Decided (ends s e done) r (OnLine s e p)

  -- ---- T-05: "There are then major + minor + 1 points"
  abbrev pub TraceLength : Length → Type 0
  TraceLength r = Answered (ends s e done) r.number (r.points ≡ 0) (r.points ≡ larger s e + smaller s e + 1)

  -- the point of an index: "the normal points are the old line", and an extra one follows that of every step at which m grows
  pub data AtIndex : ℕ → Point → Type 0 where
    normal : (k : ℕ) → k ≤ larger s e → AtIndex (k + m s e k) (at_step s e k)
    extra : (k : ℕ) {p : Point} → MinorStep s e k → (p ≡ in_column s e k) ⊎ (p ≡ in_row s e k) → pos 0 <ℤ area s e p → AtIndex (k + m s e k + 1) p

  abbrev pub TracePoint : ℕ → ℕ → Point → Type 0
  TracePoint i number p = Answered (ends s e (Test 7 (larger s e + smaller s e < i) done)) number (p ≡ (pos 0, pos 0)) (AtIndex i p)

  abbrev pub TraceHas : Point → Verdict → Type 0
  TraceHas p r = Decided (ends s e done) r (OnTrace s e p)

-- ---- triangles and circles
module _ (v1 v2 v3 : Point) where
  abbrev pub TriangleHas : Point → Verdict → Type 0
  TriangleHas p r = Decided (vertices v1 v2 v3) r (InTriangle v1 v2 v3 p)

  -- the rows are those from p1's to p3's
  abbrev pub TriangleRows : RowRange → Type 0
  TriangleRows r =
      Answered (vertices v1 v2 v3) r.number ((r.first ≡ pos 0) × (r.count ≡ 0))
      ((t : Sorting v1 v2 v3) × ((r.first ≡ t.p1.1) × (r.count ≡ nat_abs (t.p3.1 -ℤ t.p1.1) + 1)))

  abbrev pub TriangleSpan : ℤ → Span → Type 0
  TriangleSpan y r = Spanned (vertices v1 v2 v3) r (RowSpan v1 v2 v3 y)

abbrev pub CircleHas : Point → ℕ → Point → Verdict → Type 0
CircleHas c d p r = Decided (circle c d) r (InCircle c d p)

abbrev pub CircleRow : Point → ℕ → ℤ → Span → Type 0
CircleRow c d y r = Spanned (circle c d) r (CircleSpan c d y)

-- ---- frames
module _ (f : Frame) where
  -- T-07: "The frame needs distance times height"
  abbrev pub FrameSize : Size → Type 0
  FrameSize r = Answered (description f done) r.number (r.bytes ≡ 0) (r.bytes ≡ f.distance * f.height)

  -- 8: "a pixel is read outside the frame"
  abbrev pub PixelRead : List ℕ → Point → Read → Type 0
  PixelRead b p r =
      Answered (frame f (length b) (Test 8 (InFrame f p → ⊥) done)) r.number (r.colour ≡ 0) (r.colour ≡ colour_of f b (nat_abs p.0) (nat_abs p.1))

  -- T-02: "the number of lit pixels of a one-bit frame", "never counting padding or tail"; "1 to 3, then 10 for another depth"
  abbrev pub PixelsLit : List ℕ → Lights → Type 0
  PixelsLit b r =
      Answered (frame f (length b) (Test 10 (f.depth ≡ 1 → ⊥) done)) r.number (r.count ≡ 0)
      (Many (λ x y. (x < f.width) × (y < f.height) × (colour_of f b x y ≡ 1)) r.count)

  -- ---- image files, T-01
  abbrev pub ImageSize : Size → Type 0
  ImageSize r = Answered (description f (Test 10 (NoFormat f) done)) r.number (r.bytes ≡ 0) (FileTakes f r.bytes)

  -- of n bytes, in the place of the first bytes of an output
  pub record Image (b out : List ℕ) (n : ℕ) (after : List ℕ) : Type 0 where
    pub text : List ℕ
    pub pixels : List ℕ
    pub header : HeaderText f.depth f.width f.height text
    pub bytes : after ≡ text ++ (pixels ++ drop n out)
    -- "The answer gives the length"
    pub all : n ≡ length text + length pixels
    pub rows : length pixels ≡ row_takes f * f.height
    -- "bytes past it stay"
    pub past : (i : ℕ) → n ≤ i → get_or after i 0 ≡ get_or out i 0
    -- row after row without a gap, the big end first; "Frame value 1 is P4's 1"
    pub shows : (x y : ℕ) → x < f.width → y < f.height → colour_in f.depth true pixels (y * row_takes f) x ≡ colour_of f b x y
    -- "red in the colour's high byte whatever the byte order": of a pixel's three bytes the first
    pub red : f.depth ≡ 24 → (x y : ℕ) → x < f.width → y < f.height → byte pixels (y * row_takes f + 3 * x) ≡ colour_of f b x y / 65536
    -- "row padding is written as 0": every bit behind a row's last pixel
    pub padding : (y j t : ℕ) → j < row_takes f → t < 8 → f.width * f.depth ≤ 8 * j + (7 - t) → bit pixels (y * row_takes f + j) t ≡ 0

  -- "after 3, 10 for another depth or a zero side, then 9 if the output is too short"
  abbrev pub ImageWritten : List ℕ → List ℕ → Size → List ℕ → Type 0
  ImageWritten b out r after =
      Answered (frame f (length b) (Test 10 (NoFormat f) (Test 9 (NoRoom f (length out)) done))) r.number ((r.bytes ≡ 0) × (after ≡ out)) (Image b out r.bytes after)

  -- ---- calls
  -- T-02: "each drawing call returns the number of distinct frame pixels its figure contains". A read answers no count, for which 0 stands
  abbrev pub Seen : Call → ℕ → Type 0
  Seen (draw g colour) k = Many (λ x y. (x < f.width) × (y < f.height) × Contains g (pos x, pos y)) k
  Seen (read_image file) k = k ≡ 0

  -- the bytes that an accepted call leaves: each pixel that it gives a colour has it, and nothing else changes
  pub record Leaves (o : Call) (before after : List ℕ) : Type 0 where
    pub given : (x y v : ℕ) → x < f.width → y < f.height → Gives f o x y v → colour_of f after x y ≡ v
    pub others : (x y : ℕ) → x < f.width → y < f.height → ((v : ℕ) → Gives f o x y v → ⊥) → colour_of f after x y ≡ colour_of f before x y
    pub rest : KeepsTheRest f before after
    pub as_long : length after ≡ length before

  abbrev pub Called : Call → List ℕ → ℕ → ℕ → List ℕ → Type 0
  Called o before number count after = Answered (of_call f (length before) o) number ((count ≡ 0) × (after ≡ before)) (Seen o count × Leaves o before after)

  -- "Setting a pixel now also says whether it was inside the frame"
  abbrev pub Inside : Point → Placed → Type 0
  Inside p r = ((r.number ≡ 0 → ⊥) → r.inside ≡ false) × (r.number ≡ 0 → (r.inside ≡ true) ↔ InFrame f p)

-- ---- a description, as it is given, and without a gap between its rows: T-07's "the bytes a row now takes", wherever 32 bits hold them
abbrev pub Given : ℕ → ℕ → ℕ → Bool → Frame → Type 0
Given width height depth big f = (f.width ≡ width) × (f.height ≡ height) × (f.depth ≡ depth) × (f.big ≡ big)

abbrev pub GivenGapless : ℕ → ℕ → ℕ → Bool → Frame → Type 0
GivenGapless width height depth big f = Given width height depth big f × (row_takes f ≤ 4294967295 → f.distance ≡ row_takes f)
