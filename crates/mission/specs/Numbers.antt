-- The numbers that an operation may answer, straight from 01's table and 02: when each is given, and in which order each operation asks.
use Rattle.std.specs.Prelude.{◌≡◌, List, ◌⊎◌, ℕ, ◌+◌, ◌*◌, ◌^◌, ◌≤◌, ◌<◌, pos, negsuc, ◌+ℤ◌, length, ◌≤ℤ◌, ◌<ℤ◌}
use Rattle.geometry.specs.declared.Point.{Point}
use Rattle.frames.specs.declared.Frame.{Frame}
use Rattle.drawing.specs.declared.Figure.{Figure}
use Rattle.drawing.specs.declared.Figure.TheVariants.{Fill, Pixel, Line, Connected, Triangle, Outline, Circle}
use Rattle.picture.specs.Calls.{Call, draw, read_image}
use Rattle.mission.specs.Bytes.{row_takes}
use Rattle.mission.specs.Files.{HeaderText, Header}

-- ---- "Given exactly when"
module _ (f : Frame) where
  -- 1: "depth is not 1, 2, 4, 8, 16, 24 or 32"
  abbrev pub NoDepth : Type 0
  NoDepth = ((((((f.depth ≡ 1) ⊎ (f.depth ≡ 2)) ⊎ (f.depth ≡ 4)) ⊎ (f.depth ≡ 8)) ⊎ (f.depth ≡ 16)) ⊎ (f.depth ≡ 24)) ⊎ (f.depth ≡ 32) → ⊥

  -- 2: "width or height is above 2,048"
  abbrev pub TooLarge : Type 0
  TooLarge = (2048 < f.width) ⊎ (2048 < f.height)

  -- 14: not "a row distance in bytes, at most 16,384, at least the bytes a row now takes"
  abbrev pub BadDistance : Type 0
  BadDistance = (f.distance < row_takes f) ⊎ (16384 < f.distance)

  -- 3: "the buffer is shorter than the frame needs", of n bytes; "The frame needs distance times height"
  abbrev pub TooShort : ℕ → Type 0
  TooShort n = n < f.distance * f.height

  -- 4: "the colour is 2^depth or more"
  abbrev pub NoColour : ℕ → Type 0
  NoColour colour = 2 ^ f.depth ≤ colour

  -- a pixel of the frame, by its column and its row
  abbrev pub InFrame : Point → Type 0
  InFrame p = ((pos 0 ≤ℤ p.0) × (p.0 <ℤ pos f.width)) × ((pos 0 ≤ℤ p.1) × (p.1 <ℤ pos f.height))

  -- 10: "a depth without a format or a zero side"
  abbrev pub NoFormat : Type 0
  NoFormat = (((f.depth ≡ 1) ⊎ (f.depth ≡ 8)) ⊎ (f.depth ≡ 24) → ⊥) ⊎ ((f.width ≡ 0) ⊎ (f.height ≡ 0))

  -- the file that the frame is written as takes n bytes: its header, and row after row
  pub record FileTakes (n : ℕ) : Type 0 where
    pub text : List ℕ
    pub header : HeaderText f.depth f.width f.height text
    pub is : n ≡ length text + row_takes f * f.height

  -- 9: "the output is too short", of so many bytes
  abbrev pub NoRoom : ℕ → Type 0
  NoRoom room = (n : ℕ) × (FileTakes n × (room < n))

  module _ (file : List ℕ) where
    -- a header that says so much: width, height, and where the pixels start
    pub record Says (P : ℕ → ℕ → ℕ → Type 0) : Type 0 where
      pub w : ℕ
      pub h : ℕ
      pub start : ℕ
      pub header : Header f.depth file w h start
      pub is : P w h start

    -- 11: "a bad header"
    abbrev pub NoHeader : Type 0
    NoHeader = (w h start : ℕ) → Header f.depth file w h start → ⊥

    -- 13: "another size"
    abbrev pub OtherSize : Type 0
    OtherSize = Says (λ w h start. (w ≡ f.width) × (h ≡ f.height) → ⊥)

    -- 12: "too few pixel bytes"
    abbrev pub TooFew : Type 0
    TooFew = Says (λ w h start. length file < start + row_takes f * f.height)

-- 5: "a vertex, line end or circle top-left has a coordinate outside -131,072 to 131,071"
abbrev pub Far : Point → Type 0
Far p = ((negsuc 131071 ≤ℤ p.0) × (p.0 ≤ℤ pos 131071)) × ((negsuc 131071 ≤ℤ p.1) × (p.1 ≤ℤ pos 131071)) → ⊥

-- 6: "left + diameter or top + diameter is above 131,072"
abbrev pub TooWide : Point → ℕ → Type 0
TooWide c d = (pos 131072 <ℤ (c.0 +ℤ pos d)) ⊎ (pos 131072 <ℤ (c.1 +ℤ pos d))

-- ---- in which order: the first that applies. The answer is k where P, and else what the rest says; 0, done, where nothing is left
pub data Test (k : ℕ) (P : Type 0) (rest : ℕ → Type 0) (n : ℕ) : Type 0 where
  applies : P → n ≡ k → Test k P rest n
  passes : (P → ⊥) → rest n → Test k P rest n

abbrev pub done : ℕ → Type 0
done n = n ≡ 0

-- "Size of a frame: 1, 2", and T-07: "14 for a bad distance, between 2 and 3"
abbrev pub description : Frame → (ℕ → Type 0) → ℕ → Type 0
description f rest = Test 1 (NoDepth f) (Test 2 (TooLarge f) (Test 14 (BadDistance f) rest))

-- a frame over n bytes: 1, 2, 14, 3
abbrev pub frame : Frame → ℕ → (ℕ → Type 0) → ℕ → Type 0
frame f n rest = description f (Test 3 (TooShort f n) rest)

-- questions on a line or a triangle: 5; on a circle: 5, 6
abbrev pub ends : Point → Point → (ℕ → Type 0) → ℕ → Type 0
ends s e rest = Test 5 (Far s ⊎ Far e) rest

abbrev pub vertices : Point → Point → Point → ℕ → Type 0
vertices v1 v2 v3 = Test 5 (Far v1 ⊎ (Far v2 ⊎ Far v3)) done

abbrev pub circle : Point → ℕ → ℕ → Type 0
circle c d = Test 5 (Far c) (Test 6 (TooWide c d) done)

abbrev pub of_figure : Figure → ℕ → Type 0
of_figure Fill = done
of_figure (Pixel p) = done
of_figure (Line s e) = ends s e done
of_figure (Connected s e) = ends s e done
of_figure (Triangle v1 v2 v3) = vertices v1 v2 v3
of_figure (Outline v1 v2 v3) = vertices v1 v2 v3
of_figure (Circle c d) = circle c d

-- a call, behind its frame's tests: "Setting a pixel, filling the frame: 1 to 4. Drawing a line, a triangle, an outline: 1 to 5; a circle: 1 to 6"; reading a file, T-06: "after 3, in this
-- order, 10 .. 11 .. 13 .. 12"
abbrev pub behind_frame : Frame → Call → ℕ → Type 0
behind_frame f (draw g colour) = Test 4 (NoColour f colour) (of_figure g)
behind_frame f (read_image file) = Test 10 (NoFormat f) (Test 11 (NoHeader f file) (Test 13 (OtherSize f file) (Test 12 (TooFew f file) done)))

-- on a frame over n bytes
abbrev pub of_call : Frame → ℕ → Call → ℕ → Type 0
of_call f n o = frame f n (behind_frame f o)
