-- What is known of a description, a buffer and a colour that were judged and accepted, and of a canvas.
use Rattle.std.specs.Prelude.{◌≡◌, true, ℕ, ◌^◌, ◌≤◌, ◌<◌}
use Rattle.layout.specs.Packed.{good_depth, row_bytes}
use Rattle.refusals.specs.First.{first}
use Rattle.refusals.specs.Refusal.{as_number}
use Rattle.frames.specs.declared.Frame.{Frame}
use Rattle.frames.specs.declared.Canvas.{Canvas}
use Rattle.frames.specs.Description.{size, frame_tests, whole_window}
use Rattle.windows.specs.Window.{Within}

-- a description that is not refused
pub record Described (f : Frame) : Type 0 where
  pub depth : good_depth f.depth ≡ true
  pub width : f.width ≤ 2048
  pub height : f.height ≤ 2048
  pub apart : row_bytes f.width f.depth ≤ f.distance
  pub near : f.distance ≤ 16384

-- over a buffer of len bytes
pub record Accepted (f : Frame) (len : ℕ) : Type 0 where
  pub described : Described f
  pub room : size f ≤ len

-- that the colour may be drawn on
pub record Drawable (f : Frame) (len colour : ℕ) : Type 0 where
  pub accepted : Accepted f len
  pub below : colour < 2 ^ f.depth

-- a canvas is the whole of a frame, judged over len bytes
pub record OverBytes (c : Canvas) (f : Frame) (len : ℕ) : Type 0 where
  pub frame : c.frame ≡ f
  pub window : c.window ≡ whole_window f
  pub number : as_number c.judged ≡ first (frame_tests f len)

abbrev pub Over : Canvas → ℕ → Type 0
Over c len = OverBytes c c.frame len

-- a canvas that was judged over a buffer of len bytes: where its number is 0 the frame is accepted, and the rectangle lies within it; over some buffer
pub record Judged (c : Canvas) (len : ℕ) : Type 0 where
  pub accepted : as_number c.judged ≡ 0 → Accepted c.frame len
  pub within : as_number c.judged ≡ 0 → Within c.window c.frame.width c.frame.height

abbrev pub JudgedSome : Canvas → Type 0
JudgedSome c = as_number c.judged ≡ 0 → Described c.frame
