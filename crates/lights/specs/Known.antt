-- Counts by their bytes, as a table: a frame, what its buffer holds, and the answer.
use Rattle.std.specs.Prelude.{false, true, List, [], ◌∷◌, ℕ}
use Rattle.frames.specs.declared.Frame.{Frame}
use Rattle.frames.specs.Description.{described, packed}
use Rattle.lights.specs.declared.Lights.{Lights}
use Rattle.lights.specs.Answer.{lights}

pub record Case : Type 0 where
  pub frame : Frame
  pub bytes : List ℕ
  pub answer : Lights

abbrev case : Frame → List ℕ → Lights → Case
case f b a = record { frame = f; bytes = b; answer = a }

-- rows of 1, 8, 9 and 17 pixels with every bit of their padding set, and a byte of ones behind the frame; the other order; a zero side; rows with a byte of ones
-- between them; and then the refusals: no depth, too large, rows too close and too far apart, too short, another depth, and too short at another depth
abbrev pub table : List Case
table =
    case (packed 1 2 1 false) (0xFF ∷ 0x7F ∷ 0xFF ∷ []) (lights 0 1)
    ∷ case (packed 8 2 1 false) (0xFF ∷ 0x01 ∷ 0xFF ∷ []) (lights 0 9)
    ∷ case (packed 9 2 1 false) (0x00 ∷ 0xFF ∷ 0xFF ∷ 0x7F ∷ 0xFF ∷ []) (lights 0 9)
    ∷ case (packed 9 2 1 true) (0x00 ∷ 0xFF ∷ 0xFF ∷ 0x7F ∷ 0xFF ∷ []) (lights 0 9)
    ∷ case (packed 17 1 1 false) (0xFE ∷ 0x55 ∷ 0xFF ∷ 0xFF ∷ []) (lights 0 12)
    ∷ case (packed 0 5 1 false) (0xFF ∷ []) (lights 0 0)
    ∷ case (packed 5 0 1 false) (0xFF ∷ []) (lights 0 0)
    ∷ case (described 9 2 1 false 3) (0x00 ∷ 0x80 ∷ 0xFF ∷ 0xFF ∷ 0x7F ∷ 0xFF ∷ []) (lights 0 9)
    ∷ case (packed 8 1 3 false) [] (lights 1 0)
    ∷ case (packed 2049 1 1 false) [] (lights 2 0)
    ∷ case (described 9 2 1 false 1) [] (lights 14 0)
    ∷ case (described 9 2 1 false 16385) [] (lights 14 0)
    ∷ case (described 9 2 1 false 3) (0xFF ∷ 0xFF ∷ 0xFF ∷ 0xFF ∷ 0xFF ∷ []) (lights 3 0)
    ∷ case (packed 9 2 1 false) (0xFF ∷ 0xFF ∷ 0xFF ∷ []) (lights 3 0)
    ∷ case (packed 2 1 8 false) (0x01 ∷ 0x01 ∷ []) (lights 10 0)
    ∷ case (packed 2 1 8 false) (0x01 ∷ []) (lights 3 0)
    ∷ []
