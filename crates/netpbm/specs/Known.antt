-- Files by their bytes, as a table: a frame, what its buffer holds, and the file that is written of it or read into it.
use Rattle.std.specs.Prelude.{true, false, List, [], ◌∷◌, ◌++◌, ℕ}
use Rattle.frames.specs.declared.Frame.{Frame}
use Rattle.frames.specs.Description.{described, packed}

pub data Case : Type 0 where
  -- the frame, its bytes, and the file of it
  saves : Frame → List ℕ → List ℕ → Case
  -- the frame, its bytes, a file, the number that reading it answers, and the bytes afterwards
  loads : Frame → List ℕ → List ℕ → ℕ → List ℕ → Case

-- `P4`, LF, `10 3`, LF; `P5`, LF, `2 1`, LF, `255`, LF; `P6`, LF, `1 1`, LF, `255`, LF
abbrev bits : List ℕ
bits = 0x50 ∷ 0x34 ∷ 0x0A ∷ 0x31 ∷ 0x30 ∷ 0x20 ∷ 0x33 ∷ 0x0A ∷ []

abbrev grey : List ℕ
grey = 0x50 ∷ 0x35 ∷ 0x0A ∷ 0x32 ∷ 0x20 ∷ 0x31 ∷ 0x0A ∷ 0x32 ∷ 0x35 ∷ 0x35 ∷ 0x0A ∷ []

abbrev colours : List ℕ
colours = 0x50 ∷ 0x36 ∷ 0x0A ∷ 0x31 ∷ 0x20 ∷ 0x31 ∷ 0x0A ∷ 0x32 ∷ 0x35 ∷ 0x35 ∷ 0x0A ∷ []

abbrev pub table : List Case
table =
    -- the six padding bits of a row are 0 in the file, whatever they are in the frame; a colour's high byte comes first in both orders
    saves (packed 10 3 1 false) (0xFF ∷ 0xFF ∷ 0x00 ∷ 0x3F ∷ 0xAA ∷ 0x95 ∷ []) (bits ++ (0xFF ∷ 0xC0 ∷ 0x00 ∷ 0x00 ∷ 0xAA ∷ 0x80 ∷ []))
    ∷ saves (packed 2 1 8 false) (0x07 ∷ 0xC8 ∷ []) (grey ++ (0x07 ∷ 0xC8 ∷ []))
    ∷ saves (packed 1 1 24 true) (0x01 ∷ 0x02 ∷ 0x03 ∷ []) (colours ++ (0x01 ∷ 0x02 ∷ 0x03 ∷ []))
    ∷ saves (packed 1 1 24 false) (0x03 ∷ 0x02 ∷ 0x01 ∷ []) (colours ++ (0x01 ∷ 0x02 ∷ 0x03 ∷ []))
    -- rows three bytes apart: the byte between them is not in the file
    ∷ saves (described 10 3 1 false 3) (0xFF ∷ 0xFF ∷ 0x11 ∷ 0x00 ∷ 0x3F ∷ 0x22 ∷ 0xAA ∷ 0x95 ∷ 0x33 ∷ []) (bits ++ (0xFF ∷ 0xC0 ∷ 0x00 ∷ 0x00 ∷ 0xAA ∷ 0x80 ∷ []))
    -- padding that is set in the file is ignored, and that of the frame kept, as is the byte behind it; so is what follows the pixels
    ∷ loads (packed 10 3 1 false) (0x00 ∷ 0x15 ∷ 0xFF ∷ 0xFF ∷ 0x0F ∷ 0x00 ∷ 0x77 ∷ [])
    (bits ++ (0xFF ∷ 0xFF ∷ 0x00 ∷ 0x3F ∷ 0xAA ∷ 0x95 ∷ 0x50 ∷ [])) 0 (0xFF ∷ 0xD5 ∷ 0x00 ∷ 0x3F ∷ 0xAA ∷ 0x80 ∷ 0x77 ∷ [])
    -- and so is the byte between rows three bytes apart
    ∷ loads (described 10 3 1 false 3) (0x00 ∷ 0x15 ∷ 0x11 ∷ 0xFF ∷ 0xFF ∷ 0x22 ∷ 0x0F ∷ 0x00 ∷ 0x33 ∷ 0x77 ∷ [])
    (bits ++ (0xFF ∷ 0xFF ∷ 0x00 ∷ 0x3F ∷ 0xAA ∷ 0x95 ∷ [])) 0 (0xFF ∷ 0xD5 ∷ 0x11 ∷ 0x00 ∷ 0x3F ∷ 0x22 ∷ 0xAA ∷ 0x80 ∷ 0x33 ∷ 0x77 ∷ [])
    -- red comes first in the file, and last in a frame with the little end first
    ∷ loads (packed 1 1 24 false) (0x00 ∷ 0x00 ∷ 0x00 ∷ []) (colours ++ (0x01 ∷ 0x02 ∷ 0x03 ∷ [])) 0 (0x03 ∷ 0x02 ∷ 0x01 ∷ [])
    -- pixels that look like white space are pixels: exactly one byte closes the header
    ∷ loads (packed 2 1 8 false) (0x00 ∷ 0x00 ∷ []) (grey ++ (0x0A ∷ 0x20 ∷ [])) 0 (0x0A ∷ 0x20 ∷ [])
    -- a pixel byte too few; another size, which is asked before that; another depth's magic
    ∷ loads (packed 2 1 8 false) (0x05 ∷ 0x06 ∷ []) (grey ++ (0x07 ∷ [])) 12 (0x05 ∷ 0x06 ∷ [])
    ∷ loads (packed 1 2 8 false) (0x05 ∷ 0x06 ∷ []) (grey ++ (0x07 ∷ [])) 13 (0x05 ∷ 0x06 ∷ [])
    ∷ loads (packed 1 1 24 false) (0x05 ∷ 0x06 ∷ 0x07 ∷ []) (grey ++ (0x07 ∷ 0xC8 ∷ [])) 11 (0x05 ∷ 0x06 ∷ 0x07 ∷ [])
    ∷ []
