-- The words of the lines on the buffer and the frame.
use Rattle.std.specs.Prelude.{List, [], ◌∷◌, ℕ}

-- `frame`
abbrev pub frame_word : List ℕ
frame_word = 102 ∷ 114 ∷ 97 ∷ 109 ∷ 101 ∷ []

-- `preset`
abbrev pub preset_word : List ℕ
preset_word = 112 ∷ 114 ∷ 101 ∷ 115 ∷ 101 ∷ 116 ∷ []

-- `read`
abbrev pub read_word : List ℕ
read_word = 114 ∷ 101 ∷ 97 ∷ 100 ∷ []

-- `imagesize`
abbrev pub image_size_word : List ℕ
image_size_word = 105 ∷ 109 ∷ 97 ∷ 103 ∷ 101 ∷ 115 ∷ 105 ∷ 122 ∷ 101 ∷ []

-- `lit`
abbrev pub lit_word : List ℕ
lit_word = 108 ∷ 105 ∷ 116 ∷ []
