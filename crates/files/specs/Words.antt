-- The words of the lines on the file buffer.
use Rattle.std.specs.Prelude.{List, [], ◌∷◌, ℕ}

-- `image`
abbrev pub image_word : List ℕ
image_word = 105 ∷ 109 ∷ 97 ∷ 103 ∷ 101 ∷ []

-- `wipe`
abbrev pub wipe_word : List ℕ
wipe_word = 119 ∷ 105 ∷ 112 ∷ 101 ∷ []

-- `bytes`
abbrev pub bytes_word : List ℕ
bytes_word = 98 ∷ 121 ∷ 116 ∷ 101 ∷ 115 ∷ []

-- `load`
abbrev pub load_word : List ℕ
load_word = 108 ∷ 111 ∷ 97 ∷ 100 ∷ []
