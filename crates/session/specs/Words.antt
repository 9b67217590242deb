-- The words of the lines that show bytes.
use Rattle.std.specs.Prelude.{List, [], ◌∷◌, ℕ}

-- `dump`
abbrev pub dump_word : List ℕ
dump_word = 100 ∷ 117 ∷ 109 ∷ 112 ∷ []

-- `file`
abbrev pub file_word : List ℕ
file_word = 102 ∷ 105 ∷ 108 ∷ 101 ∷ []
