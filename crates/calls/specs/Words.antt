-- The words of the drawing calls.
use Rattle.std.specs.Prelude.{List, [], ◌∷◌, ℕ}

-- `pixel`
abbrev pub pixel_word : List ℕ
pixel_word = 112 ∷ 105 ∷ 120 ∷ 101 ∷ 108 ∷ []

-- `fill`
abbrev pub fill_word : List ℕ
fill_word = 102 ∷ 105 ∷ 108 ∷ 108 ∷ []

-- `line`
abbrev pub line_word : List ℕ
line_word = 108 ∷ 105 ∷ 110 ∷ 101 ∷ []

-- `triangle`
abbrev pub triangle_word : List ℕ
triangle_word = 116 ∷ 114 ∷ 105 ∷ 97 ∷ 110 ∷ 103 ∷ 108 ∷ 101 ∷ []

-- `outline`
abbrev pub outline_word : List ℕ
outline_word = 111 ∷ 117 ∷ 116 ∷ 108 ∷ 105 ∷ 110 ∷ 101 ∷ []

-- `circle`
abbrev pub circle_word : List ℕ
circle_word = 99 ∷ 105 ∷ 114 ∷ 99 ∷ 108 ∷ 101 ∷ []

-- `trace`
abbrev pub trace_word : List ℕ
trace_word = 116 ∷ 114 ∷ 97 ∷ 99 ∷ 101 ∷ []
