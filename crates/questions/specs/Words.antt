-- The words of the questions on figures.
use Rattle.std.specs.Prelude.{List, [], ◌∷◌, ℕ}

-- `inside`
abbrev pub inside_word : List ℕ
inside_word = 105 ∷ 110 ∷ 115 ∷ 105 ∷ 100 ∷ 101 ∷ []

-- `span`
abbrev pub span_word : List ℕ
span_word = 115 ∷ 112 ∷ 97 ∷ 110 ∷ []

-- `rows`
abbrev pub rows_word : List ℕ
rows_word = 114 ∷ 111 ∷ 119 ∷ 115 ∷ []

-- `length`
abbrev pub length_word : List ℕ
length_word = 108 ∷ 101 ∷ 110 ∷ 103 ∷ 116 ∷ 104 ∷ []

-- `point`
abbrev pub point_word : List ℕ
point_word = 112 ∷ 111 ∷ 105 ∷ 110 ∷ 116 ∷ []

-- `online`
abbrev pub online_word : List ℕ
online_word = 111 ∷ 110 ∷ 108 ∷ 105 ∷ 110 ∷ 101 ∷ []

-- `disc`
abbrev pub disc_word : List ℕ
disc_word = 100 ∷ 105 ∷ 115 ∷ 99 ∷ []

-- `discspan`
abbrev pub discspan_word : List ℕ
discspan_word = 100 ∷ 105 ∷ 115 ∷ 99 ∷ 115 ∷ 112 ∷ 97 ∷ 110 ∷ []

-- `tracelength`
abbrev pub tracelength_word : List ℕ
tracelength_word = 116 ∷ 114 ∷ 97 ∷ 99 ∷ 101 ∷ 108 ∷ 101 ∷ 110 ∷ 103 ∷ 116 ∷ 104 ∷ []

-- `tracepoint`
abbrev pub tracepoint_word : List ℕ
tracepoint_word = 116 ∷ 114 ∷ 97 ∷ 99 ∷ 101 ∷ 112 ∷ 111 ∷ 105 ∷ 110 ∷ 116 ∷ []

-- `ontrace`
abbrev pub ontrace_word : List ℕ
ontrace_word = 111 ∷ 110 ∷ 116 ∷ 114 ∷ 97 ∷ 99 ∷ 101 ∷ []
