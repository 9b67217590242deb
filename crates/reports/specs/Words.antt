-- The words that the programs print (those of `spans`: 01, the end of "Known small answers").
use Rattle.std.specs.Prelude.{List, [], ◌∷◌, ℕ}

-- `refused`, a tab
abbrev pub refused : List ℕ
refused = 114 ∷ 101 ∷ 102 ∷ 117 ∷ 115 ∷ 101 ∷ 100 ∷ 9 ∷ []

-- `rows`, a tab
abbrev pub rows : List ℕ
rows = 114 ∷ 111 ∷ 119 ∷ 115 ∷ 9 ∷ []

-- `bad line`, a tab
abbrev pub bad_tab : List ℕ
bad_tab = 98 ∷ 97 ∷ 100 ∷ 32 ∷ 108 ∷ 105 ∷ 110 ∷ 101 ∷ 9 ∷ []

-- `inside`, a tab
abbrev pub inside : List ℕ
inside = 105 ∷ 110 ∷ 115 ∷ 105 ∷ 100 ∷ 101 ∷ 9 ∷ []

-- `too long`, LF
abbrev pub too_long : List ℕ
too_long = 116 ∷ 111 ∷ 111 ∷ 32 ∷ 108 ∷ 111 ∷ 110 ∷ 103 ∷ 10 ∷ []
