-- Words that programs say, and numbers behind them.
use Rattle.std.specs.Prelude.{List, [], ◌∷◌, ◌++◌, ℕ}
use Rattle.text.specs.Show.{shown}

-- `bad line`, LF
abbrev pub bad_line : List ℕ
bad_line = 98 ∷ 97 ∷ 100 ∷ 32 ∷ 108 ∷ 105 ∷ 110 ∷ 101 ∷ 10 ∷ []

-- a number and the byte behind it
abbrev pub numbered : ℕ → ℕ → List ℕ
numbered n stop = shown n ++ (stop ∷ [])

-- a word, and a number and LF behind it
abbrev pub counted : List ℕ → ℕ → List ℕ
counted word n = word ++ numbered n 10
