-- The number that an operation answers (01, "Numbers an operation may answer"): its tests, each with the number that it refuses with, stand in a list in
-- the order in which they are asked.
use Rattle.std.specs.Prelude.{Bool, true, cond, not, ◌&&◌, List, [], ◌∷◌, ℕ, eqb, ltb}

-- numbers, each with whether it applies
abbrev pub Tests : Type 0
Tests = List (ℕ × Bool)

-- the number of the first test that holds; 0, done, where none does
abbrev pub first : Tests → ℕ
first [] = 0
first (t ∷ ts) = cond t.1 t.0 (first ts)

-- ---- of the numbers alone, so that each computes for a written list, whatever its tests are
-- no number is 0, so that 0 says that no test holds
abbrev pub numbered : Tests → Bool
numbered [] = true
numbered (t ∷ ts) = not (eqb t.0 0) && numbered ts

-- the numbers rise, each above m
abbrev pub rising : ℕ → Tests → Bool
rising m [] = true
rising m (t ∷ ts) = ltb m t.0 && rising t.0 ts
