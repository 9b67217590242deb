-- The values of a function at numbers that follow each other.
use Rattle.std.specs.Prelude.{List, [], ◌∷◌, ℕ, zero, suc, ◌+◌}

-- f k, f (k + 1), .., n of them
abbrev pub up_from : {A : Type 0} → (ℕ → A) → ℕ → ℕ → List A
up_from f k zero = []
up_from f k (suc n) = f k ∷ up_from f (k + 1) n
