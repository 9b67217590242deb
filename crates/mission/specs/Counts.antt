-- How many pixels there are of a kind: 02, T-02, "the number of distinct frame pixels".
use Rattle.std.specs.Prelude.{◌≡◌, List, [], ◌∷◌, ◌⊎◌, ◌↔◌, ℕ, length}

-- a pixel is in a list
abbrev pub Among : ℕ × ℕ → List (ℕ × ℕ) → Type 0
Among q [] = ⊥
Among q (p ∷ ps) = (q ≡ p) ⊎ Among q ps

-- no two of a list are the same
abbrev pub Distinct : List (ℕ × ℕ) → Type 0
Distinct [] = Unit {0}
Distinct (p ∷ ps) = (Among p ps → ⊥) × Distinct ps

-- the pixels of which P holds, by column and row, are n: they can be listed, each once
pub record Many (P : ℕ → ℕ → Type 0) (n : ℕ) : Type 0 where
  pub pixels : List (ℕ × ℕ)
  pub distinct : Distinct pixels
  pub exactly : (x y : ℕ) → Among (x, y) pixels ↔ P x y
  pub long : length pixels ≡ n
