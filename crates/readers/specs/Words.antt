-- Telling words apart, and what a word means in a table of words and their meanings.
use Rattle.std.specs.Prelude.{Bool, true, false, cond, ◌&&◌, List, [], ◌∷◌, ℕ, eqb}

abbrev pub same_word : List ℕ → List ℕ → Bool
same_word [] [] = true
same_word [] (c ∷ t) = false
same_word (b ∷ s) [] = false
same_word (b ∷ s) (c ∷ t) = eqb b c && same_word s t

-- what the word means, and what any other does
unfoldable pub meant : {A : Type 0} → List ℕ → List (List ℕ × A) → A → A
meant word [] other = other
meant word (m ∷ ms) other = cond (same_word word m.0) m.1 (meant word ms other)
