-- Comparing two words, and what a word means. Assumes nothing.
use mathlib.Core.Path.{◌≡◌, sym, ◌∙◌}
use mathlib.Core.Bool.{Bool, true, false, cond}
use mathlib.Core.List.{List, [], ◌∷◌}
use Prim.Native.Nat.{ℕ}
use Rattle.readers.specs.Words.{same_word, meant}

-- ---- a word that the code compares with the first of those that are left: it is that one, or another; and none is left
module _ {A : Type 0} (word w : List ℕ) (v : A) (ms : List (List ℕ × A)) (other : A) {r : A} {t : Bool} (found : t ≡ same_word word w) where
  pub meant_here : t ≡ true → r ≡ v → r ≡ meant word ((w, v) ∷ ms) other
  unfolding meant
  meant_here e q = rw (sym found ∙ e) q

  pub meant_behind : t ≡ false → r ≡ meant word ms other → r ≡ meant word ((w, v) ∷ ms) other
  unfolding meant
  meant_behind e q = rw (sym found ∙ e) q

pub meant_none : {A : Type 0} (word : List ℕ) {other r : A} → r ≡ other → r ≡ meant word [] other
unfolding meant
meant_none word q = q

-- what holds of every meaning holds of the word's
abbrev pub Each : {A : Type 0} → (A → Type 0) → List (List ℕ × A) → Type 0
Each P [] = Unit {0}
Each P (m ∷ ms) = P m.1 × Each P ms

pub meant_each : {A : Type 0} (P : A → Type 0) (word : List ℕ) (ms : List (List ℕ × A)) (other : A) → Each P ms → P other → P (meant word ms other)
unfolding meant
meant_each P word [] other h o = o
meant_each P word (m ∷ ms) other h o = by (same_word word m.0) (meant_each P word ms other h.1 o)
  where
    by : (t : Bool) → P (meant word ms other) → P (cond t m.1 (meant word ms other))
    by true r = h.0
    by false r = r

-- what answers the needs of a choice by the word
pub ruleset choices = (meant_here, meant_behind, meant_none)
