-- An operation answers its values where it is done, and else none. Assumes nothing.
use mathlib.Core.Path.{◌≡◌, refl, ap}
use Prim.Native.Nat.{ℕ, zero, suc}
use Rattle.refusals.specs.Answer.{if_done}

-- of code that was told a number other than 0
pub not_done : {n : ℕ} → (n ≡ 0 → ⊥) → {A : Type 0} (v none : A) → if_done n v none ≡ none
not_done {n = zero} h v none = absurd (h refl)
not_done {n = suc n} h v none = refl

pub is_done : {n : ℕ} → n ≡ 0 → {A : Type 0} (v none : A) → if_done n v none ≡ v
is_done z v none = ap (λ (n : ℕ). if_done n v none) z
