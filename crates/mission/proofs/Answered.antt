-- An answer whose values stand beside its number, as the library's do, is what was asked for. Assumes nothing.
use mathlib.Core.Path.{◌≡◌, sym, ◌∙◌}
use mathlib.Core.Bool.{Bool, true}
use mathlib.Core.Logic.{◌↔◌}
use Prim.Native.Nat.{ℕ}
use Rattle.whole.proofs.Decides.{Decides, decides_yes}
use Rattle.refusals.specs.Answer.{if_done}
use Rattle.refusals.proofs.Answer.{not_done, is_done}
use Rattle.mission.specs.Answers.{Answered}

-- by the number n the value is v, and none with a refusal
module _ {table : ℕ → Type 0} {n : ℕ} (number : table n) {A : Type 0} {v none : A} where
  pub answered : {zeros values : Type 0} → (if_done n v none ≡ none → zeros) → (n ≡ 0 → if_done n v none ≡ v → values) → Answered table n zeros values
  answered z w = record { number = number; refused = λ k. z (not_done k v none); accepted = λ e. w e (is_done e v none) }

  -- of two values
  pub answered_both : {B : Type 0} {w nil : B} {zeros values : Type 0} → (if_done n v none ≡ none → if_done n w nil ≡ nil → zeros)
      → (n ≡ 0 → if_done n v none ≡ v → if_done n w nil ≡ w → values) → Answered table n zeros values
  answered_both {w = w} {nil = nil} z u =
      record { number = number; refused = λ k. z (not_done k v none) (not_done k w nil); accepted = λ e. u e (is_done e v none) (is_done e w nil) }

-- a yes or no
pub yes_exactly : {t u : Bool} {P : Type 0} → t ≡ u → Decides u P → (t ≡ true) ↔ P
yes_exactly e d = (λ y. d.yes (sym e ∙ y), λ p. e ∙ decides_yes d p)
