-- The number of a question on a line that is refused by 5, then past the last step by 7. Assumes nothing.
use mathlib.Core.Path.{◌≡◌, refl}
use mathlib.Core.List.{[], ◌∷◌, ◌++◌}
use Prim.Native.Nat.{ℕ, ◌≤◌, ◌<◌}
use native.Mathlib.Omega.{arith}
use lib.Dec.{ltb}
use borrow.Author.Tests.{lt-ltb, le-ltb}
use Rattle.refusals.specs.First.{first}
use Rattle.refusals.proofs.First.{refused, passed, stops, goes_on}
use Rattle.geometry.specs.declared.Point.{Point}
use Rattle.line.specs.Answer.{end_tests}
use Rattle.line.proofs.Refusals.{end_numbered}

-- z is what the test of the ends answered, n the last step, and k the one that is asked
module _ (s e : Point) {z : ℕ} (h : z ≡ first (end_tests s e)) where
  pub ends_refused : (z ≡ 0 → ⊥) → (n k : ℕ) → z ≡ first (end_tests s e ++ ((7, ltb n k) ∷ []))
  ends_refused t n k = refused (end_tests s e) _ h t

  -- of code that compares with l
  module _ (none : z ≡ 0) {l n : ℕ} (is : l ≡ n) (k : ℕ) where
    pub past_refused : l < k → 7 ≡ first (end_tests s e ++ ((7, ltb n k) ∷ []))
    past_refused p = passed (end_tests s e) _ (end_numbered s e) h none (stops 7 _ [] (lt-ltb n k (omega arith)))

    pub step_accepted : k ≤ l → 0 ≡ first (end_tests s e ++ ((7, ltb n k) ∷ []))
    step_accepted p = passed (end_tests s e) _ (end_numbered s e) h none (goes_on 7 _ [] (le-ltb n k (omega arith)) refl)
