-- Laws of the steps at which a line has made so many moves along its minor axis: M is the major and n the minor length, v the moves, k the step. From the first on it
-- has made v moves or more, up to the last v or fewer. Assumes nothing.
use mathlib.Core.Path.{◌≡◌, sym, ap, ◌∙◌}
use mathlib.Core.Logic.{◌↔◌, ◌⊎◌, inl, inr, ⊎_elim}
use Prim.Native.Nat.{ℕ, zero, suc, ◌+◌, ◌*◌, ◌-◌, ◌≤◌, ◌<◌}
use native.Mathlib.Nat.{le-div_iff_mul-le, mul-le-mul_left}
use native.Mathlib.Omega.{arith}
use lib.Dec.{leb}
use borrow.Author.Tests.{le-leb, lt-leb}
use Rattle.whole.proofs.Tests.{lt_or_ge}
use Rattle.line.specs.Line.{moves}
use Rattle.line.specs.Reach.{reach, reach_from}
use Rattle.line.proofs.Moves.{moves_quotient}

pub reaches : (M n v k : ℕ) → 0 < n → (k ≤ reach M n v) ↔ (2 * n * k ≤ 2 * M * v + M)
unfolding reach
reaches M n v k p = (
  λ l. omega (arith, (le-div_iff_mul-le {k = 2 * n} {x = k} {y = (2 * v + 1) * M} (omega arith)).0 l),
  λ l. (le-div_iff_mul-le {k = 2 * n} {x = k} {y = (2 * v + 1) * M} (omega arith)).1 (omega arith),
)

pub firsts : (M n v k : ℕ) → 0 < n → 0 < M → (reach_from M n v ≤ k) ↔ (2 * M * v ≤ 2 * n * k + (M - 1))
unfolding reach_from
firsts M n zero k p q = (λ l. omega arith, λ l. omega arith)
firsts M n (suc v) k p q = (
  λ l. let s : ¬ (2 * n * k ≤ 2 * M * v + M) = λ s. omega (arith, (reaches M n v k p).1 s) in omega arith,
  λ l. let s : ¬ (k ≤ reach M n v) = λ s. omega (arith, (reaches M n v k p).0 s) in omega arith,
)

-- as the code works out the first
pub from_past : (M n v : ℕ) → 0 < v → reach M n (v - 1) + 1 ≡ reach_from M n v
unfolding reach_from
from_past M n zero p = absurd (omega arith)
from_past M n (suc v) p = ap (λ (u : ℕ). reach M n u + 1) (omega arith)

-- of the moves that a line makes it is one of its steps
pub from_wide : (M n v : ℕ) → n ≤ M → v ≤ n → reach_from M n v ≤ M
unfolding reach_from
from_wide M n zero s r = omega arith
from_wide M n (suc v) s r = (firsts M n (suc v) M (omega arith) (omega arith)).1 (omega (arith, mul-le-mul_left M r))

-- the moves at a step are v or more exactly from the first step with v on
moves_least : (M n v k : ℕ) → 0 < M → (v ≤ moves M n k) ↔ (2 * M * v ≤ 2 * n * k + (M - 1))
moves_least M n v k p = (
  λ l. omega (arith, (le-div_iff_mul-le {k = 2 * M} {x = v} {y = 2 * n * k + M - 1} (omega arith)).0 (omega (arith, moves_quotient M n k p))),
  λ l. omega (arith, moves_quotient M n k p, (le-div_iff_mul-le {k = 2 * M} {x = v} {y = 2 * n * k + M - 1} (omega arith)).1 (omega arith)),
)

from_least : (M n v k : ℕ) → n ≤ M → v ≤ n → (reach_from M n v ≤ k) ↔ (v ≤ moves M n k)
unfolding reach_from
from_least M n zero k s r = (λ l. omega arith, λ l. omega arith)
from_least M n (suc v) k s r = (
  λ l. (moves_least M n (suc v) k (omega arith)).1 ((firsts M n (suc v) k (omega arith) (omega arith)).0 l),
  λ l. (firsts M n (suc v) k (omega arith) (omega arith)).1 ((moves_least M n (suc v) k (omega arith)).0 l),
)

pub from_exactly : (M n v k : ℕ) → n ≤ M → v ≤ n → leb (reach_from M n v) k ≡ leb v (moves M n k)
from_exactly M n v k s r = by (lt_or_ge k (reach_from M n v))
  where
    by : (k < reach_from M n v) ⊎ (reach_from M n v ≤ k) → leb (reach_from M n v) k ≡ leb v (moves M n k)
    by (inl l) =
        let m : moves M n k < v = ⊎_elim (λ h. h) (λ h. absurd (omega (arith, (from_least M n v k s r).1 h))) (lt_or_ge (moves M n k) v) in
        lt-leb (reach_from M n v) k l ∙ sym (lt-leb v (moves M n k) m)
    by (inr l) = le-leb (reach_from M n v) k l ∙ sym (le-leb v (moves M n k) ((from_least M n v k s r).0 l))
