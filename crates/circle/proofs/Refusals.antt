-- What it says that a circle is not refused, and how wide such a circle can be. Assumes nothing.
use mathlib.Core.Path.{◌≡◌, refl}
use Prim.Native.Nat.{ℕ, ◌≤◌}
use native.Mathlib.Omega.{arith}
use lib.IntN.{pos, negsuc, ◌+ℤ◌}
use borrow.Author.Tests.{not-false}
use Rattle.whole.proofs.Difference.{le_nat, sum_nat}
use Rattle.whole.proofs.Machine.{lt_no}
use Rattle.whole.proofs.Tests.{or_false}
use Rattle.refusals.specs.First.{first}
use Rattle.refusals.proofs.First.{exactly_0}
use Rattle.geometry.specs.declared.Point.{Point}
use Rattle.geometry.proofs.Bound.{bounded_decides}
use Rattle.circle.specs.Refusal.{circle_tests, Fits}

module _ (c : Point) (d : ℕ) where
  pub is_accepted : first (circle_tests c d) ≡ 0 → Fits c d
  unfolding circle_tests
  is_accepted z =
      let t = (exactly_0 (circle_tests c d) refl).0 z in
      let w = or_false _ _ t.1.0 in
      record { corner = (bounded_decides c).yes (not-false _ t.0); right = lt_no w.0; bottom = lt_no w.1 }

-- the widest accepted circle
pub widest : {c : Point} {d : ℕ} → Fits c d → d ≤ 262144
widest {c} {d} f = omega (arith, le_nat f.corner.x.low, le_nat f.right, sum_nat (c.0 +ℤ pos d) c.0 d refl)

-- 262,144 is reached
pub largest : first (circle_tests (negsuc 131071, negsuc 131071) 262144) ≡ 0
unfolding circle_tests
largest = refl
