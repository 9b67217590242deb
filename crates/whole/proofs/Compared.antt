-- What std's comparing, `min`, `max` and `contains` answer at numbers, as tests of the numbers. Assumes nothing.
use mathlib.Core.Path.{◌≡◌, ap₂, ◌∙◌}
use mathlib.Core.Bool.{cond, ◌&&◌}
use native.Mathlib.Omega.{arith}
use Prim.Native.Nat.{ℕ}
use lib.IntN.{ℤ}
use lib.Signed.{le_z, lt_z}
use mir.Syntax.{Width}
use borrow.Author.Rules.{rules}
use Rattle.std.specs.Int.{int_min, int_max}
use Rattle.std.specs.Ordering.{int_cmp, partial_lt, partial_le}
use Rattle.std.proofs.Common.{Some}
use Rattle.std.proofs.lemmas.Grind.{common_steps}
use Rattle.whole.specs.Interval.{between}
use Rattle.whole.proofs.Machine.{Has, tests_le, tests_lt}

pub le_is : (a b : ℤ) → partial_le (λ x y. Some (int_cmp x y)) a b ≡ le_z a b
le_is a b = search rules

pub lt_is : (a b : ℤ) → partial_lt (λ x y. Some (int_cmp x y)) a b ≡ lt_z a b
lt_is a b = search rules

pub min_is : (a b : ℤ) → int_min a b ≡ cond (le_z a b) a b
min_is a b = grind (arith, common_steps)

pub max_is : (a b : ℤ) → int_max a b ≡ cond (le_z a b) b a
max_is a b = grind (arith, common_steps)

-- `(e..f).contains(&g)`, of operands as they stand
pub range_is : {w : Width} {e f g a b x : ℤ} {k l m : ℕ} → Has w e a k → Has w f b l → Has w g x m
    → (partial_le (λ x y. Some (int_cmp x y)) e g && partial_lt (λ x y. Some (int_cmp x y)) g f) ≡ between a b x
range_is {e = e} {f = f} {g = g} h k l = ap₂ ◌&&◌ (le_is e g ∙ tests_le h l) (lt_is g f ∙ tests_lt l k)
