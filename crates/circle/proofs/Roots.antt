-- Laws of the integer square root: every number has one, and Newton's step, from any number, goes to one that is at least the root.
-- Assumes nothing.
use mathlib.Core.Path.{◌≡◌, ap, subst, ◌∙◌}
use Prim.Native.Nat.{ℕ, zero, suc, ◌+◌, ◌*◌, ◌-◌, ◌/◌, ◌%◌, ◌^◌, ◌≤◌, ◌<◌}
use native.Mathlib.Nat.{mul-le-mul, div-lt_iff_lt-mul, lt-suc_self, lt_of_lt_of_le, lt_of_le_of_lt, mod-eq_of_lt}
use native.Mathlib.Decide.{dec_le}
use native.Mathlib.Omega.{arith}
use lib.Dec.{lit<}
use lib.Pow.{pow_mono, pow-add, pow_pos}
use lib.Count.{count_leading_zeros, leading_length}
use Rattle.circle.specs.Root.{Root}

-- ---- squares
pub square_mono : (a b : ℕ) → a ≤ b → a * a ≤ b * b
square_mono a b h = mul-le-mul {n₁ = a} {m₁ = a} {n₂ = b} {m₂ = b} h h

pub square_below : (a b : ℕ) → a * a < b * b → a < b
square_below a b h = by (dec_le b a)
  where
    by : Dec (b ≤ a) → a < b
    by (yes g) = absurd (omega (arith, square_mono b a g))
    by (no g) = omega arith

-- a number whose square is above another is above 0
pub square_pos : (n r : ℕ) → n < r * r → 0 < r
square_pos n zero h = absurd (omega arith)
square_pos n (suc r) h = omega arith

-- ---- every number has a root
pub record Rooted (n : ℕ) : Type 0 where
  pub r : ℕ
  pub is : Root n r

pub rooted : (n : ℕ) → Rooted n
rooted zero = record { r = 0; is = record { low = omega arith; high = omega arith } }
rooted (suc n) = go (rooted n)
  where
    go : Rooted n → Rooted (suc n)
    go f = by (dec_le ((f.r + 1) * (f.r + 1)) (suc n))
      where
        by : Dec ((f.r + 1) * (f.r + 1) ≤ suc n) → Rooted (suc n)
        by (yes h) = record { r = f.r + 1; is = record { low = h; high = omega (arith, f.is.high) } }
        by (no h) = record { r = f.r; is = record { low = omega (arith, f.is.low); high = omega arith } }

-- ---- Newton's step from r
abbrev pub newton : ℕ → ℕ → ℕ
newton n r = (r + n / r) / 2

-- four times a product is at most the square of the sum
mean : (a b : ℕ) → 4 * (a * b) ≤ (a + b) * (a + b)
mean a b = by (dec_le a b)
  where
    ordered : (a b : ℕ) → a ≤ b → 4 * (a * b) ≤ (a + b) * (a + b)
    ordered a b h =
        let e : b ≡ a + (b - a) = omega arith in
        rw e (omega arith)

    by : Dec (a ≤ b) → 4 * (a * b) ≤ (a + b) * (a + b)
    by (yes h) = ordered a b h
    by (no h) = omega (arith, ordered b a (omega arith))

next_multiple : (n r : ℕ) → 0 < r → n < r * (n / r + 1)
next_multiple n r h = omega (arith, (div-lt_iff_lt-mul {x = n} {y = suc (n / r)} h).0 (lt-suc_self (n / r)))

-- from any number above 0 it is at least the root
pub newton_above : (n r : ℕ) → 0 < r → n < (newton n r + 1) * (newton n r + 1)
newton_above n r h =
    omega (arith, next_multiple n r h, mean r (n / r + 1), square_mono (r + (n / r + 1)) (2 * (newton n r + 1)) (omega arith))

-- from a number whose square is above n it goes down
pub quotient_below : (n r : ℕ) → n < r * r → n / r < r
quotient_below n r h = (div-lt_iff_lt-mul (square_pos n r h)).1 h

pub newton_below : (n r : ℕ) → n < r * r → newton n r < r
newton_below n r h = omega (arith, quotient_below n r h)

-- ---- the first guess: a step from 2 ^ half, where n has 64 - count_leading_zeros 64 n binary digits
module _ (n : ℕ) (fits : n < 2 ^ 64) where
  abbrev pub half : ℕ
  half = (64 - count_leading_zeros 64 n) / 2

  pub power_most : 2 ^ half ≤ 4294967296
  power_most = pow_mono {i = half} {j = 32} (omega arith)

  -- shifting a 1 by half loses nothing
  pub power_is : (1 * 2 ^ half) % 2 ^ 64 ≡ 2 ^ half
  power_is = ap (λ (k : ℕ). k % 2 ^ 64) (omega arith) ∙ mod-eq_of_lt (lt_of_le_of_lt power_most (lit< tt))

  pub shifted_most : n / 2 ^ half < 4294967296
  shifted_most =
      let l = leading_length 64 n fits in
      (div-lt_iff_lt-mul {k = 2 ^ half} {x = n} {y = 4294967296} (pow_pos half)).1
      (lt_of_lt_of_le l.2 (subst (λ (k : ℕ). 2 ^ l.0 ≤ k) (pow-add 2 32 half) (pow_mono (omega (arith, l.1)))))
