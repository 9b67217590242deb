-- Laws of m, the moves along the minor axis: M is the major and n the minor length, k the step. m is the number that its two inequalities fix;
-- it starts at 0, ends at n, never falls and rises by one at most; a tie takes no move. Assumes nothing.
use mathlib.Core.Path.{◌≡◌, refl, ap, ◌∙◌}
use mathlib.Core.Bool.{Bool, cond}
use Prim.Native.Nat.{ℕ, zero, suc, ◌+◌, ◌*◌, ◌-◌, ◌/◌, ◌≤◌, ◌<◌}
use native.Mathlib.Nat.{mul-le-mul_left, mul-le-mul_right, div-eq_of_lt-le, div-mul-le_self, lt-div-mul-add, lt_of_mul-lt-mul_left}
use native.Mathlib.Omega.{arith}
use lib.Dec.{eqb-suc-zero}
use Rattle.line.specs.Line.{moves}

-- ---- the rule, by the major length
pub moves_none : (n k : ℕ) → moves 0 n k ≡ 0
unfolding moves
moves_none n k = refl

pub moves_quotient : (M n k : ℕ) → 0 < M → moves M n k ≡ (2 * n * k + M - 1) / (2 * M)
unfolding moves
moves_quotient zero n k h = absurd (omega arith)
moves_quotient (suc N) n k h = ap (λ (t : Bool). cond t 0 ((2 * n * k + suc N - 1) / (2 * suc N))) (eqb-suc-zero N)

-- ---- m is fixed by its band: the doubled error 2 M q - 2 n k is at least -M and below M, or both lengths are 0
pub record Band (M n k q : ℕ) : Type 0 where
  pub low : 2 * M * q ≤ 2 * n * k + (M - 1)
  pub high : 2 * n * k ≤ 2 * M * q + M

module _ (M n k : ℕ) where
  band_some : 0 < M → Band M n k (moves M n k)
  band_some h =
      let a : ℕ = 2 * n * k + M - 1 in
      let low : a / (2 * M) * (2 * M) ≤ a = div-mul-le_self a (2 * M) in
      let high : a < a / (2 * M) * (2 * M) + 2 * M = lt-div-mul-add {a = a} {b = 2 * M} (omega arith) in
      let e : moves M n k * (2 * M) ≡ a / (2 * M) * (2 * M) = ap (λ (x : ℕ). x * (2 * M)) (moves_quotient M n k h) in
      record { low = omega arith; high = omega arith }

  pub moves_fixed : (q : ℕ) → 0 < M → Band M n k q → moves M n k ≡ q
  moves_fixed q h b = moves_quotient M n k h ∙ div-eq_of_lt-le {k = q} (2 * M) (omega (arith, b.low)) (omega (arith, b.high))

pub moves_band : (M n k : ℕ) → n ≤ M → k ≤ M → Band M n k (moves M n k)
moves_band zero zero k l h = record { low = omega arith; high = omega arith }
moves_band zero (suc n) k l h = absurd (omega arith)
moves_band (suc N) n k l h = band_some (suc N) n k (omega arith)

pub moves_is : (M n k q : ℕ) → k ≤ M → q ≤ k → Band M n k q → moves M n k ≡ q
moves_is zero n k q h f b = moves_none n k ∙ omega arith
moves_is (suc N) n k q h f b = moves_fixed (suc N) n k q (omega arith) b

-- ---- m at the ends of a line
pub moves_start : (M n : ℕ) → moves M n 0 ≡ 0
moves_start M n = moves_is M n 0 0 (omega arith) (omega arith) (record { low = omega arith; high = omega arith })

pub moves_end : (M n : ℕ) → n ≤ M → moves M n M ≡ n
moves_end M n narrow = moves_is M n M n (omega arith) narrow (record { low = omega arith; high = omega arith })

-- ---- m along a line
module _ (M n : ℕ) (some : 0 < M) where
  -- q is too many where it passes the band's low side
  below : (k q : ℕ) → 2 * n * k + (M - 1) < 2 * M * q → moves M n k < q
  below k q l = lt_of_mul-lt-mul_left (2 * M) (omega (arith, (band_some M n k some).low))

  minor_some : (k : ℕ) → k ≤ M → moves M n k ≤ n
  minor_some k h = omega (arith, below k (n + 1) (omega (arith, mul-le-mul_left n h)))

  few_some : (k : ℕ) → n ≤ M → moves M n k ≤ k
  few_some k h = omega (arith, below k (k + 1) (omega (arith, mul-le-mul_right k h)))

  mono_some : (j k : ℕ) → j ≤ k → moves M n j ≤ moves M n k
  mono_some j k h = omega (arith, below j (moves M n k + 1) (omega (arith, mul-le-mul_left n h, (band_some M n k some).high)))

  one_some : (k : ℕ) → n ≤ M → moves M n (k + 1) ≤ moves M n k + 1
  one_some k h = omega (arith, below (k + 1) (moves M n k + 2) (omega (arith, (band_some M n k some).high)))

  -- halfway between q and q + 1 moves: q
  pub moves_tie : (k q : ℕ) → 2 * n * k ≡ 2 * M * q + M → moves M n k ≡ q
  moves_tie k q e = moves_fixed M n k q some (record { low = omega arith; high = omega arith })

pub moves_minor : (M n k : ℕ) → k ≤ M → moves M n k ≤ n
moves_minor zero n k h = omega (arith, moves_none n k)
moves_minor (suc N) n k h = minor_some (suc N) n (omega arith) k h

pub moves_few : (M n k : ℕ) → n ≤ M → moves M n k ≤ k
moves_few zero n k h = omega (arith, moves_none n k)
moves_few (suc N) n k h = few_some (suc N) n (omega arith) k h

pub moves_mono : (M n j k : ℕ) → j ≤ k → moves M n j ≤ moves M n k
moves_mono zero n j k h = omega (arith, moves_none n j)
moves_mono (suc N) n j k h = mono_some (suc N) n (omega arith) j k h

pub moves_one : (M n k : ℕ) → n ≤ M → moves M n (k + 1) ≤ moves M n k + 1
moves_one zero n k h = omega (arith, moves_none n (k + 1))
moves_one (suc N) n k h = one_some (suc N) n (omega arith) k h
