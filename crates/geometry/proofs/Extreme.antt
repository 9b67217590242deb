-- The lesser and the greater of two numbers are the two in order. Assumes nothing.
use mathlib.Core.Path.{◌≡◌, refl}
use mathlib.Core.Bool.{Bool, true, false, cond}
use mathlib.Core.Logic.{◌⊎◌, inl, inr}
use lib.IntN.{ℤ}
use lib.Signed.{le_z, ◌≤ℤ◌, ◌<ℤ◌}
use Rattle.whole.proofs.Machine.{le_yes, le_no}
use Rattle.whole.proofs.Order.{le_self, lt_le}
use Rattle.geometry.specs.Extreme.{lesser, greater}

-- low and high are a and b, and no number of the two is below low or above high
pub record Extremes (a b low high : ℤ) : Type 0 where
  pub from_first : low ≤ℤ a
  pub from_second : low ≤ℤ b
  pub to_first : a ≤ℤ high
  pub to_second : b ≤ℤ high
  pub low_is : (low ≡ a) ⊎ (low ≡ b)
  pub high_is : (high ≡ a) ⊎ (high ≡ b)

pub extremes : (a b : ℤ) → Extremes a b (lesser a b) (greater a b)
extremes a b = by (le_z a b) le_yes le_no
  where
    by : (t : Bool) → (t ≡ true → a ≤ℤ b) → (t ≡ false → b <ℤ a) → Extremes a b (cond t a b) (cond t b a)
    by true f g = record { from_first = le_self a; from_second = f refl; to_first = f refl; to_second = le_self b; low_is = inl refl; high_is = inr refl }
    by false f g = record { from_first = lt_le (g refl); from_second = le_self b; to_first = le_self a; to_second = lt_le (g refl); low_is = inr refl; high_is = inl refl }
