-- The lesser and the greater of two numbers.
use Rattle.std.specs.Prelude.{cond, ℤ}
use Rattle.std.specs.Int.Signed.{le_z}

abbrev pub lesser : ℤ → ℤ → ℤ
lesser a b = cond (le_z a b) a b

abbrev pub greater : ℤ → ℤ → ℤ
greater a b = cond (le_z a b) b a
