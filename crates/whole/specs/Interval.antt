-- An interval of whole numbers, as a yes or no.
use Rattle.std.specs.Prelude.{Bool, ◌&&◌, ℤ}
use Rattle.std.specs.Int.Signed.{le_z, lt_z}

-- x is at least a and below b
abbrev pub between : ℤ → ℤ → ℤ → Bool
between a b x = le_z a x && lt_z x b
