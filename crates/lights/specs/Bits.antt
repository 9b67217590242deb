-- The bits of bytes one behind the other, the first being the highest of the first byte, as the pixels of a row are kept at depth 1 (01, "Packed frames").
use Rattle.std.specs.Prelude.{Bool, List, ℕ, ◌-◌, ◌/◌, ◌%◌, eqb, get_or}
use Rattle.layout.specs.Digits.{digit}
use Rattle.layout.specs.Count.{how_many}

-- whether bit x is 1
abbrev pub bit_at : List ℕ → ℕ → Bool
bit_at b x = eqb (digit 2 (7 - x % 8) (get_or b (x / 8) 0)) 1

-- of the first n bits, those that are 1
unfoldable pub lit_bits : ℕ → List ℕ → ℕ
lit_bits n b = how_many n (bit_at b)
