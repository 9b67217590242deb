-- Bytes of the buffer as `dump` shows them.
use Rattle.std.specs.Prelude.{cond, List, [], ◌∷◌, ◌++◌, ℕ, ◌+◌, ◌/◌, ◌%◌, leb, ltb, length, take, drop, Option, Some, None, option_and_then}
use Rattle.std.specs.Bool.{then_some}
use Rattle.text.specs.Fields.{next_u32}
use Rattle.readers.specs.Figures.{last_u32}
use Rattle.protocol.specs.Reply.{bad_line}

-- a hexadecimal digit, in lower case
abbrev pub hex_digit : ℕ → ℕ
hex_digit v = cond (ltb v 10) (48 + v) (87 + v)

-- two digits each
abbrev pub hex_text : List ℕ → List ℕ
hex_text [] = []
hex_text (b ∷ s) = hex_digit (b / 16) ∷ hex_digit (b % 16) ∷ hex_text s

-- `dump FROM COUNT`: COUNT bytes of the buffer from FROM on, at most 4,096 and none beyond the buffer
abbrev pub part_of : List ℕ → ℕ → ℕ → Option (List ℕ)
part_of m from count = then_some (leb (from + count) (length m)) (take count (drop from m))

unfoldable pub dumped : List ℕ → ℕ → List ℕ → Option (List ℕ)
dumped said at m = option_and_then (λ f. option_and_then (part_of m f.0) (last_u32 4096 said f.1)) (next_u32 said at)

abbrev pub shown_part : Option (List ℕ) → List ℕ
shown_part None = bad_line
shown_part (Some b) = hex_text b ++ (10 ∷ [])

abbrev pub dump_line : List ℕ → ℕ → List ℕ → List ℕ
dump_line said at m = shown_part (dumped said at m)
