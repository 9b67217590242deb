-- Bytes as the line `bytes` has them: "two lower-case hexadecimal digits a byte, 1 to 48 bytes", as `dump` shows bytes.
use Rattle.std.specs.Prelude.{Bool, true, false, cond, ◌&&◌, List, [], ◌∷◌, ℕ, ◌+◌, ◌*◌, ◌-◌, ◌%◌, eqb, leb, length, Option, Some, unwrap_or}
use Rattle.std.specs.Bool.{then_some}
use Rattle.std.specs.List.{list_all}
use Rattle.std.specs.Option.{is_some}
use Rattle.std.proofs.lemmas.List.Edits.{sets}
use Rattle.text.specs.Digits.{is_digit}

-- the value of a digit: `0` to `9`, `a` to `f`
unfoldable pub hex_value : ℕ → Option ℕ
hex_value b = cond (is_digit b) (Some (b - 48)) (then_some (leb 97 b && leb b 102) (b - 87))

abbrev pub all_hex : List ℕ → Bool
all_hex s = list_all (λ b. is_some (hex_value b)) s

-- digits, an even number of them, 2 to 96
unfoldable pub is_hex : List ℕ → Bool
is_hex s = ((all_hex s && eqb (length s % 2) 0) && leb 2 (length s)) && leb (length s) 96

-- two digits each, the higher first
abbrev pub digit_or_zero : ℕ → ℕ
digit_or_zero b = unwrap_or (hex_value b) 0

abbrev pub hex_bytes : List ℕ → List ℕ
hex_bytes [] = []
hex_bytes (h ∷ []) = []
hex_bytes (h ∷ l ∷ s) = (digit_or_zero h * 16 + digit_or_zero l) ∷ hex_bytes s

-- the bytes from a place on become those that the digits are, if all of them have a place there: whether, and what is left of the buffer
unfoldable pub hex_put : List ℕ → ℕ → List ℕ → Bool × List ℕ
hex_put s at m = cond (is_hex s && leb (at + length (hex_bytes s)) (length m)) (true, sets m at (hex_bytes s)) (false, m)
