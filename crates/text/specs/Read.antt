-- Which bytes are a number, and which number they are: 01, the last part of "Known small answers", on the coordinates that `spans` reads.
use Rattle.std.specs.Prelude.{Bool, cond, ◌&&◌, List, [], ◌∷◌, ℕ, leb, eqb, ℤ, pos, neg_ℤ, length, Option, None, option_map}
use Rattle.std.specs.Bool.{then_some}
use Rattle.text.specs.Digits.{all_digits, digits_value}

-- one to `limit` digits, no more, that mean at most `most`
abbrev pub is_number : ℕ → ℕ → List ℕ → Bool
is_number limit most s = leb 1 (length s) && (leb (length s) limit && (all_digits s && leb (digits_value s) most))

unfoldable pub read_digits : ℕ → ℕ → List ℕ → Option ℕ
read_digits limit most s = then_some (is_number limit most s) (digits_value s)

-- one to ten digits that a 32-bit unsigned number holds
abbrev pub read_u32 : List ℕ → Option ℕ
read_u32 s = read_digits 10 4294967295 s

abbrev pub negated : ℕ → ℤ
negated n = neg_ℤ (pos n)

-- an optional minus and one to `limit` digits that a 32-bit signed number holds
unfoldable pub read_signed : ℕ → List ℕ → Option ℤ
read_signed limit [] = None
read_signed limit (b ∷ s) = cond (eqb b 45) (option_map negated (read_digits limit 2147483648 s)) (option_map pos (read_digits limit 2147483647 (b ∷ s)))

-- "an optional minus and one to ten digits that a 32-bit signed number holds"
abbrev pub read_i32 : List ℕ → Option ℤ
read_i32 s = read_signed 10 s
