-- Numbers as decimal text.
use Rattle.std.specs.Prelude.{cond, List, [], ◌∷◌, ◌++◌, ℕ, zero, suc, ◌+◌, ◌/◌, ◌%◌, ltb, ℤ, pos, negsuc}

-- the last digit of n
abbrev pub last_digit : ℕ → ℕ
last_digit n = 48 + n % 10

-- the last k digits of n, leading zeros among them
abbrev pub last_digits : ℕ → ℕ → List ℕ
last_digits zero n = []
last_digits (suc k) n = last_digits k (n / 10) ++ (last_digit n ∷ [])

-- at most turns + 1 digits of n, the last ones, without leading zeros
abbrev pub shown_by : ℕ → ℕ → List ℕ
shown_by zero n = last_digit n ∷ []
shown_by (suc turns) n = let before : List ℕ = shown_by turns (n / 10) in cond (ltb n 10) (last_digit n ∷ []) (before ++ (last_digit n ∷ []))

-- all of them: `0`, or digits of which the first is not `0`
unfoldable pub shown : ℕ → List ℕ
shown n = shown_by n n

-- a minus where the number is negative
abbrev pub shown_signed : ℤ → List ℕ
shown_signed (pos n) = shown n
shown_signed (negsuc n) = 45 ∷ shown (suc n)

-- a number and the byte behind it
abbrev pub number_field : ℤ → ℕ → List ℕ
number_field v stop = shown_signed v ++ (stop ∷ [])

-- three numbers, parted by tabs, and the byte behind them
abbrev pub triple : ℤ → ℤ → ℤ → ℕ → List ℕ
triple a b c stop = number_field a 9 ++ (number_field b 9 ++ number_field c stop)
