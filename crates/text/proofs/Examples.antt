-- Worked examples: what is a number and what is none, how numbers are written, and how a line is parted. Each is computed. Assumes nothing.
use mathlib.Core.Path.{◌≡◌, refl}
use mathlib.Core.List.{[], ◌∷◌}
use lib.IntN.{pos, negsuc}
use Rattle.std.specs.Prelude.{Some, None}
use Rattle.text.specs.Read.{read_digits, read_u32, read_signed, read_i32}
use Rattle.text.specs.Fields.{fields, lines}
use Rattle.text.specs.Show.{shown, shown_signed, triple}

-- ---- numbers: -0, 0000000007, 2147483647, -2147483648
minus_zero : read_i32 (45 ∷ 48 ∷ []) ≡ Some (pos 0)
unfolding read_signed read_digits
minus_zero = refl

zeros_seven : read_i32 (48 ∷ 48 ∷ 48 ∷ 48 ∷ 48 ∷ 48 ∷ 48 ∷ 48 ∷ 48 ∷ 55 ∷ []) ≡ Some (pos 7)
unfolding read_signed read_digits
zeros_seven = refl

largest : read_i32 (50 ∷ 49 ∷ 52 ∷ 55 ∷ 52 ∷ 56 ∷ 51 ∷ 54 ∷ 52 ∷ 55 ∷ []) ≡ Some (pos 2147483647)
unfolding read_signed read_digits
largest = refl

least : read_i32 (45 ∷ 50 ∷ 49 ∷ 52 ∷ 55 ∷ 52 ∷ 56 ∷ 51 ∷ 54 ∷ 52 ∷ 56 ∷ []) ≡ Some (negsuc 2147483647)
unfolding read_signed read_digits
least = refl

-- ---- none: nothing, -, --1, +1, 2147483648, eleven digits, a space, CR or NUL behind a digit
nothing : read_i32 [] ≡ None
unfolding read_signed
nothing = refl

minus_alone : read_i32 (45 ∷ []) ≡ None
unfolding read_signed read_digits
minus_alone = refl

minus_twice : read_i32 (45 ∷ 45 ∷ 49 ∷ []) ≡ None
unfolding read_signed read_digits
minus_twice = refl

plus : read_i32 (43 ∷ 49 ∷ []) ≡ None
unfolding read_signed read_digits
plus = refl

too_large : read_i32 (50 ∷ 49 ∷ 52 ∷ 55 ∷ 52 ∷ 56 ∷ 51 ∷ 54 ∷ 52 ∷ 56 ∷ []) ≡ None
unfolding read_signed read_digits
too_large = refl

eleven : read_i32 (48 ∷ 48 ∷ 48 ∷ 48 ∷ 48 ∷ 48 ∷ 48 ∷ 48 ∷ 48 ∷ 48 ∷ 49 ∷ []) ≡ None
unfolding read_signed read_digits
eleven = refl

space : read_i32 (49 ∷ 32 ∷ []) ≡ None
unfolding read_signed read_digits
space = refl

carriage_return : read_i32 (49 ∷ 13 ∷ []) ≡ None
unfolding read_signed read_digits
carriage_return = refl

nul : read_i32 (49 ∷ 0 ∷ []) ≡ None
unfolding read_signed read_digits
nul = refl

-- ---- unsigned: 4294967295 is the last, and a minus is none; four digits where four are the limit
last_unsigned : read_u32 (52 ∷ 50 ∷ 57 ∷ 52 ∷ 57 ∷ 54 ∷ 55 ∷ 50 ∷ 57 ∷ 53 ∷ []) ≡ Some 4294967295
unfolding read_digits
last_unsigned = refl

one_more : read_u32 (52 ∷ 50 ∷ 57 ∷ 52 ∷ 57 ∷ 54 ∷ 55 ∷ 50 ∷ 57 ∷ 54 ∷ []) ≡ None
unfolding read_digits
one_more = refl

no_minus : read_u32 (45 ∷ 48 ∷ []) ≡ None
unfolding read_digits
no_minus = refl

four : read_digits 4 9999 (50 ∷ 48 ∷ 52 ∷ 56 ∷ []) ≡ Some 2048
unfolding read_digits
four = refl

five : read_digits 4 9999 (48 ∷ 50 ∷ 48 ∷ 52 ∷ 56 ∷ []) ≡ None
unfolding read_digits
five = refl

-- ---- written: 0, 4294967295, -2147483648, and the row 1, 0, 4
zero_shown : shown 0 ≡ 48 ∷ []
unfolding shown
zero_shown = refl

last_shown : shown 4294967295 ≡ 52 ∷ 50 ∷ 57 ∷ 52 ∷ 57 ∷ 54 ∷ 55 ∷ 50 ∷ 57 ∷ 53 ∷ []
unfolding shown
last_shown = refl

least_shown : shown_signed (negsuc 2147483647) ≡ 45 ∷ 50 ∷ 49 ∷ 52 ∷ 55 ∷ 52 ∷ 56 ∷ 51 ∷ 54 ∷ 52 ∷ 56 ∷ []
unfolding shown
least_shown = refl

row : triple (pos 1) (pos 0) (pos 4) 10 ≡ 49 ∷ 9 ∷ 48 ∷ 9 ∷ 52 ∷ 10 ∷ []
unfolding shown
row = refl

-- ---- parted: an empty line has one field, and a tab one more; an empty input has no line, a last LF starts none, and a last line may lack it
one_field : fields [] ≡ [] ∷ []
one_field = refl

three_fields : fields (49 ∷ 9 ∷ 9 ∷ 50 ∷ []) ≡ (49 ∷ []) ∷ [] ∷ (50 ∷ []) ∷ []
three_fields = refl

no_line : lines [] ≡ []
no_line = refl

two_lines : lines (49 ∷ 10 ∷ 10 ∷ []) ≡ (49 ∷ []) ∷ [] ∷ []
two_lines = refl

last_open : lines (49 ∷ 10 ∷ 50 ∷ []) ≡ (49 ∷ []) ∷ (50 ∷ []) ∷ []
last_open = refl
