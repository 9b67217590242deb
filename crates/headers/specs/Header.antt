-- 02, T-01 and T-06: the header of an image file, as it is written and as it is read. A byte is its number: 80 is `P`, 52 to 54 are `4` to `6`. A place is
-- the number of bytes before it.
use Rattle.std.specs.Prelude.{Bool, true, false, cond, not, ◌&&◌, ◌||◌, List, [], ◌∷◌, ◌++◌, ℕ, suc, ◌+◌, ◌-◌, eqb, ltb, length, take, drop, get_or, Option, Some, None, unwrap_or, option_map, option_and_then}
use Rattle.std.specs.Bool.{then_some}
use Rattle.text.specs.Read.{read_digits}
use Rattle.text.specs.Words.{numbered}
use Rattle.headers.specs.declared.Header.{Header}

-- ---- as it is written: T-01
-- "depth 1 as P4, depth 8 as P5 with maximum 255, depth 24 as P6": `4`, `5` or `6`
abbrev pub kind : ℕ → ℕ
kind depth = cond (eqb depth 1) 52 (cond (eqb depth 8) 53 54)

-- "magic, LF"
abbrev pub magic : ℕ → List ℕ
magic depth = 80 ∷ kind depth ∷ 10 ∷ []

-- "`255`, LF"
abbrev pub largest : List ℕ
largest = 50 ∷ 53 ∷ 53 ∷ 10 ∷ []

-- "for P5 and P6"
abbrev pub maximum : ℕ → List ℕ
maximum depth = cond (eqb depth 1) [] largest

-- "magic, LF, width, space, height, LF, and for P5 and P6 `255`, LF"
abbrev pub header_bytes : ℕ → ℕ → ℕ → List ℕ
header_bytes depth width height = magic depth ++ (numbered width 32 ++ (numbered height 10 ++ maximum depth))

-- ---- as it is read: T-06
-- "space, tab, CR, LF"
abbrev pub is_space : ℕ → Bool
is_space b = eqb b 32 || eqb b 9 || eqb b 13 || eqb b 10

-- one of them, or none of them
abbrev pub space_is : Bool → ℕ → Bool
space_is true b = is_space b
space_is false b = not (is_space b)

-- how many bytes in front pass a test
abbrev pub leading : (ℕ → Bool) → List ℕ → ℕ
leading t [] = 0
leading t (b ∷ s) = cond (t b) (suc (leading t s)) 0

-- the place behind the spaces, or behind the other bytes, that start at a place
unfoldable pub past : Bool → List ℕ → ℕ → ℕ
past spaces s at = at + leading (space_is spaces) (drop at s)

-- what stands from one place to another as a number: no "field with no digit, with another byte or with over four digits"
unfoldable pub number_from : List ℕ → ℕ → ℕ → Option ℕ
number_from s start end = read_digits 4 9999 (take (end - start) (drop start s))

-- it is a field, if there are spaces from `at` to its start, and the file goes on behind its end: its number, and the place behind it
unfoldable pub field_from : List ℕ → ℕ → ℕ → ℕ → Option (ℕ × ℕ)
field_from s at start end = cond (ltb at start && ltb end (length s)) (option_map (λ v. (v, end)) (number_from s start end)) None

-- "Header fields are parted by one or more of" the spaces: the field that those at a place lead to
unfoldable pub header_field : List ℕ → ℕ → Option (ℕ × ℕ)
header_field s at = field_from s at (past true s at) (past false s (past true s at))

-- not "a magic other than the depth's"
abbrev pub has_magic : ℕ → List ℕ → Bool
has_magic d s = ltb 1 (length s) && (eqb (get_or s 0 0) 80 && eqb (get_or s 1 0) (kind d))

-- not "a maximum not 255": the place behind a field, if it is that
abbrev pub behind255 : ℕ × ℕ → Option ℕ
behind255 m = then_some (eqb m.0 255) m.1

-- the place behind the maximum, which a file of depth 1 has not
unfoldable pub maximum_at : ℕ → List ℕ → ℕ → Option ℕ
maximum_at d s at = cond (eqb d 1) (Some at) (option_and_then behind255 (header_field s at))

-- what a header says: the sides, and where the pixels start
abbrev pub headed : ℕ → ℕ → ℕ → Header
headed w h n = record { width = w; height = h; start = n }

-- the header of a file for the depth: the magic, and each field from the place behind the one before; "exactly one such byte precedes the pixels": it stands
-- behind the last field
unfoldable pub header_of : ℕ → List ℕ → Option Header
header_of d s =
    cond (has_magic d s)
    (option_and_then (λ w. option_and_then (λ h. option_map (λ last. headed w.0 h.0 (last + 1)) (maximum_at d s h.1)) (header_field s w.1)) (header_field s 2))
    None

-- what it says, for the tests behind it; zeros where it is none
abbrev pub header_said : ℕ → List ℕ → Header
header_said d s = unwrap_or (header_of d s) (headed 0 0 0)
