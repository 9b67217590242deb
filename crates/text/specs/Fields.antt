-- Lines and their fields: 01, the last part of "Known small answers": fields are parted by tabs, a line ends at LF or at the end of input.
use Rattle.std.specs.Prelude.{cond, ◌&&◌, List, [], ◌∷◌, ◌++◌, ℕ, suc, ◌+◌, ℤ, leb, eqb, length, take, drop, Option, Some, None, option_map, option_and_then}
use Rattle.std.specs.Option.{is_some}
use Rattle.text.specs.Read.{read_u32, read_i32}

-- how many bytes stand before the first `stop`: all, where there is none
abbrev pub until : ℕ → List ℕ → ℕ
until stop [] = 0
until stop (b ∷ s) = cond (eqb b stop) 0 (suc (until stop s))

-- the parts, with a byte more in front of the first
abbrev pub on_first : ℕ → List (List ℕ) → List (List ℕ)
on_first b [] = (b ∷ []) ∷ []
on_first b (f ∷ fs) = (b ∷ f) ∷ fs

-- what the tabs part: one field more than there are tabs
abbrev pub fields : List ℕ → List (List ℕ)
fields [] = [] ∷ []
fields (b ∷ s) = cond (eqb b 9) ([] ∷ fields s) (on_first b (fields s))

-- what LF ends: a last line may lack it, and a last LF starts none
abbrev pub lines : List ℕ → List (List ℕ)
lines [] = []
lines (b ∷ s) = cond (eqb b 10) ([] ∷ lines s) (on_first b (lines s))

-- ---- a place in a line: that of a field's first byte; behind its last field, the line's length and 1
abbrev pub field_at : List ℕ → ℕ → List ℕ
field_at line at = take (until 9 (drop at line)) (drop at line)

abbrev pub field_end : List ℕ → ℕ → ℕ
field_end line at = at + until 9 (drop at line)

-- what the field at a place is read as, and the place of the next field; nothing, where it is none of these
abbrev pub next_by : {A : Type 0} → (List ℕ → Option A) → List ℕ → ℕ → Option (A × ℕ)
next_by read line at = option_map (λ v. (v, field_end line at + 1)) (read (field_at line at))

unfoldable pub next_u32 : List ℕ → ℕ → Option (ℕ × ℕ)
next_u32 line at = next_by read_u32 line at

unfoldable pub next_i32 : List ℕ → ℕ → Option (ℤ × ℕ)
next_i32 line at = next_by read_i32 line at

-- ---- lines of signed numbers
-- each field's number, if each is one
abbrev pub numbers : List (List ℕ) → Option (List ℤ)
numbers [] = Some []
numbers (f ∷ fs) = option_and_then (λ z. option_map (λ zs. z ∷ zs) (numbers fs)) (read_i32 f)

-- the numbers that a line is, if they are k
unfoldable pub read_numbers : ℕ → List (List ℕ) → Option (List ℤ)
read_numbers k fs = cond (eqb (length fs) k) (numbers fs) None

-- which of the fields is no number, counted from 1: the first such; one past the last, where there is none
abbrev pub first_bad : List (List ℕ) → ℕ
first_bad [] = 1
first_bad (f ∷ fs) = cond (is_some (read_i32 f)) (suc (first_bad fs)) 1

-- what is wrong with a line that is not k numbers: which field, or 0 where there are not k fields or more than 128 bytes
unfoldable pub bad_field : ℕ → List ℕ → ℕ
bad_field k line = cond (leb (length line) 128 && eqb (length (fields line)) k) (first_bad (fields line)) 0

-- ---- the way back: fields, put together with tabs
abbrev pub joined_behind : List ℕ → List (List ℕ) → List ℕ
joined_behind f [] = f
joined_behind f (g ∷ fs) = f ++ (9 ∷ joined_behind g fs)

abbrev pub joined : List (List ℕ) → List ℕ
joined [] = []
joined (f ∷ fs) = joined_behind f fs
