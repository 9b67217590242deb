-- The numbers of a line as the figures that they describe, from a place in the line on (the places of the crate text).
use Rattle.std.specs.Prelude.{Bool, List, ℕ, ◌+◌, ℤ, pos, eqb, leb, length, get_or, Option, option_map, option_and_then, unwrap_or}
use Rattle.std.specs.Bool.{then_some}
use Rattle.geometry.specs.declared.Point.{Point}
use Rattle.text.specs.Fields.{fields, next_u32, next_i32, read_numbers}
use Rattle.readers.specs.declared.figures.Corners.{Corners}

-- the place behind the last field: every field was what was asked for, and there are no more
abbrev pub is_last : List ℕ → ℕ → Bool
is_last said at = eqb at (length said + 1)

-- what is found at a place, and what is found behind it, both as one; nothing, where one of them is not there
abbrev pub then_read : {A B C : Type 0} → (A → B → C) → Option (A × ℕ) → (ℕ → Option (B × ℕ)) → Option (C × ℕ)
then_read made found next = option_and_then (λ a. option_map (λ b. (made a.0 b.0, b.1)) (next a.1)) found

-- two coordinates
unfoldable pub next_point : List ℕ → ℕ → Option (Point × ℕ)
next_point said at = then_read (λ x y. (x, y)) (next_i32 said at) (next_i32 said)

-- two ends
unfoldable pub next_ends : List ℕ → ℕ → Option ((Point × Point) × ℕ)
next_ends said at = then_read (λ a b. (a, b)) (next_point said at) (next_point said)

-- three corners
unfoldable pub next_corners : List ℕ → ℕ → Option (Corners × ℕ)
next_corners said at = then_read (λ l c. record { a = l.0; b = l.1; c = c }) (next_ends said at) (next_point said)

-- a top-left and a diameter
unfoldable pub next_circle : List ℕ → ℕ → Option ((Point × ℕ) × ℕ)
next_circle said at = then_read (λ p d. (p, d)) (next_point said at) (next_u32 said)

-- ---- the end of a line: nothing, where the line goes on
abbrev pub line_end : List ℕ → ℕ → Option (Unit {0})
line_end said at = then_some (is_last said at) tt

-- what is found last
abbrev pub last_read : {A : Type 0} → List ℕ → Option (A × ℕ) → Option A
last_read said found = option_and_then (λ a. then_some (is_last said a.1) a.0) found

-- two things, the second of them last
abbrev pub last_two : {A B : Type 0} → List ℕ → Option (A × ℕ) → (ℕ → Option (B × ℕ)) → Option (A × B)
last_two said found next = last_read said (then_read (λ a b. (a, b)) found next)

-- a last number that is at most so much
unfoldable pub last_u32 : ℕ → List ℕ → ℕ → Option ℕ
last_u32 most said at = option_and_then (λ v. then_some (leb v most) v) (last_read said (next_u32 said at))

-- ---- what a whole line of two coordinates is, and one of six
abbrev pub coordinate : List ℤ → ℕ → ℤ
coordinate zs k = get_or zs k (pos 0)

abbrev pub point_of : List ℤ → Point
point_of zs = (coordinate zs 0, coordinate zs 1)

abbrev pub corners_of : List ℤ → Corners
corners_of zs = record { a = (coordinate zs 0, coordinate zs 1); b = (coordinate zs 2, coordinate zs 3); c = (coordinate zs 4, coordinate zs 5) }

abbrev pub read_point : List ℕ → Option Point
read_point line = option_map point_of (read_numbers 2 (fields line))

abbrev pub read_corners : List ℕ → Option Corners
read_corners line = option_map corners_of (read_numbers 6 (fields line))

-- they, or zeros where there are none
abbrev pub point_or_zero : Option Point → Point
point_or_zero p = unwrap_or p (pos 0, pos 0)

abbrev pub corners_or_zero : Option Corners → Corners
corners_or_zero t = unwrap_or t (record { a = (pos 0, pos 0); b = (pos 0, pos 0); c = (pos 0, pos 0) })
