-- "Circles" of 01, in its words and its order. The circle has the top-left c, which is 01's (l, t), and the diameter d; nothing here is bounded.
use Rattle.std.specs.Prelude.{Bool, cond, ◌&&◌, ℕ, zero, suc, ◌*◌, ◌-◌, ◌/◌, leb, ℤ, pos, ◌+ℤ◌, ◌-ℤ◌, ◌*ℤ◌}
use Rattle.std.specs.Int.Signed.{lt_z}
use Rattle.whole.specs.Interval.{between}
use Rattle.geometry.specs.declared.Point.{Point}
use Rattle.geometry.specs.declared.Doubled.{Doubled}

-- "the doubled centre is (2l + d - 1, 2t + d - 1)"
abbrev pub centre : Point → ℕ → Doubled
centre c d = (pos 2 *ℤ c.0 +ℤ pos d -ℤ pos 1, pos 2 *ℤ c.1 +ℤ pos d -ℤ pos 1)

-- "The threshold is d·d - floor(d/2) for d up to 4, else d·d"
abbrev pub threshold_of : ℕ → ℕ
threshold_of d = cond (leb d 4) (d * d - d / 2) (d * d)

-- a pixel's "doubled place"
abbrev pub doubled : Point → Doubled
doubled p = (pos 2 *ℤ p.0, pos 2 *ℤ p.1)

-- "the squared distance" of two doubled places
abbrev pub squared_distance : Doubled → Doubled → ℤ
squared_distance a b = (a.0 -ℤ b.0) *ℤ (a.0 -ℤ b.0) +ℤ (a.1 -ℤ b.1) *ℤ (a.1 -ℤ b.1)

-- "A pixel is contained if the squared distance of its doubled place from the doubled centre is below the threshold"
abbrev pub contained : Point → ℕ → Point → Bool
contained c d p = lt_z (squared_distance (doubled p) (centre c d)) (pos (threshold_of d))

-- "the box": d columns from l, and d rows from t
abbrev pub box_column : Point → ℕ → ℤ → Bool
box_column c d x = between c.0 (c.0 +ℤ pos d) x

abbrev pub box_row : Point → ℕ → ℤ → Bool
box_row c d y = between c.1 (c.1 +ℤ pos d) y

abbrev pub in_box : Point → ℕ → Point → Bool
in_box c d p = box_column c d p.0 && box_row c d p.1

-- the first number that passes the test, of the n from k on; k + n if none does
abbrev pub first_passing : (ℕ → Bool) → ℕ → ℕ → ℕ
first_passing test k zero = k
first_passing test k (suc n) = cond (test k) k (first_passing test (suc k) n)

-- how many columns of the box come before "the first contained column", on row y
abbrev pub lead_of : Point → ℕ → ℤ → ℕ
lead_of c d y = first_passing (λ j. contained c d (c.0 +ℤ pos j, y)) 0 d

-- "A row's span starts at the first contained column of the box and is shortened equally on the right; a row outside the box has 0 to 0"
abbrev pub span_start : Point → ℕ → ℤ → ℤ
span_start c d y = cond (box_row c d y) (c.0 +ℤ pos (lead_of c d y)) (pos 0)

abbrev pub span_end : Point → ℕ → ℤ → ℤ
span_end c d y = cond (box_row c d y) (c.0 +ℤ pos d -ℤ pos (lead_of c d y)) (pos 0)
