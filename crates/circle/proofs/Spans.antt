-- Laws of a row's span: it holds exactly the contained columns, it is not empty on a row of the box, and its first column comes from a root.
-- For every top-left, diameter and row. Assumes nothing.
use mathlib.Core.Path.{◌≡◌, refl, sym, ap, ap₂, ◌∙◌}
use mathlib.Core.Bool.{Bool, true, false, cond, ◌&&◌, and-false}
use Prim.Native.Nat.{ℕ, zero, suc, ◌+◌, ◌*◌, ◌-◌, ◌/◌, ◌<◌, ◌≤◌}
use native.Mathlib.Decide.{dec_le}
use native.Mathlib.Omega.{arith}
use lib.Dec.{leb, ltb}
use lib.IntN.{ℤ, pos, ◌+ℤ◌, ◌-ℤ◌}
use lib.Signed.{◌≤ℤ◌, ◌<ℤ◌}
use borrow.Author.Tests.{ltb-true}
use Rattle.whole.specs.Interval.{between}
use Rattle.whole.proofs.Decides.{decides_map, decides_between, decides_leb, decides_ltb, decides_one, decides_yes, decides_no}
use Rattle.whole.proofs.Difference.{le_nat, lt_nat, nat_le, nat_lt, nat_eq, sum_nat}
use Rattle.geometry.specs.declared.Point.{Point}
use Rattle.geometry.specs.Answer.{verdict, span}
use Rattle.circle.specs.Circle.{threshold_of, contained, box_column, box_row, in_box, first_passing, lead_of, span_start, span_end}
use Rattle.circle.specs.Root.{Root}
use Rattle.circle.proofs.Roots.{Rooted, rooted, square_mono, square_below}
use Rattle.circle.proofs.Containment.{away, contained_is, threshold_high, threshold_low, inner_decides, inner_is, less_nat, side_is, outside}

-- ---- a search ends at the first number that passes
passing_is : (test : ℕ → Bool) (k n r : ℕ) → ((j : ℕ) → j < r → test j ≡ false) → test r ≡ true → k ≤ r → r < k + n → first_passing test k n ≡ r
passing_is test k zero r before at h g = absurd (omega arith)
passing_is test k (suc n) r before at h g = by (dec_le (suc k) r) (λ q. passing_is test (suc k) n r before at q (omega arith))
  where
    by : Dec (suc k ≤ r) → (suc k ≤ r → first_passing test (suc k) n ≡ r) → cond (test k) k (first_passing test (suc k) n) ≡ r
    by (yes q) on = rw (before k q) (on q)
    by (no q) on =
        let e : k ≡ r = omega arith in
        rw (ap test e ∙ at) e

-- ---- a row b from the centre leaves room below the threshold, and from d = 2 on for one column more
pub room : (d b : ℕ) → b < d → b * b < threshold_of d
room zero b h = absurd (omega arith)
room (suc e) b h = omega (arith, square_mono b e (omega arith), threshold_low (suc e))

more_room : (d b : ℕ) → b < d → 1 < d → b * b + 1 < threshold_of d
more_room zero b h g = absurd (omega arith)
more_room (suc e) b h g = omega (arith, square_mono b e (omega arith), threshold_low (suc e))

-- with s the root of what it leaves
module _ (d b s : ℕ) (inside : b < d) (root : Root (threshold_of d - 1 - b * b) s) where
  near_root : (a : ℕ) → a * a + b * b < threshold_of d → a ≤ s
  near_root a h = omega (arith, square_below a (s + 1) (omega (arith, root.high)))

  root_near : (a : ℕ) → a ≤ s → a * a + b * b < threshold_of d
  root_near a h = omega (arith, square_mono a s h, root.low, room d b inside)

  -- a column is contained exactly if it is at most s from the centre
  pub by_root : (a : ℕ) → ltb (a * a + b * b) (threshold_of d) ≡ leb a s
  by_root a = decides_one _ _ (decides_ltb (a * a + b * b) (threshold_of d)) (decides_map (decides_leb a s) (root_near a) (near_root a))

  pub root_below : s < d
  root_below = square_below s d (omega (arith, root.low, room d b inside, threshold_high d))

  -- what is left out at both ends leaves a column
  pub some_left : 2 * ((d - s) / 2) < d
  some_left = by (dec_le 2 d)
    where
      by : Dec (2 ≤ d) → 2 * ((d - s) / 2) < d
      by (yes h) = omega (arith, near_root 1 (omega (arith, more_room d b inside h)))
      by (no h) = omega arith

-- ---- a row of the box
pub row_away : (c : Point) (d : ℕ) (y : ℤ) → box_row c d y ≡ true → away y c.1 d < d
row_away c d y row = ltb-true _ d (sym (side_is y c.1 d) ∙ row)

module _ (c : Point) (d : ℕ) (y : ℤ) (row : box_row c d y ≡ true) (s : ℕ) (root : Root (threshold_of d - 1 - away y c.1 d * away y c.1 d) s) where
  -- the columns that are left out at both ends
  abbrev out : ℕ
  out = (d - s) / 2

  row_columns : (x : ℤ) → contained c d (x, y) ≡ between (c.0 +ℤ pos out) (c.0 +ℤ pos d -ℤ pos out) x
  row_columns x =
      let near = row_away c d y row in
      contained_is c d (x, y) ∙ by_root d (away y c.1 d) s near root (away x c.0 d) ∙ inner_is x c.0 d s (root_below d (away y c.1 d) s near root)

  out_some : 2 * out < d
  out_some = some_left d (away y c.1 d) s (row_away c d y row) root

  -- the search for the first contained column ends at what the root leaves out
  pub lead_is : lead_of c d y ≡ out
  lead_is =
      passing_is (λ j. contained c d (c.0 +ℤ pos j, y)) 0 d out
      (λ j h. row_columns (c.0 +ℤ pos j) ∙ decides_no (inner_decides c.0 (c.0 +ℤ pos j) d out) (λ q. omega (arith, q.0, sum_nat (c.0 +ℤ pos j) c.0 j refl)))
      (row_columns (c.0 +ℤ pos out) ∙ decides_yes (inner_decides c.0 (c.0 +ℤ pos out) d out) (
        omega (arith, sum_nat (c.0 +ℤ pos out) c.0 out refl),
        omega (arith, out_some, sum_nat (c.0 +ℤ pos out) c.0 out refl),
      ))
      (omega arith)
      (omega (arith, out_some))

-- the same without a root at hand
module _ (c : Point) (d : ℕ) (y : ℤ) (row : box_row c d y ≡ true) where
  found : Rooted (threshold_of d - 1 - away y c.1 d * away y c.1 d)
  found = rooted (threshold_of d - 1 - away y c.1 d * away y c.1 d)

  pub lead_some : 2 * lead_of c d y < d
  lead_some = rw (lead_is c d y row found.r found.is) (out_some c d y row found.r found.is)

  lead_columns : (x : ℤ) → contained c d (x, y) ≡ between (c.0 +ℤ pos (lead_of c d y)) (c.0 +ℤ pos d -ℤ pos (lead_of c d y)) x
  lead_columns x = rw (lead_is c d y row found.r found.is) (row_columns c d y row found.r found.is x)

  -- 01's two numbers
  pub start_is : span_start c d y ≡ c.0 +ℤ pos (lead_of c d y)
  start_is = ap (λ (b : Bool). cond b (c.0 +ℤ pos (lead_of c d y)) (pos 0)) row

  pub end_is : span_end c d y ≡ c.0 +ℤ pos d -ℤ pos (lead_of c d y)
  end_is = ap (λ (b : Bool). cond b (c.0 +ℤ pos d -ℤ pos (lead_of c d y)) (pos 0)) row

  -- shortening the side before it is laid down comes to the same
  pub kept_is : span_end c d y ≡ c.0 +ℤ pos (d - lead_of c d y)
  kept_is =
      let n = lead_of c d y in
      let a = sum_nat (c.0 +ℤ pos d) c.0 d refl in
      let b = sum_nat (c.0 +ℤ pos (d - n)) c.0 (d - n) refl in
      let e = less_nat (c.0 +ℤ pos d) n in
      end_is ∙ nat_eq (omega (arith, lead_some))

  -- the span is not empty, and lies in the box
  pub span_box : (c.0 ≤ℤ span_start c d y) × (span_start c d y <ℤ span_end c d y) × (span_end c d y ≤ℤ (c.0 +ℤ pos d))
  span_box =
      let n = lead_of c d y in
      let a = sum_nat (c.0 +ℤ pos n) c.0 n refl in
      let b = sum_nat (c.0 +ℤ pos d) c.0 d refl in
      let e = less_nat (c.0 +ℤ pos d) n in
      rw (start_is, end_is) (nat_le (omega arith), nat_lt (omega (arith, lead_some)), nat_le (omega arith))

-- a row outside the box has 0 to 0
module _ (c : Point) (d : ℕ) (y : ℤ) (row : box_row c d y ≡ false) where
  pub no_start : span_start c d y ≡ pos 0
  no_start = ap (λ (b : Bool). cond b (c.0 +ℤ pos (lead_of c d y)) (pos 0)) row

  pub no_end : span_end c d y ≡ pos 0
  no_end = ap (λ (b : Bool). cond b (c.0 +ℤ pos d -ℤ pos (lead_of c d y)) (pos 0)) row

-- ---- a row's span and containment agree
empty : (x : ℤ) → between (pos 0) (pos 0) x ≡ false
empty x = decides_no (decides_between (pos 0) (pos 0) x) (λ h. omega (arith, le_nat h.0, lt_nat h.1))

pub span_agrees : (c : Point) (d : ℕ) (x y : ℤ) → contained c d (x, y) ≡ between (span_start c d y) (span_end c d y) x
span_agrees c d x y = by (box_row c d y) refl
  where
    by : (b : Bool) → box_row c d y ≡ b → contained c d (x, y) ≡ between (span_start c d y) (span_end c d y) x
    by true row = rw (start_is c d y row, end_is c d y row) (lead_columns c d y row x)
    by false row =
        outside c d (x, y) (ap (λ (b : Bool). box_column c d x && b) row ∙ and-false (box_column c d x))
        ∙ sym (ap₂ (λ (a b : ℤ). between a b x) (no_start c d y row) (no_end c d y row) ∙ empty x)

-- so do the two answers, those to a refused circle too
pub answers_agree : (n : ℕ) (c : Point) (d : ℕ) (x y : ℤ)
    → (verdict n (contained c d (x, y))).yes ≡ between (span n (span_start c d y) (span_end c d y)).start (span n (span_start c d y) (span_end c d y)).end x
answers_agree zero c d x y = span_agrees c d x y
answers_agree (suc n) c d x y = sym (empty x)

-- each row of the box has a contained pixel
pub row_some : (c : Point) (d : ℕ) (y : ℤ) → box_row c d y ≡ true → contained c d (span_start c d y, y) ≡ true
row_some c d y row =
    span_agrees c d (span_start c d y) y
    ∙ decides_yes (decides_between (span_start c d y) (span_end c d y) (span_start c d y)) (nat_le (omega arith), (span_box c d y row).1)

-- a row is in the box exactly if its pixel in the box's first column is
pub first_column : (c : Point) (d : ℕ) (y : ℤ) → in_box c d (c.0, y) ≡ box_row c d y
first_column c d y = by (box_row c d y) refl
  where
    by : (b : Bool) → box_row c d y ≡ b → in_box c d (c.0, y) ≡ box_row c d y
    by true row =
        ap (λ (b : Bool). b && box_row c d y)
        (decides_yes (decides_between c.0 (c.0 +ℤ pos d) c.0)
        (nat_le (omega arith), nat_lt (omega (arith, row_away c d y row, sum_nat (c.0 +ℤ pos d) c.0 d refl))))
    by false row = ap (λ (b : Bool). box_column c d c.0 && b) row ∙ and-false (box_column c d c.0) ∙ sym row
