-- Laws of a line's lengths: which is the major one, and how large they are. Assumes nothing.
use mathlib.Core.Path.{◌≡◌, ap}
use mathlib.Core.Bool.{Bool, true, false, cond}
use Prim.Native.Nat.{ℕ, ◌+◌, ◌≤◌}
use native.Mathlib.Omega.{arith}
use borrow.Author.Tests.{leb-true, leb-false}
use lib.IntN.{ℤ, pos, negsuc, neg_ℤ, nat_abs, ◌-ℤ◌}
use lib.Signed.{le_z}
use mir.Syntax.{w32}
use mir.Val.{to_z, of_z}
use Rattle.whole.proofs.Difference.{as_mk, mks, le_nat}
use Rattle.whole.proofs.Machine.{add_size, neg_size, mk_size, at₂}
use Rattle.geometry.specs.declared.Point.{Point}
use Rattle.geometry.specs.Bound.{Coord, Bounded}
use Rattle.geometry.proofs.Bound.{coord_size, coord_fits}
use Rattle.line.specs.Line.{toward, wide, high, steep, major, minor, moves, x_moves, y_moves, points}

module _ (s e : Point) where
  pub narrow : minor s e ≤ major s e
  unfolding major minor
  narrow = omega arith

  pub lengths_sum : wide s e + high s e ≡ major s e + minor s e
  unfolding major minor
  lengths_sum = omega arith

  -- ---- by the axis
  pub major_by : (b : Bool) → steep s e ≡ b → major s e ≡ cond b (high s e) (wide s e)
  unfolding major
  major_by true t = omega (arith, leb-true (wide s e) (high s e) t)
  major_by false t = omega (arith, leb-false (wide s e) (high s e) t)

  pub minor_by : (b : Bool) → steep s e ≡ b → minor s e ≡ cond b (wide s e) (high s e)
  unfolding minor
  minor_by true t = omega (arith, leb-true (wide s e) (high s e) t)
  minor_by false t = omega (arith, leb-false (wide s e) (high s e) t)

  pub x_by : (b : Bool) → steep s e ≡ b → (k : ℕ) → x_moves s e k ≡ cond b (moves (high s e) (wide s e) k) k
  unfolding x_moves
  x_by true h k = λ i. cond (h i) (moves (major_by true h i) (minor_by true h i) k) k
  x_by false h k = ap (λ (t : Bool). cond t (moves (major s e) (minor s e) k) k) h

  pub y_by : (b : Bool) → steep s e ≡ b → (k : ℕ) → y_moves s e k ≡ cond b k (moves (wide s e) (high s e) k)
  unfolding y_moves
  y_by true h k = ap (λ (t : Bool). cond t k (moves (major s e) (minor s e) k)) h
  y_by false h k = λ i. cond (h i) k (moves (major_by false h i) (minor_by false h i) k)

-- ---- sizes
apart_size : {a b : ℤ} → Coord a → Coord b → nat_abs (b -ℤ a) ≤ 262144
apart_size {a} {b} h k = omega (arith, add_size b (neg_ℤ a), neg_size a, coord_size h, coord_size k)

pub wide_size : {s e : Point} → Bounded s → Bounded e → wide s e ≤ 262144
unfolding wide
wide_size hs he = apart_size hs.x he.x

pub high_size : {s e : Point} → Bounded s → Bounded e → high s e ≤ 262144
unfolding high
high_size hs he = apart_size hs.y he.y

-- a difference that was worked out from coordinates as they are read
pub wide_of : {s e : Point} {r : ℕ} → Bounded s → Bounded e → r ≡ nat_abs (to_z w32 (of_z w32 e.0) -ℤ to_z w32 (of_z w32 s.0)) → r ≡ wide s e
unfolding wide
wide_of {r = r} hs he h = at₂ (coord_fits hs.x) (coord_fits he.x) (λ (a b : ℤ). r ≡ nat_abs (b -ℤ a)) h

pub high_of : {s e : Point} {r : ℕ} → Bounded s → Bounded e → r ≡ nat_abs (to_z w32 (of_z w32 e.1) -ℤ to_z w32 (of_z w32 s.1)) → r ≡ high s e
unfolding high
high_of {r = r} hs he h = at₂ (coord_fits hs.y) (coord_fits he.y) (λ (a b : ℤ). r ≡ nat_abs (b -ℤ a)) h

pub major_size : {s e : Point} → Bounded s → Bounded e → major s e ≤ 262144
unfolding major
major_size hs he = omega (arith, wide_size hs he, high_size hs he)

pub minor_size : {s e : Point} → Bounded s → Bounded e → minor s e ≤ 262144
minor_size {s} {e} hs he = omega (arith, narrow s e, major_size hs he)

pub toward_size : (a b : ℤ) → nat_abs (toward a b) ≤ 1
toward_size a b = by (le_z a b)
  where
    by : (t : Bool) → nat_abs (cond t (pos 1) (negsuc 0)) ≤ 1
    by true = omega arith
    by false = omega arith

-- no line has more points than there are coordinates
pub nearly : {a b : ℤ} → Coord a → Coord b → nat_abs (b -ℤ a) ≤ 262143
nearly {a} {b} h k = rw (as_mk a, as_mk b) (simp mks (mk_size _ _ 262143 (omega (arith, le_nat h.low, le_nat k.high)) (omega (arith, le_nat h.high, le_nat k.low))))

pub points_most : {s e : Point} → Bounded s → Bounded e → points s e ≤ 262144
unfolding major wide high
points_most hs he = omega (arith, nearly hs.x he.x, nearly hs.y he.y)
