-- What the code works out from coordinates, places and a diameter, as numbers of ℤ: nothing wraps. Assumes nothing.
use mathlib.Core.Path.{◌≡◌, ap₂, subst}
use Prim.Native.Nat.{ℕ, ◌*◌, ◌^◌, ◌<◌, ◌≤◌}
use lib.Dec.{lit<}
use lib.IntN.{ℤ, pos, nat_abs, ◌+ℤ◌, ◌-ℤ◌, ◌*ℤ◌}
use lib.Signed.{mag}
use mir.Syntax.{w32, w64}
use mir.Val.{SFits, Fits, to_z, of_z}
use Rattle.whole.proofs.Machine.{Has, fits, back, field_back, lit, wide, wide_nat, same_bits, plus, minus, times}
use Rattle.geometry.specs.Bound.{Coord}
use Rattle.geometry.proofs.Bound.{coord}
use Rattle.circle.proofs.Containment.{square_is}

-- z, cast and kept in a local
abbrev pub local : ℤ → ℤ
local z = to_z w64 (of_z w64 (to_z w32 (of_z w32 z)))

-- `2 * z`
pub twice : {z : ℤ} → SFits w32 z → Has w64 (pos 2 *ℤ local z) (pos 2 *ℤ z) 4294967296
twice f = times (lit 2 tt) (back (wide f)) tt

-- `z + d`
pub end : {z : ℤ} {d : ℕ} → SFits w32 z → Fits w32 d → Has w64 (local z +ℤ to_z w64 d) (z +ℤ pos d) 6442450944
end f g = plus (back (wide f)) (wide_nat g) tt

-- `2 * z + d`, and one less
pub twice_end : {z : ℤ} {d : ℕ} → SFits w32 z → Fits w32 d → Has w64 (to_z w64 (of_z w64 (pos 2 *ℤ local z)) +ℤ to_z w64 d) (pos 2 *ℤ z +ℤ pos d) 8589934592
twice_end f g = plus (back (twice f)) (wide_nat g) tt

pub middle : {z : ℤ} {d : ℕ} → SFits w32 z → Fits w32 d
    → Has w64 (to_z w64 (of_z w64 (to_z w64 (of_z w64 (pos 2 *ℤ local z)) +ℤ to_z w64 d)) -ℤ pos 1) (pos 2 *ℤ z +ℤ pos d -ℤ pos 1) 8589934593
middle f g = minus (back (twice_end f g)) (lit 1 tt) tt

-- the difference of two doubled coordinates that are read, where it is small; and its square
pub difference : (a b : ℤ) → mag a < 2 ^ 63 → mag b < 2 ^ 63 → nat_abs (a -ℤ b) ≤ 262144 → Has w64 (to_z w64 (of_z w64 a) -ℤ to_z w64 (of_z w64 b)) (a -ℤ b) 262144
difference a b f g h = record { is = ap₂ ◌-ℤ◌ (field_back w64 a f) (field_back w64 b g); size = h; room = lit< tt }

pub square : {e z : ℤ} → Has w64 e z 262144 → Has w64 (to_z w64 (of_z w64 e) *ℤ to_z w64 (of_z w64 e)) (pos (nat_abs z * nat_abs z)) 68719476736
square {e} {z} h = subst (λ (v : ℤ). Has w64 (to_z w64 (of_z w64 e) *ℤ to_z w64 (of_z w64 e)) v 68719476736) (square_is z) (times (back h) (back h) tt)

-- a number of columns after the left side of an accepted box, in 32 bits
after : {z : ℤ} (n : ℕ) → Coord z → n ≤ 262144 → Has w32 (to_z w32 (of_z w32 z) +ℤ to_z w32 n) (z +ℤ pos n) 393216
after n f h = plus (back (coord f)) (same_bits h tt) tt

pub after_fits : (z : ℤ) (n : ℕ) → Coord z → n ≤ 262144 → SFits w32 (to_z w32 (of_z w32 z) +ℤ to_z w32 n)
after_fits z n f h = fits (after n f h)

pub after_is : {z : ℤ} → Coord z → (n : ℕ) → n ≤ 262144 → to_z w32 (of_z w32 (to_z w32 (of_z w32 z) +ℤ to_z w32 n)) ≡ z +ℤ pos n
after_is f n h = (back (after n f h)).is
