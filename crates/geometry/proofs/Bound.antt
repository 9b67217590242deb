-- Laws of the bound on coordinates: the tests decide it, and a coordinate is at most 131,072 from 0. Assumes nothing.
use Prim.Native.Nat.{ℕ, ◌≤◌}
use native.Mathlib.Nat.{le_trans}
use native.Mathlib.Omega.{arith}
use lib.Dec.{T, leb, leb→le, lit<}
use lib.IntN.{ℤ, pos, negsuc, nat_abs}
use lib.Pow.{pow_mono}
use lib.Signed.{le_z}
use mir.Syntax.{w32, w64}
use mir.Val.{SFits, to_z, of_z}
use Rattle.whole.proofs.Decides.{Decides, decides_map, decides_and, decides_le}
use Rattle.whole.proofs.Difference.{le_nat}
use Rattle.whole.proofs.Machine.{Has, sized, one, cast}
use Rattle.whole.proofs.Sizes.{Sz}
use Rattle.geometry.specs.declared.Point.{Point}
use Rattle.geometry.specs.Bound.{Coord, Bounded, is_coord, in_bounds}

pub coord_decides : (x : ℤ) → Decides (is_coord x) (Coord x)
coord_decides x =
    decides_map (decides_and (le_z (negsuc 131071) x) (le_z x (pos 131071)) (decides_le (negsuc 131071) x) (decides_le x (pos 131071)))
    (λ h. record { low = h.0; high = h.1 }) (λ h. (h.low, h.high))

pub bounded_decides : (p : Point) → Decides (in_bounds p) (Bounded p)
bounded_decides p =
    decides_map (decides_and (is_coord p.0) (is_coord p.1) (coord_decides p.0) (coord_decides p.1))
    (λ h. record { x = h.0; y = h.1 }) (λ h. (h.x, h.y))

-- ---- sizes
pub coord_size : {x : ℤ} → Coord x → nat_abs x ≤ 131072
coord_size {x = pos n} h = omega (arith, le_nat h.high)
coord_size {x = negsuc n} h = omega (arith, le_nat h.low)

pub coord_fits : {z : ℤ} → Coord z → SFits w32 z
coord_fits h = sized (coord_size h) (lit< tt)

-- a coordinate as it stands, and cast to `i64`
pub coord : {z : ℤ} → Coord z → Has w32 z z 131072
coord {z} h = one z (coord_size h) tt

pub coord_wide : {z : ℤ} → Coord z → Has w64 (to_z w32 (of_z w32 z)) z 131072
coord_wide h = cast (coord h) tt

-- for `search (sizes, sz_coord)`
pub sz_coord : (k : ℕ) (a : ℤ) → Coord a → T (leb 17 k) → Sz k a
sz_coord k a h t = record { sz = le_trans (coord_size h) (pow_mono (leb→le 17 k t)) }
