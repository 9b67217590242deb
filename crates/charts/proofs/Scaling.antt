-- Laws of the scale: the axes are at least 1 long, and no place is far from the frame. Assumes nothing.
use mathlib.Core.Path.{◌≡◌, refl, sym, subst}
use mathlib.Core.Bool.{Bool, true, false, cond}
use mathlib.Core.List.{List, [], ◌∷◌}
use Prim.Native.Nat.{ℕ, ◌≤◌, ◌<◌}
use native.Mathlib.Omega.{arith}
use lib.Dec.{le→leb}
use lib.IntN.{ℤ, pos, negsuc, neg_ℤ, nat_abs, ◌+ℤ◌, ◌-ℤ◌}
use lib.Signed.{lt_z, ◌≤ℤ◌, ◌<ℤ◌}
use borrow.Author.Tests.{ltb-true}
use Rattle.text.specs.Lines.{each}
use Rattle.readers.specs.declared.figures.Corners.{Corners}
use Rattle.std.specs.Prelude.{Option, Some, None}
use Rattle.std.specs.Option.{option_map_or}
use Rattle.readers.specs.Figures.{read_point}
use Rattle.whole.proofs.Machine.{neg_size, add_size}
use Rattle.geometry.specs.declared.Point.{Point}
use Rattle.charts.specs.declared.Extent.{Extent}
use Rattle.charts.specs.Picture.{spot}
use Rattle.charts.specs.Scale.{larger, with_place, of_wedge, with_sample, away, scaled}

-- ---- the axes
abbrev pub Long : Extent → Type 0
Long e = (0 < e.second) × (0 < e.load)

larger_long : (n : ℕ) (x : ℤ) → 0 < n → 0 < larger n x
larger_long n x h = by x (lt_z (pos n) x) refl
  where
    by : (x : ℤ) (t : Bool) → lt_z (pos n) x ≡ t → 0 < cond t (nat_abs x) n
    by (pos m) true e = omega (arith, ltb-true n m e)
    by (negsuc m) true e = omega arith
    by x false e = h

-- a number above one that is not negative
pub above : (n : ℕ) (x : ℤ) → pos n <ℤ x → pos 0 ≤ℤ x
above n (pos m) h = record { le = le→leb 0 m (omega arith) }
above n (negsuc m) h = absurd h.lt

place_long : {e : Extent} (p : Point) → Long e → Long (with_place e p)
place_long {e} p h = (larger_long e.second p.0 h.0, larger_long e.load p.1 h.1)

pub wedge_long : (t : Corners) → Long (of_wedge t)
unfolding of_wedge
wedge_long t = place_long t.c (place_long t.b (place_long t.a (omega arith, omega arith)))

pub samples_long : {e : Extent} (ls : List (List ℕ)) → Long e → Long (each with_sample e ls)
unfolding with_sample
samples_long [] h = h
samples_long {e = e} (l ∷ ls) h = samples_long {e = option_map_or (with_place e) (read_point l) e} ls (by (read_point l))
  where
    by : (p : Option Point) → Long (option_map_or (with_place e) p e)
    by None = h
    by (Some p) = place_long p h

-- ---- how far a place is
pub away_size : (most size n : ℕ) → away most size n ≤ 130000
unfolding away
away_size most size n = omega arith

pub scaled_size : (most size : ℕ) (x : ℤ) → nat_abs (scaled most size x) ≤ 130000
unfolding scaled
scaled_size most size x = by (lt_z x (pos 0))
  where
    by : (t : Bool) → nat_abs (cond t (neg_ℤ (pos (away most size (nat_abs x)))) (pos (away most size (nat_abs x)))) ≤ 130000
    by true = omega (arith, neg_size (pos (away most size (nat_abs x))), away_size most size (nat_abs x))
    by false = away_size most size (nat_abs x)

-- by its sign
module _ (most size : ℕ) (x : ℤ) where
  pub scaled_below : lt_z x (pos 0) ≡ true → neg_ℤ (pos (away most size (nat_abs x))) ≡ scaled most size x
  unfolding scaled
  scaled_below e = rw e

  pub scaled_above : lt_z x (pos 0) ≡ false → pos (away most size (nat_abs x)) ≡ scaled most size x
  unfolding scaled
  scaled_above e = rw e

-- what is equal to such a number
pub near : {r z : ℤ} → r ≡ z → nat_abs z ≤ 130000 → nat_abs r ≤ 130000
near e h = subst (λ (x : ℤ). nat_abs x ≤ 130000) (sym e) h

pub spot_near : {s : Point} (e : Extent) (p : Point) → s ≡ spot e p → (nat_abs s.0 ≤ 130400) × (nat_abs s.1 ≤ 130400)
spot_near e p h = subst (λ (s : Point). (nat_abs s.0 ≤ 130400) × (nat_abs s.1 ≤ 130400)) (sym h) (right, below)
  where
    right : nat_abs (pos 24 +ℤ scaled e.second 600 p.0) ≤ 130400
    right = omega (arith, add_size (pos 24) (scaled e.second 600 p.0), scaled_size e.second 600 p.0)

    below : nat_abs (pos 335 -ℤ scaled e.load 320 p.1) ≤ 130400
    below = omega (arith, add_size (pos 335) (neg_ℤ (scaled e.load 320 p.1)), neg_size (scaled e.load 320 p.1), scaled_size e.load 320 p.1)
