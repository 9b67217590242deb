-- Membership: the yes or no decides what it says, and a point's index is the sum of its moves along both axes, so that one index has to be asked. Assumes nothing.
use mathlib.Core.Path.{◌≡◌, sym, ap, ap₂, ◌∙◌}
use mathlib.Core.Bool.{Bool, true, false, cond}
use Prim.Native.Nat.{ℕ, ◌+◌, ◌*◌, ◌≤◌, ◌<◌}
use native.Mathlib.Omega.{arith}
use lib.IntN.{ℤ, pos, negsuc, nat_abs, ◌-ℤ◌, ◌*ℤ◌}
use lib.Signed.{le_z}
use Rattle.whole.proofs.Decides.{Decides, decides_map, decides_one, decides_no}
use Rattle.whole.proofs.Machine.{mul_size}
use Rattle.geometry.specs.declared.Point.{Point}
use Rattle.geometry.specs.Place.{same_place}
use Rattle.geometry.proofs.Place.{same_decides}
use Rattle.line.specs.Line.{toward}
use Rattle.line.proofs.Points.{some_decides}
use Rattle.line.proofs.Closed.{moves_off}
use Rattle.connected.specs.Connected.{last_index, connected_points, connected_at, HasConnected, has_connected}
use Rattle.connected.proofs.Points.{x_at, y_at, at_place, at_sum}

pub connected_decides : (s e p : Point) → Decides (has_connected s e p) (HasConnected s e p)
unfolding has_connected
connected_decides s e p =
    decides_map (some_decides (connected_at s e) p (connected_points s e)) (λ h. record { index = h.k; walked = omega (arith, h.below); here = h.here })
    (λ h. record { k = h.index; below = omega (arith, h.walked); here = h.here })

-- ---- a point's moves can be read off it
-- how far p is from s, along both axes
abbrev pub far : Point → Point → ℕ
far s p = nat_abs (p.0 -ℤ s.0) + nat_abs (p.1 -ℤ s.1)

module _ (s e : Point) where
  x_off : (i : ℕ) → toward s.0 e.0 *ℤ ((connected_at s e i).0 -ℤ s.0) ≡ pos (x_at s e i)
  x_off i = moves_off s.0 e.0 (connected_at s e i).0 (x_at s e i) (ap (λ (p : Point). p.0) (at_place s e i))

  y_off : (i : ℕ) → toward s.1 e.1 *ℤ ((connected_at s e i).1 -ℤ s.1) ≡ pos (y_at s e i)
  y_off i = moves_off s.1 e.1 (connected_at s e i).1 (y_at s e i) (ap (λ (p : Point). p.1) (at_place s e i))

  unit : (a b z : ℤ) → nat_abs (toward a b *ℤ z) ≡ nat_abs z
  unit a b z = mul_size (toward a b) z ∙ by (le_z a b)
    where
      by : (t : Bool) → nat_abs (cond t (pos 1) (negsuc 0)) * nat_abs z ≡ nat_abs z
      by true = omega arith
      by false = omega arith

  pub far_at : (i : ℕ) → i ≤ last_index s e → far s (connected_at s e i) ≡ i
  far_at i l =
      ap₂ ◌+◌ (sym (unit s.0 e.0 ((connected_at s e i).0 -ℤ s.0)) ∙ ap nat_abs (x_off i)) (sym (unit s.1 e.1 ((connected_at s e i).1 -ℤ s.1)) ∙ ap nat_abs (y_off i))
      ∙ at_sum s e i l

  -- so no two points are the same
  pub distinct : (i j : ℕ) → i ≤ last_index s e → j ≤ last_index s e → connected_at s e i ≡ connected_at s e j → i ≡ j
  distinct i j li lj h = sym (far_at i li) ∙ ap (far s) h ∙ far_at j lj

  -- ---- and one index has to be asked
  module _ (p : Point) where
    its_index : (h : HasConnected s e p) → h.index ≡ far s p
    its_index h = sym (far_at h.index h.walked) ∙ ap (far s) (sym h.here)

    -- past the last there is no point
    pub too_far : last_index s e < far s p → has_connected s e p ≡ false
    too_far l = decides_no (connected_decides s e p) (λ h. omega (arith, its_index h, h.walked))

    -- up to it, the point of that index or none
    pub only_there : far s p ≤ last_index s e → same_place p (connected_at s e (far s p)) ≡ has_connected s e p
    only_there l =
        decides_one (same_place p (connected_at s e (far s p))) (has_connected s e p)
        (decides_map (same_decides p (connected_at s e (far s p))) (λ h. record { index = far s p; walked = l; here = h }) (λ h. h.here ∙ ap (connected_at s e) (its_index h)))
        (connected_decides s e p)
