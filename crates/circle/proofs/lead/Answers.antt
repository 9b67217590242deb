-- `circle::lead` takes the root of what the row leaves below the threshold; the search for the first contained column ends where the root says.
-- Assumes nothing.
use mathlib.Core.Path.{◌≡◌, sym, ap, ap₂, subst, ◌∙◌}
use mathlib.Core.Bool.{true}
use Prim.Native.Nat.{ℕ, ◌*◌, ◌-◌, ◌<◌, ◌≤◌}
use native.Mathlib.Omega.{arith}
use lib.IntN.{ℤ, pos, ◌-ℤ◌, ◌*ℤ◌}
use mir.Syntax.{w64}
use mir.Val.{to_z, of_z}
use mir.Facts.{to_z-of_z}
use Rattle.whole.proofs.Machine.{Has, fits, to_nat, nat_is}
use Rattle.geometry.specs.declared.Doubled.{Doubled}
use Rattle.circle.specs.Circle.{threshold_of, box_row}
use Rattle.circle.specs.Root.{Root}
use Rattle.circle.proofs.Containment.{off, away}
use Rattle.circle.proofs.Refusals.{widest}
use Rattle.circle.proofs.Spans.{first_column, row_away, room, root_below, lead_is}
use Rattle.circle.proofs.Worked.{difference, square}
use Rattle.circle.proofs.lead.Goals as goal
use Rattle.circle.proofs.lead.Goals.{After-isqrt-dx, After-struct_told-3-1, Start}

module _ (s : Start) where
  row : box_row s.args.topleft s.args.diameter s.args.y ≡ true
  row = sym (first_column s.args.topleft s.args.diameter s.args.y) ∙ s.requires.1

  abbrev far : ℕ
  far = away s.args.y s.args.topleft.1 s.args.diameter

  near : far < s.args.diameter
  near = row_away s.args.topleft s.args.diameter s.args.y row

  wide : s.args.diameter ≤ 262144
  wide = widest s.requires.0

  rest : far * far < threshold_of s.args.diameter
  rest = room s.args.diameter far near

module _ (c : After-struct_told-3-1) where
  abbrev place : ℤ
  place = c.place_2x-place.result.1

  abbrev center : ℤ
  center = c.center_2x-center.result.1

  apart : place -ℤ center
      ≡ off c.args.y c.args.topleft.1
      c.args.diameter
  apart =
      ap₂ ◌-ℤ◌
      (ap (λ (q : Doubled). q.1) c.place_2x-place.ensures
      ∙ ap (λ (z : ℤ). pos 2 *ℤ z) (to_z-of_z c.ranges.y))
      (ap (λ (q : Doubled). q.1) c.center_2x-center.ensures)

  dy : Has w64 (to_z w64 (of_z w64 place) -ℤ to_z w64 (of_z w64 center))
      (off c.args.y c.args.topleft.1
      c.args.diameter) 262144
  dy =
      subst (λ (z : ℤ). Has w64 (to_z w64 (of_z w64 place) -ℤ to_z w64 (of_z w64 center)) z 262144) apart
      (difference place center c.struct_told-2-1.given.1.0.1 c.struct_told-3-1.given.1.0.1
      (rw apart (omega (arith, near (goal.at.After-struct_told-3-1 c).Start, wide (goal.at.After-struct_told-3-1 c).Start))))

pub overflow_sub-dy : goal.overflow_sub-dy
overflow_sub-dy c = fits (dy (goal.at.overflow_sub-dy c).After-struct_told-3-1)

pub overflow_sub-threshold : goal.overflow_sub-threshold
overflow_sub-threshold c = omega (arith, c.threshold.ensures, rest (goal.at.overflow_sub-threshold c).Start)

pub overflow_mul-dy : goal.overflow_mul-dy
overflow_mul-dy c = fits (square (dy (goal.at.overflow_mul-dy c).After-struct_told-3-1))

pub overflow_cast-dy : goal.overflow_cast-dy
overflow_cast-dy c = to_nat w64 (square (dy (goal.at.overflow_cast-dy c).After-struct_told-3-1)) tt

pub overflow_sub-threshold-2 : goal.overflow_sub-threshold-2
overflow_sub-threshold-2 c = omega (arith, nat_is (square (dy (goal.at.overflow_sub-threshold-2 c).After-struct_told-3-1)), c.threshold.ensures, rest (goal.at.overflow_sub-threshold-2 c).Start)

root : (c : After-isqrt-dx)
    → Root (threshold_of c.args.diameter - 1 - far
    c.before.before.before.before.before.before.before.before.before * far (goal.at.After-isqrt-dx c).Start)
    c.isqrt-dx.result
root c =
    subst (λ (n : ℕ). Root n c.isqrt-dx.result) (ap₂ (λ (t n : ℕ). t - 1 - n) c.threshold.ensures (nat_is (square (dy (goal.at.After-isqrt-dx c).After-struct_told-3-1))))
    c.isqrt-dx.ensures

short : (c : After-isqrt-dx) → c.isqrt-dx.result < c.args.diameter
short c =
    root_below c.args.diameter (far (goal.at.After-isqrt-dx c).Start) c.isqrt-dx.result (near (goal.at.After-isqrt-dx c).Start) (root c)

pub overflow_cast-result : goal.overflow_cast-result
overflow_cast-result c = record { fits = omega (arith, short (goal.at.overflow_cast-result c).After-isqrt-dx, wide (goal.at.overflow_cast-result c).Start) }

pub overflow_sub-result : goal.overflow_sub-result
overflow_sub-result c = omega (arith, short (goal.at.overflow_sub-result c).After-isqrt-dx)

pub returns : goal.returns
returns c =
    sym (lead_is c.args.topleft c.args.diameter c.args.y (row (goal.at.returns c).Start) c.isqrt-dx.result (root (goal.at.returns c).After-isqrt-dx))
