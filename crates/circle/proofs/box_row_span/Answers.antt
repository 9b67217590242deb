-- `circle::box_row_span` is the span: the columns after the skipped ones, shortened equally, in 32 bits as the box is small. Assumes nothing.
use mathlib.Core.Path.{◌≡◌, sym, ap, ap₂, ◌∙◌}
use Prim.Native.Nat.{ℕ, ◌*◌, ◌-◌, ◌<◌, ◌≤◌}
use native.Mathlib.Omega.{arith}
use lib.IntN.{ℤ, pos, ◌+ℤ◌}
use mir.Facts.{to_z-of_z}
use Rattle.geometry.specs.Bound.{Coord}
use Rattle.circle.specs.Circle.{lead_of}
use Rattle.circle.proofs.Refusals.{widest}
use Rattle.circle.proofs.Spans.{lead_some, start_is, kept_is}
use Rattle.circle.proofs.Worked.{after_fits, after_is}
use Rattle.circle.proofs.box_row_span.Goals as goal
use Rattle.circle.proofs.box_row_span.Goals.{After-lead-skipped}

module _ (c : After-lead-skipped) where
  skipped : c.lead-skipped.result ≡ lead_of c.args.topleft c.args.diameter c.args.y
  skipped = c.lead-skipped.ensures ∙ ap (lead_of c.args.topleft c.args.diameter) (to_z-of_z c.ranges.y)

  some : 2 * c.lead-skipped.result < c.args.diameter
  some = omega (arith, skipped, lead_some c.args.topleft c.args.diameter c.args.y c.requires.1)

  -- the numbers that are added are small
  left : Coord c.args.topleft.0
  left = c.requires.0.corner.x

  rest : (n : ℕ) → c.args.diameter - n ≤ 262144
  rest n = omega (arith, widest c.requires.0)

  few : c.lead-skipped.result ≤ 262144
  few = omega (arith, some, rest 0)

pub overflow_sub-kept : goal.overflow_sub-kept
overflow_sub-kept c = omega (arith, some (goal.at.overflow_sub-kept c).After-lead-skipped)

pub overflow_cast-result : goal.overflow_cast-result
overflow_cast-result c = record { sfits = omega (arith, few (goal.at.overflow_cast-result c).After-lead-skipped) }

pub overflow_add-result : goal.overflow_add-result
overflow_add-result c = search (after_fits, left (goal.at.overflow_add-result c).After-lead-skipped, few (goal.at.overflow_add-result c).After-lead-skipped)

pub returns : goal.returns
returns c =
    let a = c.args in
    let r = c.requires.1 in
    ap₂ {A = ℤ} {B = ℤ} (λ a b. (a, b))
    (after_is (left (goal.at.returns c).After-lead-skipped) c.lead-skipped.result (few (goal.at.returns c).After-lead-skipped) ∙ ap (λ (n : ℕ). a.topleft.0 +ℤ pos n) (skipped (goal.at.returns c).After-lead-skipped) ∙ sym (start_is a.topleft a.diameter a.y r))
    (after_is (left (goal.at.returns c).After-lead-skipped) (a.diameter - c.lead-skipped.result) (rest (goal.at.returns c).After-lead-skipped _) ∙ ap (λ (n : ℕ). a.topleft.0 +ℤ pos (a.diameter - n)) (skipped (goal.at.returns c).After-lead-skipped)
    ∙ sym (kept_is a.topleft a.diameter a.y r))
