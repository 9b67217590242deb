-- `connected::meets` reads the index off the pixel, and compares the pixel with the point that has it. Assumes nothing.
use mathlib.Core.Path.{◌≡◌, sym, ap, ap₂, ◌∙◌}
use Prim.Native.Nat.{◌+◌}
use native.Mathlib.Omega.{arith}
use lib.IntN.{nat_abs, ◌-ℤ◌}
use mir.Syntax.{w32}
use mir.Val.{to_z, of_z}
use mir.Facts.{to_z-of_z}
use borrow.Author.Rules.{rules}
use borrow.Author.Tests.{lt-leb}
use Rattle.geometry.specs.Place.{same_place}
use Rattle.geometry.proofs.Bound.{coord_fits}
use Rattle.geometry.proofs.Place.{equal_is}
use Rattle.connected.specs.Connected.{connected_at}
use Rattle.connected.proofs.Members.{far, too_far, only_there}
use Rattle.connected.proofs.meets.Goals as goal
use Rattle.connected.proofs.meets.Goals.{After-abs_diff-2}

-- the sum is the index that the pixel would have
sum : (c : After-abs_diff-2) → c.abs_diff.result + c.abs_diff-2.result ≡ far c.args.start c.args.p
sum c =
    let sx : to_z w32 (of_z w32 c.args.start.0) ≡ c.args.start.0 = to_z-of_z (coord_fits c.requires.0.x) in
    let sy : to_z w32 (of_z w32 c.args.start.1) ≡ c.args.start.1 = to_z-of_z (coord_fits c.requires.0.y) in
    let px : to_z w32 (of_z w32 c.args.p.0) ≡ c.args.p.0 = search rules in
    let py : to_z w32 (of_z w32 c.args.p.1) ≡ c.args.p.1 = search rules in
    ap₂ ◌+◌ (c.abs_diff.ensures ∙ (λ i. nat_abs (px i -ℤ sx i))) (c.abs_diff-2.ensures ∙ (λ i. nat_abs (py i -ℤ sy i)))

pub returns-then-i-last_index : goal.returns-then-i-last_index
returns-then-i-last_index c =
    let s = sum (goal.at.returns-then-i-last_index c).After-abs_diff-2 in
    c.eq.ensures ∙ equal_is c.args.p c.point_at.result ∙ ap (same_place c.args.p) (c.point_at.ensures ∙ ap (connected_at c.args.start c.args.end) s)
    ∙ only_there c.args.start c.args.end c.args.p (omega (arith, s, c.last_index.ensures, c.if-i-last_index.true))

pub returns-else-i-last_index : goal.returns-else-i-last_index
returns-else-i-last_index c =
    let s = sum (goal.at.returns-else-i-last_index c).After-abs_diff-2 in
    lt-leb _ _ c.if-i-last_index.false ∙ sym (too_far c.args.start c.args.end c.args.p (omega (arith, s, c.last_index.ensures, c.if-i-last_index.false)))
