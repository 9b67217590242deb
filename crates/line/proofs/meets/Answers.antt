-- `line::meets` counts the pixel's moves from the start and asks the closed form. Assumes nothing.
use mathlib.Core.Path.{◌≡◌, ◌∙◌}
use native.Mathlib.Omega.{arith}
use lib.IntN.{◌-ℤ◌, ◌*ℤ◌}
use mir.Syntax.{w32, w64}
use mir.Val.{to_z, of_z}
use mir.Facts.{to_z-of_z}
use borrow.Author.Rules.{rules}
use Rattle.geometry.proofs.Bound.{coord_fits}
use Rattle.line.specs.Line.{toward, on_line}
use Rattle.line.proofs.Lengths.{wide_of, high_of, wide_size, high_size}
use Rattle.line.proofs.Closed.{has_closed}
use Rattle.line.proofs.meets.Goals as goal

pub on_line-requires : goal.on_line-requires
on_line-requires c =
    let s = c.requires.0 in
    let e = c.requires.1 in
    omega (arith, wide_of s e c.abs_diff-wide.ensures, wide_size s e, high_of s e c.abs_diff-high.ensures, high_size s e)

pub returns : goal.returns
returns c =
    let wide = wide_of c.requires.0 c.requires.1 c.abs_diff-wide.ensures in
    let high = high_of c.requires.0 c.requires.1 c.abs_diff-high.ensures in
    let sx : to_z w32 (of_z w32 c.args.start.0) ≡ c.args.start.0 = to_z-of_z (coord_fits c.requires.0.x) in
    let sy : to_z w32 (of_z w32 c.args.start.1) ≡ c.args.start.1 = to_z-of_z (coord_fits c.requires.0.y) in
    let ex : to_z w32 (of_z w32 c.args.end.0) ≡ c.args.end.0 = to_z-of_z (coord_fits c.requires.1.x) in
    let ey : to_z w32 (of_z w32 c.args.end.1) ≡ c.args.end.1 = to_z-of_z (coord_fits c.requires.1.y) in
    let px : to_z w32 (of_z w32 c.args.p.0) ≡ c.args.p.0 = search rules in
    let py : to_z w32 (of_z w32 c.args.p.1) ≡ c.args.p.1 = search rules in
    let x_back : to_z w64 (of_z w64 c.progress-x.result) ≡ c.progress-x.result = search rules in
    let y_back : to_z w64 (of_z w64 c.progress-y.result) ≡ c.progress-y.result = search rules in
    let along : c.progress-x.result ≡ toward c.args.start.0 c.args.end.0 *ℤ (c.args.p.0 -ℤ c.args.start.0) = c.progress-x.ensures ∙ (λ i. toward (sx i) (ex i) *ℤ (px i -ℤ sx i)) in
    let down : c.progress-y.result ≡ toward c.args.start.1 c.args.end.1 *ℤ (c.args.p.1 -ℤ c.args.start.1) = c.progress-y.ensures ∙ (λ i. toward (sy i) (ey i) *ℤ (py i -ℤ sy i)) in
    c.on_line.ensures ∙ (λ i. on_line (wide i) (high i) ((x_back ∙ along) i) ((y_back ∙ down) i)) ∙ has_closed c.args.start c.args.end c.args.p
