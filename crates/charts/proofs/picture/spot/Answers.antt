-- `charts::picture::spot` scales both numbers; neither is far from the frame. Assumes nothing.
use mathlib.Core.Path.{ap, ◌∙◌}
use lib.IntN.{ℤ, pos, ◌+ℤ◌, ◌-ℤ◌}
use mir.Syntax.{w32}
use Rattle.whole.proofs.Machine.{field_back, fits, read, lit, back, plus, minus}
use Rattle.charts.specs.Scale.{scaled}
use Rattle.charts.proofs.Scaling.{scaled_size, near}
use Rattle.charts.proofs.picture.spot.Goals as goal

pub overflow_add-result : goal.overflow_add-result
overflow_add-result c = fits (plus (lit 24 tt) (read c.scaled.result (near c.scaled.ensures (scaled_size _ _ _)) tt) tt)

pub overflow_sub-result : goal.overflow_sub-result
overflow_sub-result c = fits (minus (lit 335 tt) (read c.scaled-2.result (near c.scaled-2.ensures (scaled_size _ _ _)) tt) tt)

pub returns : goal.returns
returns c =
    let a = c.args in
    let across =
    (back {w = w32} (plus (lit 24 tt) (read c.scaled.result (near c.scaled.ensures (scaled_size _ _ _)) tt) tt)).is
    ∙ ap (λ (z : ℤ). pos 24 +ℤ z) (c.scaled.ensures ∙ ap (scaled a.e.second 600) (field_back w32 a.p.0 c.struct_told-1.given.0.1)) in
    let down =
    (back {w = w32} (minus (lit 335 tt) (read c.scaled-2.result (near c.scaled-2.ensures (scaled_size _ _ _)) tt) tt)).is
    ∙ ap (λ (z : ℤ). pos 335 -ℤ z) (c.scaled-2.ensures ∙ ap (scaled a.e.load 320) (field_back w32 a.p.1 c.struct_told-2-1.given.1.0.1)) in
    λ i. (across i, down i)
