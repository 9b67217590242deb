-- `connected::mirrors` tests the moves of the line's parameters, as the Rust does. Assumes nothing.
use mathlib.Core.Path.{ap, ◌∙◌}
use lib.IntN.{ℤ, pos}
use mir.Syntax.{w32}
use mir.Val.{SFits, to_z, of_z}
use mir.Facts.{sfits_lit}
use Rattle.whole.specs.Equal.{eq_z}
use Rattle.whole.proofs.Machine.{Has, sized, minus_of, fits, eq_bits, eq_test}
use Rattle.line.proofs.Walk.{xmajor_read, ymajor_read, xminor_read, yminor_read}
use Rattle.connected.proofs.Walk.{mirrors_x, mirrors_y}
use Rattle.connected.proofs.mirrors.Goals as goal

-- a field that is read fits
field_fits : {z : ℤ} → Has w32 (to_z w32 (of_z w32 z)) z 1 → SFits w32 z
field_fits h = sized h.size h.room

pub returns-then-c-ne0 : goal.returns-then-c-ne0
returns-then-c-ne0 c = λ s e h. eq_test (field_fits (xmajor_read h)) (field_fits (yminor_read h)) ∙ mirrors_x h (λ z. c.if-c-ne0.true (ap (of_z w32) z))

pub returns-else-c-ne0 : goal.returns-else-c-ne0
returns-else-c-ne0 c = λ s e h.
    eq_test (field_fits (ymajor_read h)) (fits (minus_of (xminor_read h))) ∙ ap (eq_z c.args.c.ymajor) (minus_of (xminor_read h)).is
    ∙ mirrors_y h (eq_bits (field_fits (xmajor_read h)) (sfits_lit {z = pos 0} tt) c.if-c-ne0.false)
