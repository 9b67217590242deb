-- `triangle::stretch_on` tells level, steep and low edges apart, as the definition does. Assumes nothing.
use mathlib.Core.Path.{refl}
use borrow.Author.Tests.{eq-eqb, ne_eqb, le-leb, lt-leb}
use Rattle.triangle.specs.Offsets.{first_offset, last_offset}
use Rattle.triangle.proofs.stretch_on.Goals as goal

pub returns-then-high-eq0 : goal.returns-then-high-eq0
unfolding first_offset last_offset
returns-then-high-eq0 c = let e = eq-eqb c.args.high 0 c.if-high-eq0.true in (rw e, rw e)

pub returns-then-wide-high : goal.returns-then-wide-high
unfolding first_offset last_offset
returns-then-wide-high c =
    let s = c.args in
    let e = ne_eqb s.high 0 c.if-high-eq0.false in
    let f = le-leb s.wide s.high c.if-wide-high.true in
    (rw (e, f) (c.moves_at-moves.ensures s.wide refl), rw (e, f) (c.moves_at-moves.ensures s.wide refl))

pub returns-else-wide-high : goal.returns-else-wide-high
unfolding first_offset last_offset
returns-else-wide-high c =
    let s = c.args in
    let e = ne_eqb s.high 0 c.if-high-eq0.false in
    let f = lt-leb s.wide s.high c.if-wide-high.false in
    (rw (e, f) c.first_with.ensures, rw (e, f) c.last_on.ensures)
