-- `reports::spans::write_rows` writes a row a turn; what is still to be written is at each turn what was at the start. Assumes nothing.
use mathlib.Core.Path.{◌≡◌, sym, subst}
use Prim.Native.Nat.{ℕ, ◌-◌}
use native.Mathlib.Omega.{arith}
use lib.IntN.{ℤ}
use mir.Syntax.{w32}
use mir.Val.{to_z}
use mir.Facts.{to_z-of_z}
use Rattle.reports.proofs.Rows.{Writing, none_yet, next_fits, one_more, all_written}
use Rattle.reports.proofs.spans.write_rows.Goals as goal

pub loop-init : goal.loop-init
loop-init c =
    let a = c.args in
    let all : a.count ≡ a.count - 0 = omega arith in
    subst (λ (y : ℤ). Writing a.out.now a.at a.t y a.count a.out.now a.at y (a.count - 0)) (sym (to_z-of_z c.ranges.first))
    (subst (λ (n : ℕ). Writing a.out.now a.at a.t a.first a.count a.out.now a.at a.first n) all
    (none_yet a.out.now a.at a.t a.first a.count c.requires.0 c.ranges.first c.requires.1))

pub write_row-filled-requires : goal.write_row-filled-requires
write_row-filled-requires c = let i = c.loop.invariant in omega (arith, i.size, i.room, c.loop-test.true)

pub overflow_add-y : goal.overflow_add-y
overflow_add-y c = next_fits _ _ _ _ _ c.loop.invariant (omega (arith, c.loop-test.true))

pub loop-preserved : goal.loop-preserved
loop-preserved c =
    let w = c.write_row-filled in
    let some = c.loop-test.true in
    let i = c.loop.invariant in
    one_more _ _ _ _ _ i (omega (arith, some)) w.ensures w.auto.out (to_z-of_z (next_fits _ _ _ _ _ i (omega (arith, some)))) (omega (arith, some))

pub returns : goal.returns
returns c =
    let a = c.args in
    let l = c.loop in
    all_written a.out.now a.at a.t a.first a.count
    (subst (λ (y : ℤ). Writing a.out.now a.at a.t y a.count l.out l.filled (to_z w32 l.y-bits) (a.count - l.counter)) (to_z-of_z c.ranges.first) l.invariant) (omega (arith, c.loop-test.false))
