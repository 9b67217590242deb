-- `chart::tell` puts the file into the output, or the line. Assumes nothing.
use mathlib.Core.Path.{sym, ap, ◌∙◌}
use mathlib.Core.List.{List}
use Prim.Native.Nat.{ℕ}
use native.Mathlib.Omega.{arith}
use Rattle.frames.specs.declared.Size.{Size}
use Rattle.netpbm.specs.Written.{written}
use Rattle.chart.proofs.Written.{file_handed, line_handed}
use Rattle.chart.proofs.tell.Goals as goal

pub returns-then-is_ok : goal.returns-then-is_ok
returns-then-is_ok c =
    let a = c.args in
    file_handed a.input.now a.pane.now a.out.now c.draw_day-count.ensures c.requires.0 c.requires.1
    (sym c.is_ok.ensures.value ∙ c.if-is_ok.true)
    c.draw_day-count.auto.pane
    (ap {B = Size × List ℕ} (λ q. (q, c.write_image.new.out)) c.from-image.ensures ∙ c.write_image.ensures ∙ (λ i. written (c.frame.ensures i) c.draw_day-count.new.pane a.out.now))

pub write_count-requires : goal.write_count-requires
write_count-requires c = omega (arith, c.requires.1)

pub returns-else-is_ok : goal.returns-else-is_ok
returns-else-is_ok c =
    let a = c.args in
    let w = c.write_count.ensures in
    line_handed a.input.now a.pane.now a.out.now c.draw_day-count.ensures c.requires.0 c.requires.1
    (sym c.is_ok.ensures.value ∙ c.if-is_ok.false) w.0 w.1 w.2
