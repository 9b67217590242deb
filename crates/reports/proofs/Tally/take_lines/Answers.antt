-- `reports::Tally::take_lines` takes a line a turn; what is still to be handled is at each turn what was at the start. Assumes nothing.
use mathlib.Core.Path.{refl, sym, ap, ap₂, subst, ◌∙◌}
use Prim.Native.Nat.{ℕ, ◌+◌, ◌<◌}
use native.Mathlib.Omega.{arith}
use lib.ListN.{length}
use Rattle.text.specs.Lines.{line_end, handled}
use Rattle.text.proofs.Parting.{part_end_within}
use Rattle.text.proofs.Streaming.{line_is, handled_turn, handled_none}
use Rattle.reports.specs.declared.Tally.{Tally}
use Rattle.reports.specs.Minutes.{Few, count_of, take_line, always}
use Rattle.reports.proofs.Counting.{take_few}
use Rattle.reports.proofs.Tally.take_lines.Goals as goal
use Rattle.reports.proofs.Tally.take_lines.Goals.{Else-end-input}

pub returns-then-end-input : goal.returns-then-end-input
returns-then-end-input c =
    let l = c.loop-tally in
    let s = c.args.input.now in
    sym (handled_none take_line always s (length s) l.next l.tally (omega (arith, c.if-end-input.true, c.part_end-end.ensures))) ∙ l.invariant.2

-- a line that LF ends
ended : (c : Else-end-input) → c.part_end-end.result < length c.args.input.now
ended c =
    omega (
      arith,
      c.part_end-end.ensures,
      part_end_within 10 c.args.input.now c.loop-tally.next c.loop-tally.invariant.0,
      c.if-end-input.false,
    )

pub slice_bounds-take_line-end : goal.slice_bounds-take_line-end
slice_bounds-take_line-end c = omega (arith, ended (goal.at.slice_bounds-take_line-end c).Else-end-input)

pub loop-tally-preserved : goal.loop-tally-preserved
loop-tally-preserved c =
    let part_end = c.part_end-end in
    let l = c.loop-tally in
    let s = c.args.input.now in
    let e = part_end.ensures in
    let inside : line_end s l.next < length s = omega (arith, ended (goal.at.loop-tally-preserved c).Else-end-input, e) in (
      omega (arith, ended (goal.at.loop-tally-preserved c).Else-end-input),
      subst (λ (t : Tally). Few (count_of t)) (sym c.take_line-tally.ensures) (take_few l.tally _ l.invariant.1),
      ap₂ (λ (k : ℕ) (t : Tally). handled always take_line s (length s) k t) (ap (λ (k : ℕ). k + 1) e)
          (c.take_line-tally.ensures ∙ ap (take_line l.tally) (line_is s l.next part_end.result e))
          ∙ sym (handled_turn take_line always s l.next l.tally inside refl)
          ∙ l.invariant.2,
    )
