-- `session::answer_lines` answers a line a turn; what is still to be handled is at each turn what was at the start. Assumes nothing.
use mathlib.Core.Path.{◌≡◌, sym, ap, ap₂, subst, ◌∙◌}
use mathlib.Core.Bool.{true}
use Prim.Native.Nat.{ℕ, ◌+◌, ◌≤◌, ◌<◌}
use native.Mathlib.Omega.{arith}
use lib.ListN.{length}
use borrow.Author.Tests.{not-true, not-false, leb-true}
use Rattle.session.specs.Lines.{Session, answered, room}
use Rattle.text.proofs.Parting.{part_end_within}
use Rattle.session.proofs.Lent.{answer_lent}
use Rattle.text.specs.Lines.{line_end, line_at, handled}
use Rattle.text.proofs.Streaming.{handled_turn, handled_none, handled_full, line_is}
use Rattle.session.proofs.answer_lines.Goals as goal
use Rattle.session.proofs.answer_lines.Goals.{At-loop-current, Else-end-input, Else-not-has_room, then-end-input-via-then-end-input, then-end-input-via-else-end-input+then-not-has_room}

-- where the program stands at the head of a turn
abbrev standing : At-loop-current → Session
standing c = ((c.loop-current.filled, c.loop-current.out), (c.loop-current.current, (c.loop-current.memory, c.loop-current.file)))

-- a line that LF ends
ended : (c : Else-end-input) → c.part_end-end.result < length c.args.input.now
ended c =
    let s = c.args.input.now in
    omega (arith, c.part_end-end.ensures, part_end_within 10 s c.loop-current.next c.loop-current.invariant.inside, c.if-end-input.false)

-- the room that is left
has : (c : Else-not-has_room) → room (standing (goal.at.Else-not-has_room c).At-loop-current) ≡ true
has c = sym c.has_room.ensures ∙ not-false _ c.if-not-has_room.false-raw

pub returns-then-end-input : goal.returns-then-end-input
returns-then-end-input c =
    let l = c.loop-current in
    let s = c.args.input.now in
    let o = standing (goal.at.returns-then-end-input c).At-loop-current in
    elim c.then-end-input.branch [
      | then-end-input-via-then-end-input w ↦
          (sym (handled_none answered room s (length s) l.next o (omega (arith, w.if-end-input.true, c.part_end-end.ensures))) ∙ l.invariant.rest, l.invariant.filled)
      | then-end-input-via-else-end-input+then-not-has_room w ↦
          (sym (handled_full answered room s (length s) l.next o (sym w.has_room.ensures ∙ not-true _ w.if-not-has_room.true-raw)) ∙ l.invariant.rest, l.invariant.filled)
    ]

pub slice_bounds-answer_line-end : goal.slice_bounds-answer_line-end
slice_bounds-answer_line-end c = omega (arith, ended (goal.at.slice_bounds-answer_line-end c).Else-end-input)

pub loop-current-preserved : goal.loop-current-preserved
loop-current-preserved c =
    let i = c.loop-current.invariant in
    let s = c.args.input.now in
    let d = c.answer_line-done in
    let o = standing (goal.at.loop-current-preserved c).At-loop-current in
    let e = c.part_end-end.ensures in
    let inside : line_end s c.loop-current.next < length s = omega (arith, ended (goal.at.loop-current-preserved c).Else-end-input, e) in
    let done = d.ensures.0 ∙ ap (answered o) (line_is s c.loop-current.next c.part_end-end.result e) in
    record {
      inside = omega (arith, ended (goal.at.loop-current-preserved c).Else-end-input);
      out_size = d.auto.out ∙ i.out_size;
      memory_size = d.auto.memory ∙ i.memory_size;
      file_size = d.auto.file ∙ i.file_size;
      lent = subst (λ (x : Session). x.1.0.lent ≤ 65536) (sym done) (answer_lent (line_at s c.loop-current.next) o.1 i.lent);
      filled = omega (arith, d.ensures.1, leb-true (c.loop-current.filled + 8193) (length c.loop-current.out) (has (goal.at.loop-current-preserved c).Else-not-has_room), i.out_size);
      rest =
          ap₂ (λ (k : ℕ) (x : Session). handled room answered s (length s) k x) (ap (λ (k : ℕ). k + 1) e) done
          ∙ sym (handled_turn answered room s c.loop-current.next o inside (has (goal.at.loop-current-preserved c).Else-not-has_room)) ∙ i.rest;
    }
