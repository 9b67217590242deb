-- `spans::list` hands over a part a turn; what was handed over and what is left are at each turn the report. Assumes nothing.
use mathlib.Core.Path.{◌≡◌, ap, ◌∙◌}
use mathlib.Core.List.{List}
use Prim.Native.Nat.{ℕ, ◌≤◌}
use native.Mathlib.Omega.{arith}
use lib.ListN.{length, take}
use lib.Seq.{sets}
use Rattle.reports.proofs.Parts.{first_next, first_handed, part_room, part_next, next_handed, all_handed}
use Rattle.reports.proofs.Within.{heading_short}
use Rattle.streams.proofs.Refilling.{front}
use Rattle.spans.proofs.list.Goals as goal

-- what was written at the front of the buffer stands there
at_front : (before text : List ℕ) {after : List ℕ} → after ≡ sets before 0 text → length text ≤ length before → take (length text) after ≡ text
at_front before text e h = ap (take (length text)) e ∙ front before text h

pub hand_over-requires : goal.hand_over-requires
hand_over-requires c =
    let v = c.args.v in
    let w = c.first_part-part in
    let size = w.auto.out ∙ c.requires in
    first_next v w.result w.ensures.0 _ size (at_front _ _ w.ensures.1 (omega (arith, heading_short v, c.requires)))

pub loop-part-init : goal.loop-part-init
loop-part-init c =
    let w = c.first_part-part in
    (w.auto.out ∙ c.requires, first_handed c.args.v w.result w.ensures.0 c.in_ok-told.ensures)

pub hand_over-requires-in-loop-part : goal.hand_over-requires-in-loop-part
hand_over-requires-in-loop-part c =
    let l = c.loop-part in
    let v = c.args.v in
    let w = c.next_part-part in
    let room = part_room v l.part w.result l.invariant.1 w.ensures.0 in
    part_next v l.part w.result l.invariant.1 w.ensures.0 _ (w.auto.out ∙ l.invariant.0) (at_front _ _ w.ensures.1 (omega (arith, room, l.invariant.0)))

pub loop-part-preserved : goal.loop-part-preserved
loop-part-preserved c =
    let l = c.loop-part in
    let w = c.next_part-part in
    (w.auto.out ∙ l.invariant.0, next_handed c.args.v l.part w.result l.invariant.1 w.ensures.0 c.in_ok-told-2.ensures)

pub returns : goal.returns
returns c =
    let l = c.loop-part in
    all_handed c.args.v l.part l.invariant.1 c.loop-part-test.false
