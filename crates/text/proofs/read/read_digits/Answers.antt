-- `text::read::read_digits` goes digit by digit; what it has still to find is at each turn what it had to find at the start. Assumes nothing.
use mathlib.Core.Path.{◌≡◌, sym, ◌∙◌}
use Prim.Native.Nat.{◌≤◌}
use native.Mathlib.Omega.{arith}
use lib.ListN.{length, get_or}
use borrow.Author.Tests.{eqb-true, eqb-false}
use Rattle.text.specs.Digits.{with_digit}
use Rattle.text.proofs.Reading.{fitting, read_is, read_empty, read_long, scan_goes, scan_stops, scan_ends, fitting_most, only_yes, only_no}
use Rattle.text.proofs.read.read_digits.Goals as goal
use Rattle.text.proofs.read.read_digits.Goals.{then-is_empty-via-then-is_empty, then-is_empty-via-else-is_empty+then-s-limit}

pub returns-then-is_empty : goal.returns-then-is_empty
returns-then-is_empty c =
    let s = c.args.s.now in
    elim c.then-is_empty.branch [
      | then-is_empty-via-then-is_empty w ↦ read_empty c.args.limit _ s (eqb-true (length s) 0 (sym c.is_empty.ensures ∙ w.if-is_empty.true))
      | then-is_empty-via-else-is_empty+then-s-limit w ↦ read_long c.args.limit _ s w.if-s-limit.true
    ]

pub returns-in_err-v : goal.returns-in_err-v
unfolding fitting
returns-in_err-v c =
    let a = c.args in
    let l = c.loop-b in
    let h : 1 ≤ length a.s.now = omega (arith, eqb-false (length a.s.now) 0 (sym c.is_empty.ensures ∙ c.if-is_empty.false)) in
    c.from_residual.ensures ∙ sym (scan_stops a.most l.v a.s.now l.b-index c.loop-b-test.true (only_no _ _ (sym c.in_err-v.ensures)))
    ∙ l.invariant.1 ∙ read_is a.limit a.most a.s.now h c.if-s-limit.false

pub loop-b-preserved : goal.loop-b-preserved
unfolding fitting
loop-b-preserved c =
    let a = c.args in
    let l = c.loop-b in
    let yes = only_yes (fitting a.most l.v (get_or a.s.now l.b-index 0)) _ c.in_ok-v.v (sym c.in_ok-v.ensures) in
    let more : c.in_ok-v.v ≡ with_digit l.v (get_or a.s.now l.b-index 0) = sym yes.1 in (
      rw more (fitting_most a.most l.v (get_or a.s.now l.b-index 0) yes.0),
      rw more (sym (scan_goes a.most l.v a.s.now l.b-index c.loop-b-test.true yes.0) ∙ l.invariant.1),
    )

pub returns : goal.returns
returns c =
    let a = c.args in
    let l = c.loop-b in
    let h : 1 ≤ length a.s.now = omega (arith, eqb-false (length a.s.now) 0 (sym c.is_empty.ensures ∙ c.if-is_empty.false)) in
    sym (scan_ends a.most l.v a.s.now l.b-index c.loop-b-test.false) ∙ l.invariant.1 ∙ read_is a.limit a.most a.s.now h c.if-s-limit.false
