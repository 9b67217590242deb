-- `minutes::run` stands within its buffer from turn to turn, and the turns that are left get fewer. Assumes nothing.
use mathlib.Core.Path.{◌≡◌, sym, ◌∙◌}
use mathlib.Core.Bool.{true}
use Prim.Native.Nat.{ℕ}
use native.Mathlib.Omega.{arith}
use Rattle.streams.specs.State.{goes_on}
use Rattle.streams.proofs.Turns.{some_turns}
use Rattle.reports.specs.declared.Tally.{Tally}
use Rattle.minutes.proofs.Turns.{starts, next_within, same_turns, runs_on}
use Rattle.minutes.proofs.run.Goals as goal
use Rattle.minutes.proofs.run.Goals.{In-loop-input}

pub loop-input-init : goal.loop-input-init
loop-input-init c =
    starts c.args.out.now c.start-st.result c.args.input.now c.start-st.ensures c.requires.0

-- a turn
on : (c : In-loop-input) → goes_on c.loop-input.st ≡ true
on c = sym c.goes_on.ensures ∙ c.loop-input-test.true

pub refill-st-requires : goal.refill-st-requires
refill-st-requires c =
    let a = c.args in
    let l = c.loop-input in
    let s = c.count_some-next in
    let m : ℕ × Tally = s.result in (
      next_within a.out.now l.st l.input l.tally l.invariant m s.ensures c.stands_at.result c.stands_at.ensures,
      omega (
        arith,
        some_turns l.st (on (goal.at.refill-st-requires c).In-loop-input),
        same_turns a.out.now l.st l.input l.tally l.invariant m s.ensures c.stands_at.result c.stands_at.ensures,
      ),
      l.invariant.size,
    )

pub loop-input-preserved : goal.loop-input-preserved
loop-input-preserved c =
    let refill = c.refill-st in
    let l = c.loop-input in
    let s = c.count_some-next in
    runs_on c.args.out.now l.st l.input l.tally l.invariant s.result s.ensures c.stands_at.result c.stands_at.ensures refill.result refill.new.input
    (on (goal.at.loop-input-preserved c).In-loop-input) refill.auto.input refill.ensures
