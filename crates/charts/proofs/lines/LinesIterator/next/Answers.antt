-- `charts::lines::Lines::next` takes the line up to the next LF. Assumes nothing.
use mathlib.Core.Path.{◌≡◌, sym, ap, ◌∙◌}
use mathlib.Core.List.{List, ◌∷◌}
use Prim.Native.Nat.{ℕ, ◌-◌}
use native.Mathlib.Omega.{arith}
use lib.ListN.{length, take, drop}
use Rattle.text.specs.Fields.{lines}
use Rattle.text.proofs.Parting.{until_within}
use Rattle.charts.proofs.Taking.{line_taken}
use Rattle.charts.proofs.lines.LinesIterator.next.Goals as goal
use Rattle.charts.proofs.lines.LinesIterator.next.Goals.{After-min}

pub split_at-requires : goal.split_at-requires
split_at-requires c = omega (arith, c.find-end.ensures, until_within 10 c.args.self.now.0.now)

-- the line, and what is left behind it
taken : (c : After-min) → let r : List ℕ = c.split_at.result.1.now in lines c.args.self.now.0.now ≡ c.split_at.result.0.now ∷ lines (take (length r - c.min.result) (drop c.min.result r))
taken c =
    let s = c.split_at.ensures in
    line_taken c.args.self.now.0.now c.split_at.result.0.now c.split_at.result.1.now c.find-end.result c.min.result
    (sym c.is_empty.ensures ∙ c.if-is_empty.false) c.find-end.ensures s.front s.back c.min.ensures

pub returns-clause-steps : goal.returns-clause-steps
returns-clause-steps c = taken (goal.at.returns-clause-steps c).After-min

pub returns-clause-goes : goal.returns-clause-goes
returns-clause-goes c =
    let fewer = ap length (taken (goal.at.returns-clause-goes c).After-min) in
    record { on = λ f. (tt, tt, omega (arith, fewer)); keeps = tt; rests = λ f. tt }
