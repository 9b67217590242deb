-- `line::first_with` is one past the last step with one move fewer, and no further than the line. Assumes nothing.
use mathlib.Core.Path.{◌≡◌, sym, ap, ◌∙◌}
use Prim.Native.Nat.{ℕ, ◌+◌}
use native.Mathlib.Omega.{arith}
use Rattle.line.specs.Reach.{reach_from}
use Rattle.line.proofs.Reach.{from_wide, from_past}
use Rattle.line.proofs.first_with.Goals as goal
use Rattle.line.proofs.first_with.Goals.{After-reach_of}

pub returns-then-moved-eq0 : goal.returns-then-moved-eq0
unfolding reach_from
returns-then-moved-eq0 c = let s = c.args in ap (reach_from s.major s.minor) (sym c.if-moved-eq0.true)

-- what is worked out is the first step
first : (c : After-reach_of) → c.reach_of.result + 1 ≡ reach_from c.args.major c.args.minor c.args.moved
first c = let s = c.args in ap (λ (n : ℕ). n + 1) c.reach_of.ensures ∙ from_past s.major s.minor s.moved (omega arith)

pub overflow_add-result : goal.overflow_add-result
overflow_add-result c = let s = c.args in omega (arith, first (goal.at.overflow_add-result c).After-reach_of, from_wide s.major s.minor s.moved (omega arith) (omega arith))

pub overflow_cast-result : goal.overflow_cast-result
overflow_cast-result c = let s = c.args in omega (arith, first (goal.at.overflow_cast-result c).After-reach_of, from_wide s.major s.minor s.moved (omega arith) (omega arith))

pub returns-else-moved-eq0 : goal.returns-else-moved-eq0
returns-else-moved-eq0 c = first (goal.at.returns-else-moved-eq0 c).After-reach_of
