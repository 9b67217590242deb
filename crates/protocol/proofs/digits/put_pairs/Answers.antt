-- `protocol::digits::put_pairs` stores a byte a turn; the stores that are left are at each turn those of the rest of the digits. Assumes nothing.
use mathlib.Core.Path.{◌≡◌, sym, ap, ◌∙◌}
use Prim.Native.Nat.{ℕ, ◌+◌, ◌*◌, ◌<◌}
use native.Mathlib.Omega.{arith}
use lib.ListN.{get_or, length-set}
use Rattle.std.specs.Prelude.{Option, unwrap_or}
use Rattle.protocol.specs.Bytes.{digit_or_zero}
use Rattle.protocol.proofs.Hexadecimal.{pair_count, digit_below, pair_turn, pair_end}
use Rattle.protocol.proofs.digits.put_pairs.Goals as goal
use Rattle.protocol.proofs.digits.put_pairs.Goals.{After-unwrap_or-low}

-- both digits of a pair
module _ (c : After-unwrap_or-low) where
  high : c.unwrap_or-high.result ≡ digit_or_zero (get_or c.args.digits.now (c.loop-i.i * 2) 0)
  high = c.unwrap_or-high.ensures ∙ ap (λ (r : Option ℕ). unwrap_or r 0) c.digit_value.ensures

  low : c.unwrap_or-low.result ≡ digit_or_zero (get_or c.args.digits.now (c.loop-i.i * 2 + 1) 0)
  low = c.unwrap_or-low.ensures ∙ ap (λ (r : Option ℕ). unwrap_or r 0) c.digit_value-in-loop-i.ensures

  small : (c.unwrap_or-high.result < 16) × (c.unwrap_or-low.result < 16)
  small = (omega (arith, high, digit_below (get_or c.args.digits.now (c.loop-i.i * 2) 0)), omega (arith, low, digit_below (get_or c.args.digits.now (c.loop-i.i * 2 + 1) 0)))

pub overflow_mul-out : goal.overflow_mul-out
overflow_mul-out c = omega (arith, (small c).0, (small c).1)

pub overflow_add-out : goal.overflow_add-out
overflow_add-out c = omega (arith, (small c).0, (small c).1)

pub bounds-out-at : goal.bounds-out-at
bounds-out-at c = omega (arith, c.requires.1, pair_count c.args.digits.now)

pub loop-i-preserved : goal.loop-i-preserved
loop-i-preserved c =
    let a = c.args in
    let l = c.loop-i in
    (simp length-set l.invariant.0, rw (high c, low c) (pair_turn l.out a.digits.now a.at l.i c.loop-i-test.true ∙ l.invariant.1))

pub returns : goal.returns
returns c =
    let a = c.args in
    let l = c.loop-i in
    sym (pair_end l.out a.digits.now a.at l.i c.loop-i-test.false) ∙ l.invariant.1
