-- `protocol::digits::digit_value` makes the tests of `hex_value`. Assumes nothing.
use native.Mathlib.Omega.{arith}
use Rattle.protocol.proofs.Hexadecimal.{digit_tenth, digit_letter, digit_none}
use Rattle.protocol.proofs.digits.digit_value.Goals as goal

pub returns-in-48-to-57 : goal.returns-in-48-to-57
returns-in-48-to-57 c = digit_tenth c.args.b (omega arith) (omega arith)

pub returns-in-97-to-102 : goal.returns-in-97-to-102
returns-in-97-to-102 c = digit_letter c.args.b (omega arith) (omega arith)

pub returns-in_default : goal.returns-in_default
returns-in_default c = digit_none c.args.b (λ h k. omega arith) (λ h k. omega arith)

pub returns-in_default-2 : goal.returns-in_default-2
returns-in_default-2 c = digit_none c.args.b (λ h k. omega arith) (λ h k. omega arith)

pub returns-in_default-3 : goal.returns-in_default-3
returns-in_default-3 c = digit_none c.args.b (λ h k. omega arith) (λ h k. omega arith)
