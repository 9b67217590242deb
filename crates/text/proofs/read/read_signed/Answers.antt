-- `text::read::read_signed` reads the digits behind a minus up to 2^31 and negates them, and others up to 2^31 - 1. Assumes nothing.
use mathlib.Core.Path.{◌≡◌, sym, ap, ◌∙◌}
use Prim.Native.Nat.{◌≤◌}
use native.Mathlib.Omega.{arith}
use lib.IntN.{pos}
use Rattle.std.specs.Prelude.{Some, option_map}
use Rattle.text.specs.Read.{negated, read_digits, read_signed}
use Rattle.text.proofs.Reading.{read_most, signed_minus, signed_plain, minus_narrow, minus_is, plain_is}
use Rattle.text.proofs.read.read_signed.Goals as goal
use Rattle.text.proofs.read.read_signed.Goals.{In-Some, In_ok-n, In_default}

-- what the digits behind a minus say, and what others do
minus : (c : In-Some) → option_map negated (read_digits c.args.limit 2147483648 c.in-Some.digits.now) ≡ read_signed c.args.limit c.args.s.now
minus c =
    let s = c.args.s.now in
    ap (λ (l : _). option_map negated (read_digits c.args.limit 2147483648 l)) c.in-Some.ensures.cases.1 ∙ signed_minus c.args.limit s c.in-Some.ensures.cases.0

plain : (c : In_default) → option_map pos (read_digits c.args.limit 2147483647 c.args.s.now) ≡ read_signed c.args.limit c.args.s.now
plain c = signed_plain c.args.limit c.args.s.now c.in_default.ensures.cases

most : (c : In_ok-n) → c.in_ok-n.n ≤ 2147483648
most c = read_most c.args.limit 2147483648 c.in-Some.digits.now c.in_ok-n.n (sym c.in_ok-n.ensures)

pub returns-in_err-n : goal.returns-in_err-n
returns-in_err-n c =
    c.from_residual.ensures ∙ ap (option_map negated) c.in_err-n.ensures ∙ minus (goal.at.returns-in_err-n c).In-Some

pub overflow_cast-result : goal.overflow_cast-result
overflow_cast-result c = record { sfits = omega (arith, most c) }

pub overflow_cast-result-in-Some : goal.overflow_cast-result-in-Some
overflow_cast-result-in-Some c = minus_narrow c.in_ok-n.n (most c)

pub returns-in-Some : goal.returns-in-Some
returns-in-Some c =
    ap Some (minus_is c.in_ok-n.n (most c)) ∙ ap (option_map negated) c.in_ok-n.ensures ∙ minus (goal.at.returns-in-Some c).In-Some

pub returns-in_err-n-2 : goal.returns-in_err-n-2
returns-in_err-n-2 c =
    c.from_residual-in_err-n-2.ensures ∙ ap (option_map pos) c.in_err-n-2.ensures ∙ plain (goal.at.returns-in_err-n-2 c).In_default

pub overflow_cast-result-2 : goal.overflow_cast-result-2
overflow_cast-result-2 c = record { sfits = omega (arith, read_most _ _ _ c.in_ok-n-2.n (sym c.in_ok-n-2.ensures)) }

pub returns : goal.returns
returns c =
    ap Some (plain_is c.in_ok-n-2.n (read_most c.args.limit 2147483647 c.args.s.now c.in_ok-n-2.n (sym c.in_ok-n-2.ensures)))
    ∙ ap (option_map pos) c.in_ok-n-2.ensures ∙ plain (goal.at.returns c).In_default
