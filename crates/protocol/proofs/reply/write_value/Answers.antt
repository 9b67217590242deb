-- `protocol::reply::write_value` writes what its arm has found in the value; a signed number is read back from its bits. Assumes nothing.
use native.Mathlib.Omega.{arith}
use mir.Syntax.{w32}
use mir.Val.{SFits}
use borrow.Author.Rules.{rules}
use Rattle.protocol.specs.declared.reply.Value.{Value}
use Rattle.protocol.specs.Reply.{value_field}
use Rattle.protocol.proofs.Writes.{short_as, short_field, read_back_short}
use Rattle.protocol.proofs.reply.write_value.Goals as goal

pub write_field-requires : goal.write_field-requires
write_field-requires c =
    let fit : SFits w32 c.in-Whole.z = search rules in omega (arith, read_back_short c.in-Whole.z c.args.stop fit)

pub returns-in-Whole : goal.returns-in-Whole
returns-in-Whole c =
    let a = c.args in
    let fit : SFits w32 c.in-Whole.z = search rules in
    short_as (λ (x : Value). value_field x a.stop) 12 12 a.out.now a.at c.in-Whole.is (omega arith)
    (short_field c.in-Whole.z a.stop fit a.out.now a.at
    c.write_field.ensures)
