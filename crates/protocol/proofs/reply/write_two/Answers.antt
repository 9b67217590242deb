-- `protocol::reply::write_two` writes the number and the two values one behind the other. Assumes nothing.
use Rattle.protocol.specs.Reply.{natural, value_field}
use Rattle.protocol.proofs.Writes.{short_three}
use Rattle.protocol.proofs.reply.write_two.Goals as goal

pub returns : goal.returns
returns c =
    let a = c.args in
    short_three 11 12 12 a.out.now a.at (natural a.number 9) (value_field a.v 9) (value_field a.w 10)
    c.write_natural-second.ensures
    c.write_value-third.ensures c.write_value.ensures
