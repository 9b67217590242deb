-- `protocol::reply::write_one` writes the number and the value one behind the other. Assumes nothing.
use Rattle.protocol.specs.Reply.{natural, value_field}
use Rattle.protocol.proofs.Writes.{short_then}
use Rattle.protocol.proofs.reply.write_one.Goals as goal

pub returns : goal.returns
returns c =
    let a = c.args in
    short_then 11 12 a.out.now a.at (natural a.number 9) (value_field a.v 10) c.write_natural-second.ensures
    c.write_value.ensures
