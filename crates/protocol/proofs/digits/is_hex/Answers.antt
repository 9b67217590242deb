-- `protocol::digits::is_hex` makes the tests of `is_hex`. Assumes nothing.
use Rattle.protocol.specs.Bytes.{is_hex}
use Rattle.protocol.proofs.digits.is_hex.Goals as goal

pub returns : goal.returns
unfolding is_hex
returns c = rw c.all_digits-digits.ensures
