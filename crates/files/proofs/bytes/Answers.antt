-- `files::bytes` hands the rest of the line on, where there is one. Assumes nothing.
use Rattle.readers.proofs.Readings.{unanswered, answered}
use Rattle.calls.proofs.Calls.{said_beside}
use Rattle.files.specs.Files.{bytes_call}
use Rattle.files.proofs.Turns.{bytes_none, bytes_put}
use Rattle.files.proofs.bytes.Goals as goal

pub returns-in_err-from : goal.returns-in_err-from
unfolding bytes_call
returns-in_err-from c = unanswered _ _ (said_beside _ c.from_residual.ensures) c.in_err-from.ensures

pub returns-in_err-digits : goal.returns-in_err-digits
unfolding bytes_call
returns-in_err-digits c =
    let said = c.args.said.now in
    let from = c.in_ok-from in
    answered _ _ from.ensures (bytes_none said from.at from.from c.args.file.now c.from_residual-in_err-digits.ensures c.in_err-digits.ensures.lookup.0)

pub returns : goal.returns
unfolding bytes_call
returns c = answered _ _ c.in_ok-from.ensures (bytes_put c.args.said.now c.in_ok-from.at c.in_ok-from.from c.args.file.now c.in_ok-digits.ensures.lookup.0.2 c.put_hex.ensures c.then_some.ensures)
