-- `text::write::write_counted` writes the word, and the number and an LF behind it. Assumes nothing.
use Rattle.text.proofs.Writing.{wrote_then}
use Rattle.text.specs.Words.{numbered}
use Rattle.text.proofs.write.write_counted.Goals as goal

pub returns : goal.returns
returns c =
    let g = c.args in
    wrote_then g.buf.now g.at g.word.now (numbered g.n 10) c.write_bytes-middle.ensures
    c.write_number.ensures
