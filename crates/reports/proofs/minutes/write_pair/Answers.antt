-- `reports::minutes::write_pair` writes the word and the two numbers one behind the other. Assumes nothing.
use mathlib.Core.List.{◌++◌}
use Rattle.text.specs.Words.{numbered}
use Rattle.text.proofs.Writing.{wrote_then}
use Rattle.reports.proofs.minutes.write_pair.Goals as goal

pub returns : goal.returns
returns c =
    let g = c.args in
    wrote_then g.out.now g.at g.word.now (numbered g.a 9 ++ numbered g.b 10)
    c.write_bytes-first.ensures
    (wrote_then _ _ (numbered g.a 9) (numbered g.b 10) c.write_number-second.ensures c.write_number.ensures)
