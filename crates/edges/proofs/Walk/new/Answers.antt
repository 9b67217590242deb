-- `edges::Walk::new` sets the three walks at their starts. Assumes nothing.
use mathlib.Core.Path.{refl}
use Rattle.edges.proofs.Rows.{walk_begins}
use Rattle.edges.proofs.Walk.new.Goals as goal

pub returns : goal.returns
returns c =
    walk_begins c.args.t c.args.solid _ c.requires.1 c.new.ensures c.new-2.ensures c.new-3.ensures refl
