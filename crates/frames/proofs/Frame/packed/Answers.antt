-- `frames::Frame::packed` takes the bytes of a row for the distance. Assumes nothing.
use mathlib.Core.Path.{ap, ◌∙◌}
use borrow.Author.Rules.{rules}
use Rattle.frames.specs.Description.{described}
use Rattle.frames.proofs.Frame.packed.Goals as goal

pub packed_distance-requires : goal.packed_distance-requires
packed_distance-requires c = search rules

pub new-requires : goal.new-requires
new-requires c = search rules

pub returns : goal.returns
returns c =
    let a = c.args in
    c.new.ensures ∙ ap (described a.width a.height a.depth a.big) c.packed_distance.ensures
