-- `painting::paint_columns` goes by the depth: from a byte on, it fills the part of the buffer that the columns take up. Assumes nothing.
use mathlib.Core.Path.{◌≡◌, refl, ◌∙◌}
use Prim.Native.Nat.{◌+◌, ◌-◌, ◌≤◌}
use native.Mathlib.Nat.{le_of_lt}
use native.Mathlib.Omega.{arith}
use lib.ListN.{length, length-take, length-drop}
use Rattle.layout.specs.Packed.{parts}
use Rattle.frames.specs.Judged.{Drawable}
use Rattle.frames.proofs.Refusals.{end_room}
use Rattle.painting.proofs.Edges.{pixels_are, pixels_apart}
use Rattle.painting.proofs.paint_columns.Goals as goal
use Rattle.painting.proofs.paint_columns.Goals.{After-byte_of-end, Start}

-- what the call may lean on
ok : (c : Start) → Drawable c.args.frame (length c.args.buf.now) c.args.colour
ok c = c.requires.0

-- the part of the buffer is in it, and holds a pixel
apart : (c : After-byte_of-end) → c.byte_of-start.result + parts c.args.frame.depth ≤ c.byte_of-end.result
apart c =
    let a = c.args in
    pixels_apart a.frame _ a.colour (ok (goal.at.After-byte_of-end c).Start) c.if-frame-lt8.false a.y a.from a.past c.requires.2 c.byte_of-start.ensures c.byte_of-end.ensures

end : (c : After-byte_of-end) → c.byte_of-end.result ≤ length c.args.buf.now
end c =
    let a = c.args in
    let e = c.byte_of-end.ensures in
    let r = end_room a.frame _ a.past a.y (ok (goal.at.After-byte_of-end c).Start).accepted c.requires.3 c.requires.1 in
    omega arith

pub slice_bounds-fill_part-end : goal.slice_bounds-fill_part-end
slice_bounds-fill_part-end c = omega (arith, end (goal.at.slice_bounds-fill_part-end c).After-byte_of-end)

pub fill_part-requires : goal.fill_part-requires
fill_part-requires c =
    ((ok (goal.at.fill_part-requires c).Start).accepted.described.depth, (ok (goal.at.fill_part-requires c).Start).below, simp (length-take, length-drop) (omega (arith, apart (goal.at.fill_part-requires c).After-byte_of-end, end (goal.at.fill_part-requires c).After-byte_of-end)))

pub returns-else-frame-lt8 : goal.returns-else-frame-lt8
returns-else-frame-lt8 c =
    let a = c.args in
    let k : c.byte_of-start.result + (c.byte_of-end.result - c.byte_of-start.result) ≡ c.byte_of-end.result = omega (arith, apart (goal.at.returns-else-frame-lt8 c).After-byte_of-end) in
    let l = end (goal.at.returns-else-frame-lt8 c).After-byte_of-end in
    pixels_are a.frame _ a.colour (ok (goal.at.returns-else-frame-lt8 c).Start) c.if-frame-lt8.false a.y a.from a.past a.buf.now _
    c.fill_part.new.part _ _ c.requires.1 (λ i. (c.slice_known-1.given i).fits)
    (le_of_lt c.requires.2) c.requires.3
    c.byte_of-start.ensures (k ∙ c.byte_of-end.ensures) (omega arith) refl c.fill_part.ensures
