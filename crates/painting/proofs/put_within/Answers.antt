-- `painting::put_within` puts the pixel where the rectangle holds its place. Assumes nothing.
use mathlib.Core.Path.{◌≡◌, sym, ap₂, ◌∙◌}
use mir.Syntax.{w32}
use mir.Val.{to_z, of_z}
use Rattle.whole.proofs.Machine.{field_back}
use Rattle.frames.specs.Description.{raster}
use Rattle.windows.specs.Window.{in_window}
use Rattle.frames.specs.Judged.{Described}
use Rattle.frames.proofs.Refusals.{sound}
use Rattle.windows.proofs.Windows.{point_off}
use Rattle.painting.proofs.put_within.Goals as goal
use Rattle.painting.proofs.put_within.Goals.{After-holds, After-struct_told-2-1, Start}

-- what the call may lean on
ok : (c : Start) → Described c.args.frame
ok c = c.requires.0.accepted.described

-- the coordinates, as the code reads them, and whether the rectangle holds them
across : (c : After-struct_told-2-1) → to_z w32 (of_z w32 c.args.p.0) ≡ c.args.p.0
across c = field_back w32 c.args.p.0 c.struct_told-2-1.given.0.1

down : (c : After-struct_told-2-1) → to_z w32 (of_z w32 c.args.p.1) ≡ c.args.p.1
down c = field_back w32 c.args.p.1 c.struct_told-2-1.given.1.0.1

held : (c : After-holds) → (let a = c.args in in_window a.window a.p.0 a.p.1 ≡ c.holds.result)
held c = let a = c.args in sym (c.holds.ensures ∙ ap₂ (in_window a.window) (across (goal.at.After-holds c).After-struct_told-2-1) (down (goal.at.After-holds c).After-struct_told-2-1))

pub returns-then-not-holds : goal.returns-then-not-holds
returns-then-not-holds c =
    let a = c.args in
    let off = held (goal.at.returns-then-not-holds c).After-holds ∙ c.if-not-holds.true in
    (sym off, point_off a.window a.p.0 a.p.1 (raster a.frame) (sound a.frame (ok (goal.at.returns-then-not-holds c).Start)) a.colour a.buf.now off)
