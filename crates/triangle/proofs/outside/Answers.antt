-- `triangle::outside` asks the columns, then the rows. Assumes nothing.
use mathlib.Core.Path.{◌≡◌, sym, ◌∙◌}
use borrow.Author.Rules.{rules}
use mir.Syntax.{w32}
use Rattle.whole.proofs.Machine.{field_back}
use Rattle.triangle.specs.Box.{is_beyond}
use Rattle.triangle.proofs.outside.Goals as goal
use Rattle.triangle.proofs.outside.Goals.{After-beyond}

pub beyond-requires : goal.beyond-requires
beyond-requires c = search rules

-- what the first call says of the columns
columns : (c : After-beyond) → (let g = c.args in is_beyond g.p.0 g.v1.0 g.v2.0 g.v3.0) ≡ c.beyond.result
columns c =
    let g = c.args in
    let px = field_back w32 g.p.0 c.struct_told-1.given.0.1 in
    let x1 = field_back w32 g.v1.0 c.struct_told-2-1.given.0.1 in
    let x2 = field_back w32 g.v2.0 c.struct_told-3-1.given.0.1 in
    let x3 = field_back w32 g.v3.0 c.struct_told-4-1.given.0.1 in
    sym (c.beyond.ensures ∙ (λ i. is_beyond (px i) (x1 i) (x2 i) (x3 i)))

pub beyond-requires-else-beyond : goal.beyond-requires-else-beyond
beyond-requires-else-beyond c = search rules

pub returns-then-beyond : goal.returns-then-beyond
returns-then-beyond c = let e = columns (goal.at.returns-then-beyond c).After-beyond ∙ c.if-beyond.true in rw e c.if-beyond.true

pub returns-else-beyond : goal.returns-else-beyond
returns-else-beyond c =
    let g = c.args in
    let py = field_back w32 g.p.1 c.struct_told-else-beyond-1.given.1.0.1 in
    let y1 = field_back w32 g.v1.1 c.struct_told-else-beyond-2-1.given.1.0.1 in
    let y2 = field_back w32 g.v2.1 c.struct_told-else-beyond-3-1.given.1.0.1 in
    let y3 = field_back w32 g.v3.1 c.struct_told-else-beyond-4-1.given.1.0.1 in
    let e = columns (goal.at.returns-else-beyond c).After-beyond ∙ c.if-beyond.false in
    rw e (c.beyond-else-beyond.ensures ∙ (λ i. is_beyond (py i) (y1 i) (y2 i) (y3 i)))
