-- `painting::paint_more` paints what is left of the span within the rectangle, if anything is. Assumes nothing.
use mathlib.Core.Path.{◌≡◌, refl, sym, ap, subst, ◌∙◌}
use mathlib.Core.Bool.{true}
use mathlib.Core.List.{List}
use Prim.Native.Nat.{ℕ, ◌+◌, ◌-◌, ◌≤◌, ◌<◌}
use native.Mathlib.Omega.{arith}
use lib.IntN.{ℤ, pos, nat_abs}
use mir.Facts.{to_z-of_z}
use Rattle.whole.specs.Interval.{between}
use Rattle.layout.specs.Layout.{painted}
use Rattle.layout.proofs.Placing.{Placing}
use Rattle.layout.proofs.Spans.{columns}
use Rattle.windows.specs.Window.{clipped}
use Rattle.frames.specs.Judged.{Described}
use Rattle.painting.specs.Brush.{ground, on_top}
use Rattle.frames.proofs.Refusals.{sound}
use Rattle.windows.proofs.Windows.{between_pos, in_between}
use Rattle.windows.proofs.Clips.{clip_bounds, row_off, span_left, span_gone}
use Rattle.painting.proofs.paint_more.Goals as goal
use Rattle.painting.proofs.paint_more.Goals.{After-clip-from, After-clip-past, After-is_between, Else-not-is_between, Start}

-- what the call may lean on
ok : (c : Start) → Described c.args.brush.frame
ok c = c.requires.0.drawable.accepted.described

at : (c : Start) → Placing (ground c.args.brush)
at c = sound c.args.brush.frame (ok c)

-- a count on top of those before
on_top_lem : (before : ℕ) {m n : ℕ} {b : List ℕ} {q : ℕ × List ℕ} → m ≡ before + n → (n, b) ≡ q → (m, b) ≡ on_top before q
on_top_lem before {b = b} e h = (λ i. (e i, b)) ∙ ap (on_top before) h

-- whether it has the row
row : (c : After-is_between)
    → (let a = c.args in between (pos a.brush.window.top) (pos a.brush.window.bottom) a.y ≡ c.is_between.result)
row c =
    let a = c.args in sym (c.is_between.ensures ∙ ap (λ (z : ℤ). between (pos a.brush.window.top) (pos a.brush.window.bottom) z) (to_z-of_z c.ranges.y))

pub returns-then-not-is_between : goal.returns-then-not-is_between
returns-then-not-is_between c =
    let a = c.args in
    on_top_lem a.before (omega arith)
    (row_off (ground a.brush) (at (goal.at.returns-then-not-is_between c).Start) a.brush.colour a.buf.now a.brush.window a.y a.start a.end c.requires.0.within (row (goal.at.returns-then-not-is_between c).After-is_between ∙ c.if-not-is_between.true))

inner : (c : Else-not-is_between) → (let a = c.args in between (pos a.brush.window.top) (pos a.brush.window.bottom) a.y ≡ true)
inner c = row (goal.at.Else-not-is_between c).After-is_between ∙ c.if-not-is_between.false

-- the columns that are left
from : (c : After-clip-from) → (let a = c.args in c.clip-from.result ≡ clipped a.start a.brush.window.left a.brush.window.right)
from c =
    c.clip-from.ensures ∙ ap (λ (x : ℤ). clipped x c.args.brush.window.left c.args.brush.window.right) (to_z-of_z c.ranges.start)

past : (c : After-clip-past)
    → (let a = c.args in c.clip-past.result ≡ clipped a.end a.brush.window.left a.brush.window.right)
past c =
    c.clip-past.ensures ∙ ap (λ (x : ℤ). clipped x c.args.brush.window.left c.args.brush.window.right) (to_z-of_z c.ranges.end)

pub returns-then-past-from : goal.returns-then-past-from
returns-then-past-from c =
    let a = c.args in
    let f = from (goal.at.returns-then-past-from c).After-clip-from in
    let p = past (goal.at.returns-then-past-from c).After-clip-past in
    on_top_lem a.before (omega arith)
    (span_gone (ground a.brush) (at (goal.at.returns-then-past-from c).Start) a.brush.colour a.buf.now a.brush.window a.y a.start a.end c.requires.0.within (inner (goal.at.returns-then-past-from c).Else-not-is_between)
    (subst (λ (x : ℕ). x ≤ clipped a.start a.brush.window.left a.brush.window.right) p (subst (λ (x : ℕ). c.clip-past.result ≤ x) f c.if-past-from.true)))

-- the row is one of the frame's
below : (c : Else-not-is_between) → (let a = c.args in nat_abs a.y < a.brush.frame.height)
below c =
    let a = c.args in
    let b = c.requires.0.within.bottom in
    let q = a.brush.window in
    let i = inner c in
    let l =
    (in_between (nat_abs a.y) q.top q.bottom (ap (λ (z : ℤ). between (pos q.top) (pos q.bottom) z) (sym (between_pos a.y q.top q.bottom i)) ∙ i)).1
    in omega arith

pub paint_columns-requires : goal.paint_columns-requires
paint_columns-requires c =
    let a = c.args in
    let q = a.brush.window in
    let w = c.requires.0.within in
    let most : clipped a.end q.left q.right ≤ q.right = (clip_bounds a.end q.left q.right w.across).1 in
    let p = past (goal.at.paint_columns-requires c).After-clip-past in (
      c.requires.0.drawable,
      subst (λ (z : ℤ). nat_abs z < a.brush.frame.height) (sym (to_z-of_z c.ranges.y)) (below (goal.at.paint_columns-requires c).Else-not-is_between),
      c.if-past-from.false,
      (let r = w.right in omega arith),
    )

pub returns : goal.returns
returns c =
    let a = c.args in
    let f = from (goal.at.returns c).After-clip-from in
    let p = past (goal.at.returns c).After-clip-past in
    on_top_lem a.before refl ((λ k. (
      p k - f k,
      (c.paint_columns.ensures
          ∙ (λ j. painted (ground a.brush) (columns (nat_abs (to_z-of_z c.ranges.y j)) (f j) (p j)) a.brush.colour a.buf.now)) k,
    ))
    ∙ span_left (ground a.brush) (at (goal.at.returns c).Start) a.brush.colour a.buf.now a.brush.window a.y a.start a.end c.requires.0.within
    (inner (goal.at.returns c).Else-not-is_between) (below (goal.at.returns c).Else-not-is_between) (omega arith))
