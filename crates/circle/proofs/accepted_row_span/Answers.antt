-- `circle::accepted_row_span` is the span: on a row of the box the box's, on another 0 to 0. Assumes nothing.
use mathlib.Core.Path.{◌≡◌, sym, ap, ap₂, ◌∙◌}
use lib.IntN.{ℤ}
use mir.Syntax.{w32}
use mir.Facts.{to_z-of_z}
use borrow.Author.Rules.{rules}
use borrow.Author.Tests.{not-true, not-false}
use Rattle.whole.proofs.Machine.{field_back}
use Rattle.circle.specs.Circle.{box_row, in_box, span_start, span_end}
use Rattle.circle.proofs.Spans.{first_column, no_start, no_end}
use Rattle.circle.proofs.accepted_row_span.Goals as goal
use Rattle.circle.proofs.accepted_row_span.Goals.{After-in_box}

pub in_box-requires : goal.in_box-requires
in_box-requires c = search rules

-- the call says whether the row is one of the box
asked : (c : After-in_box) → box_row c.args.topleft c.args.diameter c.args.y ≡ c.in_box.result
asked c =
    sym (c.in_box.ensures
    ∙ ap₂ (λ (x y : ℤ). in_box c.args.topleft c.args.diameter (x, y)) (field_back w32 c.args.topleft.0 c.struct_told-1.given.0.1) (to_z-of_z c.ranges.y)
    ∙ first_column c.args.topleft c.args.diameter c.args.y)

pub returns-then-not-in_box : goal.returns-then-not-in_box
returns-then-not-in_box c =
    let out = asked (goal.at.returns-then-not-in_box c).After-in_box ∙ not-true _ c.if-not-in_box.true-raw in
    sym (ap₂ (λ a b. (a, b)) (no_start c.args.topleft c.args.diameter c.args.y out) (no_end c.args.topleft c.args.diameter c.args.y out))

pub box_row_span-requires : goal.box_row_span-requires
box_row_span-requires c =
    (c.requires, ap (box_row c.args.topleft c.args.diameter) (to_z-of_z c.ranges.y) ∙ asked (goal.at.box_row_span-requires c).After-in_box ∙ not-false _ c.if-not-in_box.false-raw)

pub returns : goal.returns
returns c =
    c.box_row_span.ensures ∙ ap (λ (y : ℤ). (span_start c.args.topleft c.args.diameter y, span_end c.args.topleft c.args.diameter y)) (to_z-of_z c.ranges.y)
