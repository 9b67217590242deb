-- `reports::spans::next_part` writes at most 1,024 rows, for which the buffer has room. Assumes nothing.
use mathlib.Core.Path.{◌≡◌, sym, ap₂, subst, ◌∙◌}
use Prim.Native.Nat.{◌≤◌}
use native.Mathlib.Omega.{arith}
use lib.IntN.{ℤ, pos, ◌+ℤ◌}
use lib.Signed.{◌≤ℤ◌}
use mir.Syntax.{w32}
use mir.Val.{to_z, of_z, SFits}
use mir.Facts.{to_z-of_z}
use borrow.Author.Rules.{rules}
use Rattle.whole.proofs.Machine.{same_bits, field_back}
use Rattle.text.proofs.Writing.{wrote_as}
use Rattle.reports.specs.Spans.{row_lines}
use Rattle.reports.proofs.Report.{next_part_is}
use Rattle.reports.proofs.Within.{further_fits, fewer_below}
use Rattle.reports.proofs.spans.next_part.Goals as goal
use Rattle.reports.proofs.spans.next_part.Goals.{After-min-count}

-- the rows of the part
module _ (c : After-min-count) where
  few : c.min-count.result ≤ c.args.p.left
  few = omega (arith, c.min-count.ensures)

  at_once : c.min-count.result ≤ 1024
  at_once = omega (arith, c.min-count.ensures)

  module _ (first : to_z w32 (of_z w32 c.args.p.first) ≡ c.args.p.first) where
    below : to_z w32 (of_z w32 c.args.p.first) +ℤ to_z w32 c.min-count.result ≡ c.args.p.first +ℤ pos c.min-count.result
    below = ap₂ (λ (y z : ℤ). y +ℤ z) first (same_bits {w = w32} at_once tt).is

    next : SFits w32 c.args.p.first → SFits w32 (to_z w32 (of_z w32 c.args.p.first) +ℤ to_z w32 c.min-count.result)
    next f = let p = c.args.p in subst (SFits w32) (sym below) (further_fits p.first p.left c.min-count.result few c.requires.1 f)

pub write_rows-end-requires : goal.write_rows-end-requires
write_rows-end-requires c =
    let p = c.args.p in
    let n = c.min-count.result in (
      omega (arith, c.requires.0, at_once (goal.at.write_rows-end-requires c).After-min-count),
      subst (λ (z : ℤ). (z +ℤ pos n) ≤ℤ pos 131072) (sym (field_back w32 p.first c.struct_told-1.given.1.0.1)) (fewer_below p.first p.left n (few (goal.at.write_rows-end-requires c).After-min-count) c.requires.1),
    )

pub overflow_cast-result : goal.overflow_cast-result
overflow_cast-result c = search rules

pub overflow_add-result : goal.overflow_add-result
overflow_add-result c =
    let f = c.struct_told-2-1.given.1.0.1 in
    next (goal.at.overflow_add-result c).After-min-count
    (field_back w32 c.args.p.first f) (record { sfits = f })

pub overflow_sub-result : goal.overflow_sub-result
overflow_sub-result c = search rules

pub shape_of-out : goal.shape_of-out
shape_of-out c = search rules

pub returns : goal.returns
returns c =
    let a = c.args in
    let p = a.p in
    let v = a.v in
    let f = c.struct_told-2-1.given.1.0.1 in
    let first = field_back w32 p.first f in
    let t = c.unwrap_or.ensures in
    let w = wrote_as a.out.now 0 (λ i. row_lines (t i) (first i) (c.min-count.ensures i)) c.write_rows-end.ensures in
    (next_part_is v p w.0 (to_z-of_z (next (goal.at.returns c).After-min-count first (record { sfits = f })) ∙ below (goal.at.returns c).After-min-count first) c.min-count.ensures, w.1)
